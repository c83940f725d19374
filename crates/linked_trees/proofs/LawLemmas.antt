-- Theorem L over the numbers of calls as they are written, and that a module without calls is linked to itself.
use Rattle.std.proofs.Common.{◌≡◌, ℕ, ◌^◌, true, List}
use Rattle.quartz_tree.specs.Surfaces.{Word, ModuleTree}
use Rattle.linked_trees.specs.Dotted.{is_plain, with_number}
use Rattle.linked_trees.specs.Fit.{AllCalls}
use Rattle.linked_trees.specs.Laws.{HaveSameRuns, IsMain, LinkedHasSameRuns, UncalledIsItself, replaced}
use Rattle.linked_trees.proofs.DotLemmas.{dots}
use Rattle.linked_trees.proofs.PlainLemmas.{module_same}
use Rattle.linked_trees.proofs.TheoremLemmas.{same_meaning}

-- whatever makes a module count
pub have_same_runs : (ms : List ModuleTree) (counts : Word → Type 0) (height : Word → ℕ) (main : ModuleTree) (d : ℕ)
    → AllCalls is_plain ms counts height → IsMain is_plain with_number (2 ^ 32) ms counts height main d → HaveSameRuns ms main (replaced ms d main)
have_same_runs ms counts height main d all h = record {
  forth = λ ins outs end. (same_meaning is_plain with_number (2 ^ 32) ms counts height all main d h dots ins outs end).0;
  back = λ ins outs end. (same_meaning is_plain with_number (2 ^ 32) ms counts height all main d h dots ins outs end).1;
}

pub linked_has_same_runs : LinkedHasSameRuns
linked_has_same_runs ms is_counted height main d all h = have_same_runs ms (λ x. is_counted x ≡ true) height main d all h

pub uncalled_is_itself : UncalledIsItself
uncalled_is_itself ms d m e = module_same with_number ms d m e
