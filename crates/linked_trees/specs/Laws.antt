-- Theorem L: a module among modules and the module in which its calls are replaced have the same runs.
use Rattle.std.specs.Prelude.{◌≡◌, ℕ, ℤ, ◌+◌, ◌≤◌, ◌^◌, Bool, true, false, List, [], length, Option, Some}
use Rattle.quartz_tree.specs.declared.fault.Fault.{Fault}
use Rattle.quartz_tree.specs.Expand.{expanded}
use Rattle.quartz_tree.specs.Surfaces.{Word, ModuleTree}
use Rattle.quartz_expr.specs.Runs as plain
use Rattle.quartz_names.specs.Numbering.{locals}
use Rattle.quartz_names.specs.Resolving.{body_scope, has_call, module_name_breaks, resolved_body, resolved_vars}
use Rattle.framed_terms.specs.FramedRuns.{Runs}
use Rattle.linked_trees.specs.Dotted.{is_plain, with_number}
use Rattle.linked_trees.specs.Fit.{AllCalls, AllPlain, AreInner, Calls}
use Rattle.linked_trees.specs.Framing.{meaning_of, meanings_of}
use Rattle.linked_trees.specs.Linking.{calls, linked_module, linker}
use Rattle.linked_trees.specs.Naming.{module_named}

-- what the theorem asks of the module that is linked, and of what it is linked to
pub record IsMain (is_plain : Word → Bool) (dotted : Word → ℕ → Word) (most : ℕ) (ms : List ModuleTree) (counts : Word → Type 0) (height : Word → ℕ) (main : ModuleTree) (d : ℕ) : Type 0 where
  pub fit : Calls is_plain ms counts height d (resolved_vars main) (body_scope main) (length main.params) main.body
  pub room : 1 + calls dotted (linker dotted ms d) main.body ≤ most
  pub plain_params : AllPlain is_plain main.params
  pub inner_own : AreInner (locals (expanded main.body))
  pub inner_called : (x : Word) (t : ModuleTree) → module_named ms x ≡ Some t → AreInner (locals (expanded t.body))
  pub unbroken : module_name_breaks (linked_module dotted ms d main) ≡ []

-- the module with its calls replaced, each number behind a dot
abbrev pub replaced : List ModuleTree → (depth : ℕ) → ModuleTree → ModuleTree
replaced ms d main = linked_module with_number ms d main

-- the runs of the module among the modules are those of the linked module
pub record HaveSameRuns (ms : List ModuleTree) (main linked : ModuleTree) : Type 0 where
  pub forth : (ins outs : List (List (List ℤ))) (end : Option Fault) → Runs (meanings_of ms) (meaning_of main) ins outs end → plain.Runs (resolved_vars linked) (resolved_body linked) ins outs end
  pub back : (ins outs : List (List (List ℤ))) (end : Option Fault) → plain.Runs (resolved_vars linked) (resolved_body linked) ins outs end → Runs (meanings_of ms) (meaning_of main) ins outs end

-- where the calls of main and of all modules that count are fit, names are plain, and the linked module keeps the rule of names
abbrev pub LinkedHasSameRuns : Type 0
LinkedHasSameRuns = (ms : List ModuleTree) (is_counted : Word → Bool) (height : Word → ℕ) (main : ModuleTree) (d : ℕ)
    → AllCalls is_plain ms (λ x. is_counted x ≡ true) height → IsMain is_plain with_number (2 ^ 32) ms (λ x. is_counted x ≡ true) height main d
    → HaveSameRuns ms main (replaced ms d main)

-- a module without calls is linked to itself
abbrev pub UncalledIsItself : Type 0
UncalledIsItself = (ms : List ModuleTree) (d : ℕ) (m : ModuleTree) → has_call m.body ≡ false → replaced ms d m ≡ m

-- and no call is left in a linked module
abbrev pub LinkedHasNoCall : Type 0
LinkedHasNoCall = (ms : List ModuleTree) (d : ℕ) (m : ModuleTree) → has_call (replaced ms d m).body ≡ false
