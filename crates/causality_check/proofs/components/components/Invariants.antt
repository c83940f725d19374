use Rattle.std.proofs.Common.{◌≡◌, ◌<◌, ℕ, []}
use Rattle.causality_check.specs.declared.components.Mark.TheVariants.{New}
use Rattle.causality_check.specs.Search.{Holds, mark, table}
use Rattle.causality_check.proofs.components.components.Given as goal

abbrev pub invariant-loop-root : goal.invariant-loop-root
invariant-loop-root l = record {
  holds : Holds l.graph (table l.search);
  none : l.search.stack.items ≡ [];
  reached : (a : ℕ) → a < l.root → mark (table l.search) a ≡ New → ⊥;
}
