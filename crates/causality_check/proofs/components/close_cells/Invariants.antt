use Rattle.std.proofs.Common.{◌≡◌, ℕ, take, Contains}
use Rattle.causality_check.specs.declared.components.Mark.TheVariants.{Closed}
use Rattle.causality_check.specs.Search.{mark_in}
use Rattle.causality_check.proofs.components.close_cells.Given as goal

abbrev pub invariant-loop-cell : goal.invariant-loop-cell
invariant-loop-cell l = record {
  closed : (a : ℕ) → Contains (take l.cell-index l.cells) a → mark_in l.marks a ≡ Closed l.component;
  kept : (a : ℕ) → (¬ Contains (take l.cell-index l.cells) a) → mark_in l.marks a ≡ mark_in l.initial.marks a;
}
