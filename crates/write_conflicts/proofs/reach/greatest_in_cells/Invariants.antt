use Rattle.std.proofs.Common.{◌≤◌, All, take}
use Rattle.aif_cells.specs.Tree.{tree}
use Rattle.write_conflicts.specs.Tables.{greatest_in}
use Rattle.write_conflicts.proofs.reach.greatest_in_cells.Given as goal

abbrev pub invariant-loop-cell : goal.invariant-loop-cell
invariant-loop-cell l = All (λ c. greatest_in l.group (tree c.tree) ≤ l.greatest) (take l.cell-index l.cells)
