use Rattle.std.proofs.Common.{◌≡◌, drop}
use Rattle.surface_depth.specs.Ends.{are_below}
use Rattle.surface_depth.proofs.ending.are_below.Given as goal

abbrev pub invariant-loop-cell : goal.invariant-loop-cell
invariant-loop-cell l = are_below l.bound l.cells ≡ are_below l.bound (drop l.cell-index l.cells)
