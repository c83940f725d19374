use Rattle.std.proofs.Common.{◌≡◌, ◌++◌, drop, map}
use Rattle.statement_cells.specs.Whole.{output_cells}
use Rattle.surface_depth.specs.Begins.{output_copy}
use Rattle.surface_depth.proofs.assembling.output_cells.Given as goal

abbrev pub invariant-loop-output : goal.invariant-loop-output
invariant-loop-output l = l.cells ++ output_cells (map output_copy (drop l.output-index l.outputs)) ≡ output_cells (map output_copy l.outputs)
