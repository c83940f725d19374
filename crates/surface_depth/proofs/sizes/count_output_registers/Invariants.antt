use Rattle.std.proofs.Common.{◌≡◌, ◌+◌, drop}
use Rattle.statement_cells.specs.Whole.{output_registers}
use Rattle.surface_depth.proofs.sizes.count_output_registers.Given as goal

abbrev pub invariant-loop-output : goal.invariant-loop-output
invariant-loop-output l = l.total + output_registers l.vars (drop l.output-index l.outputs) ≡ output_registers l.vars l.outputs
