use Rattle.std.proofs.Common.{◌≡◌, ◌++◌, drop}
use Rattle.statement_cells.specs.Whole.{outputs_registers}
use Rattle.surface_depth.proofs.registers.push_outputs.Given as goal

abbrev pub invariant-loop-output : goal.invariant-loop-output
invariant-loop-output l = l.registers ++ outputs_registers l.vars (drop l.output-index l.outputs) ≡ l.initial.registers ++ outputs_registers l.vars l.outputs
