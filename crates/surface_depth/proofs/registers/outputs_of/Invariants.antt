use Rattle.std.proofs.Common.{◌≡◌, ◌++◌, drop}
use Rattle.quartz_expr.specs.Steps.{outputs_from, outputs_of}
use Rattle.surface_depth.proofs.registers.outputs_of.Given as goal

abbrev pub invariant-loop-number : goal.invariant-loop-number
invariant-loop-number l = l.outputs ++ outputs_from l.number (drop l.number l.vars) ≡ outputs_of l.vars
