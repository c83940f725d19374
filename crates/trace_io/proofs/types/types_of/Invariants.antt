use Rattle.std.proofs.Common.{◌≡◌, ◌++◌, drop}
use Rattle.trace_io.specs.Inputs.{types_with}
use Rattle.trace_io.proofs.types.types_of.Given as goal

abbrev pub invariant-loop-var : goal.invariant-loop-var
invariant-loop-var l = l.types.items ++ types_with l.flow (drop l.var-index l.vars) ≡ types_with l.flow l.vars
