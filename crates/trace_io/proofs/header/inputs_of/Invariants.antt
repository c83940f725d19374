use Rattle.std.proofs.Common.{◌≡◌, ◌++◌, drop}
use Rattle.trace_io.specs.Header.{inputs_from}
use Rattle.trace_io.proofs.header.inputs_of.Given as goal

abbrev pub invariant-loop-var : goal.invariant-loop-var
invariant-loop-var l = l.inputs.items ++ inputs_from l.place (drop l.var-index l.vars) ≡ inputs_from 0 l.vars
