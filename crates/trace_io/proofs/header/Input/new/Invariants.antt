use Rattle.std.proofs.Common.{◌≡◌, ◌++◌, ◌-◌}
use Rattle.std.specs.Prelude.{replicate}
use Rattle.trace_io.specs.Inputs.{fields_from, scalars}
use Rattle.trace_io.proofs.header.Input.new.Given as goal

abbrev pub invariant-loop-at : goal.invariant-loop-at
invariant-loop-at l = l.fields.items ++ fields_from l.at (replicate (l.behind - l.at) l.base) ≡ fields_from l.place (scalars l.var)
