use Rattle.std.proofs.Common.{◌≡◌, ◌++◌, drop}
use Rattle.trace_io.specs.Inputs.{fields_from}
use Rattle.trace_io.proofs.fields.fields_of.Given as goal

abbrev pub invariant-loop-place : goal.invariant-loop-place
invariant-loop-place l = l.fields.items ++ fields_from l.place (drop l.place l.types) ≡ fields_from 0 l.types
