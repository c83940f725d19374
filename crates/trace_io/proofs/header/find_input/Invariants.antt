use Rattle.std.proofs.Common.{◌≡◌, drop}
use Rattle.trace_io.specs.Header.{number_named}
use Rattle.trace_io.proofs.HeaderLemmas.{shifted}
use Rattle.trace_io.proofs.header.find_input.Given as goal

abbrev pub invariant-loop-number : goal.invariant-loop-number
invariant-loop-number l = number_named l.inputs l.name ≡ shifted l.number (number_named (drop l.number l.inputs) l.name)
