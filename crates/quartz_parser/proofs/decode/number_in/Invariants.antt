use Rattle.std.proofs.Common.{◌≡◌, ◌<◌, ◌^◌, drop}
use Rattle.quartz_parser.specs.Symbols.{digits_from, digits}
use Rattle.quartz_parser.proofs.decode.number_in.Given as goal

abbrev pub invariant-loop-digit : goal.invariant-loop-digit
invariant-loop-digit l = (digits_from l.base l.value (drop l.digit-index l.word) ≡ digits l.base l.word) × (l.value < l.base ^ l.digit-index)
