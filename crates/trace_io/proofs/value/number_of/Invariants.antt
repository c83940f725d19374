use Rattle.std.proofs.Common.{◌≡◌, ◌≤◌, ◌^◌, drop}
use Rattle.std.specs.Prelude.{option_map}
use Rattle.trace_io.specs.Values.{digits_behind}
use Rattle.trace_io.specs.Capped.{capped}
use Rattle.trace_io.proofs.value.number_of.Given as goal

abbrev pub invariant-loop-byte : goal.invariant-loop-byte
invariant-loop-byte l = record {
  within : l.number ≤ 2 ^ 40;
  value : option_map capped (digits_behind l.radix 0 l.digits) ≡ option_map capped (digits_behind l.radix l.number (drop l.byte-index l.digits));
}
