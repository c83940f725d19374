use Rattle.std.proofs.Common.{◌≤◌, length, drop}
use Rattle.std.specs.Prelude.{vec_capacity}
use Rattle.trace_io.specs.Counting.{longest_line}
use Rattle.trace_io.proofs.CountLemmas.{Kept}
use Rattle.trace_io.proofs.count.add_bytes.Given as goal

abbrev pub invariant-loop-byte : goal.invariant-loop-byte
invariant-loop-byte l = record {
  kept : Kept l.initial.line.items l.bytes l.line.items (drop l.byte-index l.bytes);
  within : length l.line.items ≤ longest_line;
  room : longest_line ≤ vec_capacity l.line;
  stays : vec_capacity l.initial.line ≤ vec_capacity l.line;
}
