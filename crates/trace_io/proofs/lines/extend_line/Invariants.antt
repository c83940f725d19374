use Rattle.std.proofs.Common.{◌≡◌, ◌≤◌, ◌-◌, ◌++◌, false, length, take}
use Rattle.std.specs.Prelude.{vec_capacity}
use Rattle.trace_io.specs.Held.{has_line_end}
use Rattle.trace_io.proofs.lines.extend_line.Given as goal

abbrev pub invariant-loop-count : goal.invariant-loop-count
invariant-loop-count l = record {
  within : l.count ≤ length l.bytes;
  added : l.line.items ≡ l.initial.line.items ++ take l.count l.bytes;
  still_open : has_line_end l.line.items ≡ false;
  short : length l.line.items ≤ 65537;
  room : 65537 ≤ vec_capacity l.line;
  stays : vec_capacity l.initial.line ≤ vec_capacity l.line;
}

abbrev pub decreases-loop-count : goal.decreases-loop-count
decreases-loop-count l = length l.bytes - l.count
