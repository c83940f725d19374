use Rattle.std.proofs.Common.{◌≡◌, ◌≤◌, ◌+◌, ◌++◌, length}
use Rattle.std.specs.Prelude.{vec_capacity}
use Rattle.trace_io.specs.Values.{binary}
use Rattle.trace_io.proofs.value.push_bits.Given as goal

abbrev pub invariant-loop-left : goal.invariant-loop-left
invariant-loop-left l = record {
  within : l.left ≤ l.width;
  text : l.line.items ++ binary l.left l.number ≡ l.initial.line.items ++ binary l.width l.number;
  size : length l.line.items + l.left ≡ length l.initial.line.items + l.width;
  room : length l.line.items + l.left ≤ vec_capacity l.line;
  stays : vec_capacity l.initial.line ≤ vec_capacity l.line;
}

abbrev pub decreases-loop-left : goal.decreases-loop-left
decreases-loop-left l = l.left
