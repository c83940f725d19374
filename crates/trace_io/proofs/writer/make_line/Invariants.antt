use Rattle.std.proofs.Common.{◌≡◌, ◌≤◌, ◌+◌, ◌*◌, ◌++◌, length, drop}
use Rattle.std.specs.Prelude.{vec_capacity}
use Rattle.trace_io.specs.Writing.{line_of_types, line_behind, all_in_range}
use Rattle.trace_io.proofs.writer.make_line.Given as goal

abbrev pub invariant-loop-at : goal.invariant-loop-at
invariant-loop-at l = record {
  text : l.line.items ++ line_behind l.at (drop l.at l.types) (all_in_range (drop l.at l.types) (drop l.at l.values)) ≡ line_of_types l.types (all_in_range l.types l.values);
  size : length l.line.items ≤ l.at * 35;
  room : length l.types * 35 + 1 ≤ vec_capacity l.line;
  stays : vec_capacity l.initial.line ≤ vec_capacity l.line;
}
