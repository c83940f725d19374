use Rattle.std.proofs.Common.{◌≡◌, ◌≤◌, ◌+◌, ◌*◌, ◌++◌, length, min, drop}
use Rattle.std.specs.Prelude.{vec_capacity}
use Rattle.trace_io.specs.Writing.{all_in_range}
use Rattle.trace_writer.specs.Anew.{joined_words, new_words}
use Rattle.trace_writer.specs.Writer.{words_behind}
use Rattle.trace_writer.proofs.word.make_line.Given as goal

abbrev pub invariant-loop-at : goal.invariant-loop-at
invariant-loop-at l = record {
  within : l.at ≤ l.at-end;
  end : l.at-end ≡ min (length l.types) (min (length l.last) (length l.values));
  text : l.line.items ++ words_behind l.at (new_words l.format (drop l.at l.types) (drop l.at l.last) (all_in_range (drop l.at l.types) (drop l.at l.values)))
      ≡ joined_words (new_words l.format l.types l.last (all_in_range l.types l.values));
  size : length l.line.items ≤ l.at * 35;
  room : length l.types * 35 + 1 ≤ vec_capacity l.line;
  stays : vec_capacity l.initial.line ≤ vec_capacity l.line;
}
