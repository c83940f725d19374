use Rattle.std.proofs.Common.{◌≡◌, ◌≤◌, ◌-◌, ◌++◌, length, take, drop}
use Rattle.trace_io.specs.Scan.{front_word, behind_word}
use Rattle.trace_io.proofs.line.word_length.Given as goal

abbrev pub invariant-loop-end : goal.invariant-loop-end
invariant-loop-end l = record {
  within : l.end ≤ length l.text;
  front : front_word l.text ≡ take l.end l.text ++ front_word (drop l.end l.text);
  behind : behind_word l.text ≡ behind_word (drop l.end l.text);
}

abbrev pub decreases-loop-end : goal.decreases-loop-end
decreases-loop-end l = length l.text - l.end
