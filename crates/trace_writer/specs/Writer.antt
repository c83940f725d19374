-- A writer between two steps.
use Rattle.std.specs.Prelude.{ℕ, zero, suc, ℤ, List, length, take}
use Rattle.quartz_tree.specs.declared.declare.Base.{Base}
use Rattle.trace_io.specs.Writing.{all_in_range}
use Rattle.trace_writer.specs.declared.format.Format.{Format}
use Rattle.trace_writer.specs.Anew.{spaced_words, joined_words, new_line}

-- its format, the types of the elements, their last values, and the line that it holds
pub record Pen : Type 0 where
  pub format : Format
  pub types : List Base
  pub last : List ℤ
  pub line : List ℕ

-- it holds the line of a step, whose values are the last ones then; 0 is put for a value out of its type's range
abbrev pub pen_after : Pen → (values : List ℤ) → Pen
pen_after p zs = record {
  format = p.format;
  types = p.types;
  last = take (length p.types) zs;
  line = new_line p.format p.types p.last (all_in_range p.types zs);
}

-- the words of a line that follow so many others
abbrev pub words_behind : (count : ℕ) → List (List ℕ) → List ℕ
words_behind zero = joined_words
words_behind (suc n) = spaced_words
