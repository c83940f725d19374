-- What `check` and `load` write.
use Rattle.std.specs.Prelude.{ℕ, List, [], ◌∷◌, ◌++◌, length, codes, decimal}
use Rattle.outside.specs.Report.{line_end}
use Rattle.trace_io.specs.Lines.{joined_lines}
use Rattle.trace_io.specs.Counting.{Tally}

-- a text, and a number behind it
abbrev pub counted_text : (text : List ℕ) → ℕ → List ℕ
counted_text text n = text ++ decimal n

-- of an accepted module: how many cells and registers it has, and how many pairs of writes are loose
abbrev pub accepted_text : (cells registers loose : ℕ) → List ℕ
accepted_text c r p = counted_text (codes "accepted cells ") c ++ (counted_text (codes " registers ") r ++ (counted_text (codes " loose ") p ++ line_end))

-- the last of some lines
abbrev pub last_of : List (List ℕ) → List ℕ
last_of [] = []
last_of (line ∷ []) = line
last_of (line ∷ other ∷ lines) = last_of (other ∷ lines)

-- how many bytes lines have together, and the last of them
abbrev pub tally_of : List (List ℕ) → Tally
tally_of lines = record { count = length (joined_lines lines); last = last_of lines }

-- a number of steps, a number of bytes, and a last line, with the LF at its end
abbrev pub summary_of : (steps : ℕ) → Tally → List ℕ
summary_of steps t = counted_text (codes "steps ") steps ++ (counted_text (codes " bytes ") t.count ++ (codes "\nlast " ++ t.last))

-- of the lines of a run: how many they are, how many bytes they have, and the last of them
abbrev pub summary_text : List (List ℕ) → List ℕ
summary_text lines = summary_of (length lines) (tally_of lines)
