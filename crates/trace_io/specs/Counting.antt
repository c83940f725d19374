-- A sink that counts bytes and keeps the last line.
use Rattle.std.specs.Prelude.{◌≡◌, ℕ, ◌-◌, ◌^◌, ◌<◌, ◌⊎◌, Bool, true, ◌||◌, nat_lt, List, [], ◌∷◌, ◌++◌, length, if◌then◌else◌}
use Rattle.trace_io.specs.Lines.{is_ended}

pub record Tally : Type 0 where
  pub count : ℕ
  pub last : List ℕ

-- the longest line that 65,536 elements make
abbrev pub longest_line : ℕ
longest_line = 2293760

-- a line with one byte more: behind an LF it begins a new line
abbrev pub line_with : List ℕ → ℕ → List ℕ
line_with line c = if is_ended line then c ∷ [] else line ++ (c ∷ [])

-- the last line of some bytes behind a line
abbrev pub last_line : List ℕ → List ℕ → List ℕ
last_line line [] = line
last_line line (c ∷ cs) = last_line (line_with line c) cs

-- behind a line the bytes make a line that is longer than the longest one
abbrev pub grows_long : List ℕ → List ℕ → Bool
grows_long line [] = nat_lt longest_line (length line)
grows_long line (c ∷ cs) = nat_lt longest_line (length line) || grows_long (line_with line c) cs

-- the lists with that number of bytes and that last line, those with a line that is too long, and those with too many bytes
abbrev pub StandsFor : Tally → List ℕ → Type 0
StandsFor t bytes = ((length bytes ≡ t.count) × (last_line [] bytes ≡ t.last)) ⊎ ((grows_long [] bytes ≡ true) ⊎ (2 ^ 64 - 1 < length bytes))
