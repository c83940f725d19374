-- The lines of a trace, and the words of a line.
use Rattle.std.specs.Prelude.{ℕ, Bool, false, ◌==◌, ◌||◌, nat_le, List, [], ◌∷◌, ◌++◌, length, filter, if◌then◌else◌}

-- a byte before the first of some pieces
abbrev pub before_first : ℕ → List (List ℕ) → List (List ℕ)
before_first c [] = (c ∷ []) ∷ []
before_first c (piece ∷ pieces) = (c ∷ piece) ∷ pieces

-- the pieces of a text, each up to its LF; a last piece without LF counts if it isn't empty
abbrev pub lines : List ℕ → List (List ℕ)
lines [] = []
lines (c ∷ text) = if c == 10 then (c ∷ []) ∷ lines text else before_first c (lines text)

-- the lines together
abbrev pub joined_lines : List (List ℕ) → List ℕ
joined_lines [] = []
joined_lines (line ∷ rest) = line ++ joined_lines rest

-- without the last byte, where that is this one
abbrev pub without_last : ℕ → List ℕ → List ℕ
without_last c [] = []
without_last c (b ∷ bs) = keeps bs (without_last c bs)
  where
    keeps : List ℕ → List ℕ → List ℕ
    keeps [] rest = if b == c then [] else b ∷ []
    keeps (_ ∷ _) rest = b ∷ rest

-- a line without its LF
abbrev pub unended : List ℕ → List ℕ
unended line = without_last 10 line

-- at most 65,536 bytes stand before the LF
abbrev pub is_short : List ℕ → Bool
is_short line = nat_le (length (unended line)) 65536

-- what stands in a line: without its LF, and without one CR at the end of the rest
abbrev pub text_in : List ℕ → List ℕ
text_in line = without_last 13 (unended line)

-- a blank or a tab
abbrev pub is_blank : ℕ → Bool
is_blank c = c == 32 || c == 9

-- a byte of a word before what follows it: a word of its own before a blank or the end, and else the first of the next word
abbrev pub before_words : ℕ → List ℕ → List (List ℕ) → List (List ℕ)
before_words c [] ws = (c ∷ []) ∷ ws
before_words c (d ∷ _) ws = if is_blank d then (c ∷ []) ∷ ws else before_first c ws

-- the pieces of a text between blanks and tabs
abbrev pub words : List ℕ → List (List ℕ)
words [] = []
words (c ∷ cs) = if is_blank c then words cs else before_words c cs (words cs)

-- an LF is the last byte
abbrev pub is_ended : List ℕ → Bool
is_ended [] = false
is_ended (c ∷ []) = c == 10
is_ended (c ∷ d ∷ cs) = is_ended (d ∷ cs)

-- the end of a line is known: its LF came, or 65,537 of its bytes
abbrev pub is_whole : List ℕ → Bool
is_whole line = is_ended line || nat_le 65537 (length line)

-- the lines of taken bytes that are whole, whatever follows
abbrev pub whole_lines : List ℕ → List (List ℕ)
whole_lines bytes = filter is_whole (lines bytes)
