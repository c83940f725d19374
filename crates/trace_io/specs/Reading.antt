-- What a trace says: for each macro step the values of the inputs' elements, or none where it isn't readable.
use Rattle.std.specs.Prelude.{ℕ, ℤ, pos, Bool, false, ◌==◌, ◌&&◌, List, [], ◌∷◌, length, slice_set, replicate, Option, Some, None, option_map, option_and_then, if◌then◌else◌}
use Rattle.std.specs.Str.{bytes_eq}
use Rattle.quartz_tree.specs.declared.declare.Base.{Base}
use Rattle.quartz_expr.specs.Vars.{Vars}
use Rattle.trace_io.specs.declared.field.Field.{Field}
use Rattle.trace_io.specs.Lines.{lines, words, text_in, is_short}
use Rattle.trace_io.specs.Values.{reads_value}
use Rattle.trace_io.specs.Inputs.{input_types, all_named, are_different}

-- a value before others, where there are both
abbrev pub before_values : Option ℤ → Option (List ℤ) → Option (List ℤ)
before_values (Some z) (Some zs) = Some (z ∷ zs)
before_values _ _ = None

-- one value for each type, each readable and in range
abbrev pub reads_values : List Base → (words : List (List ℕ)) → Option (List ℤ)
reads_values [] [] = Some []
reads_values (b ∷ bs) (w ∷ ws) = before_values (reads_value b w) (reads_values bs ws)
reads_values _ _ = None

-- the values of a line of format 1
abbrev pub reads_line : Vars → (line : List ℕ) → Option (List ℤ)
reads_line vs line = if is_short line then reads_values (input_types vs) (words (text_in line)) else None

-- `_` keeps an element's last value
abbrev pub keeps : (word : List ℕ) → Bool
keeps w = bytes_eq w (95 ∷ [])

-- the elements with the word's value in its place
abbrev pub next_value : Field → (word : List ℕ) → (last : List ℤ) → Option (List ℤ)
next_value f w last = if keeps w then Some last else option_map (λ z. slice_set last f.place z) (reads_value f.base w)

-- the elements with one word's value for each of these elements, and the others as they were
abbrev pub reads_fields : List Field → (words : List (List ℕ)) → (last : List ℤ) → Option (List ℤ)
reads_fields [] [] last = Some last
reads_fields (f ∷ fs) (w ∷ ws) last = option_and_then (reads_fields fs ws) (next_value f w last)
reads_fields _ _ last = None

-- the values behind a line of format 2, whose header named these elements
abbrev pub reads_next : List Field → (last : List ℤ) → (line : List ℕ) → Option (List ℤ)
reads_next fs last line = if is_short line then reads_fields fs (words (text_in line)) last else None

-- the first byte is `#`
abbrev pub is_header : List ℕ → Bool
is_header [] = false
is_header (c ∷ _) = c == 35

abbrev pub behind_first : List ℕ → List ℕ
behind_first [] = []
behind_first (c ∷ cs) = cs

-- the elements of the inputs that are named: different ones
abbrev pub named_by : Vars → (names : List (List ℕ)) → Option (List Field)
named_by vs names = if are_different names then all_named vs names else None

-- the elements that a header names, in its order; none where it is no header, or a name is no input's or stands twice
abbrev pub head : Vars → (line : List ℕ) → Option (List Field)
head vs line = if is_header line && is_short line then named_by vs (words (behind_first (text_in line))) else None

-- an element, and what follows it unless it is none
abbrev pub up_to_none : Option (List ℤ) → (List ℤ → List (Option (List ℤ))) → List (Option (List ℤ))
up_to_none None rest = None ∷ []
up_to_none (Some zs) rest = Some zs ∷ rest zs

-- the steps of lines of format 1, up to the first none
abbrev pub line_steps : Vars → (lines : List (List ℕ)) → List (Option (List ℤ))
line_steps vs [] = []
line_steps vs (line ∷ rest) = up_to_none (reads_line vs line) (λ zs. line_steps vs rest)

-- the steps of lines of format 2 behind a header, from the last values on
abbrev pub next_steps : List Field → (last : List ℤ) → (lines : List (List ℕ)) → List (Option (List ℤ))
next_steps fs last [] = []
next_steps fs last (line ∷ rest) = up_to_none (reads_next fs last line) (λ zs. next_steps fs zs rest)

-- the inputs' elements before the first step of format 2
abbrev pub zeros : Vars → List ℤ
zeros vs = replicate (length (input_types vs)) (pos 0)

-- the steps behind a header
abbrev pub headed_steps : Vars → Option (List Field) → (lines : List (List ℕ)) → List (Option (List ℤ))
headed_steps vs None rest = None ∷ []
headed_steps vs (Some fs) rest = next_steps fs (zeros vs) rest

-- the steps of lines, the first of which may be a header
abbrev pub steps_of : Vars → (lines : List (List ℕ)) → List (Option (List ℤ))
steps_of vs [] = []
steps_of vs (line ∷ rest) = if is_header line then headed_steps vs (head vs line) rest else line_steps vs (line ∷ rest)

-- the steps of a trace: values or none for each, up to the first none
abbrev pub steps : Vars → (bytes : List ℕ) → List (Option (List ℤ))
steps vs bytes = steps_of vs (lines bytes)
