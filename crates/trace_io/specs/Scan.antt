-- How a line is read from left to right: blanks, a word, and what follows it.
use Rattle.std.specs.Prelude.{◌≡◌, ◌<◌, ℕ, ℤ, Bool, true, false, ◌&&◌, List, [], ◌∷◌, All, slice_set, Option, Some, None, option_map, option_and_then, if◌then◌else◌}
use Rattle.quartz_expr.specs.Intervals.{is_sound_base}
use Rattle.trace_io.specs.declared.field.Field.{Field}
use Rattle.trace_io.specs.Lines.{is_blank}
use Rattle.trace_io.specs.Values.{reads_value}
use Rattle.trace_io.specs.Reading.{keeps}

-- behind the blanks and tabs at the front
abbrev pub unblanked : List ℕ → List ℕ
unblanked [] = []
unblanked (c ∷ cs) = if is_blank c then unblanked cs else c ∷ cs

-- the bytes before the first blank or tab
abbrev pub front_word : List ℕ → List ℕ
front_word [] = []
front_word (c ∷ cs) = if is_blank c then [] else c ∷ front_word cs

-- and those from there on
abbrev pub behind_word : List ℕ → List ℕ
behind_word [] = []
behind_word (c ∷ cs) = if is_blank c then c ∷ cs else behind_word cs

-- the elements with the word's value in its place, where `_` may keep the last value or not
abbrev pub next_by : (may_keep : Bool) → Field → (word : List ℕ) → (last : List ℤ) → Option (List ℤ)
next_by k f w last = if k && keeps w then Some last else option_map (λ z. slice_set last f.place z) (reads_value f.base w)

-- the elements with one word's value for each of these elements
abbrev pub reads_by : (may_keep : Bool) → List Field → (words : List (List ℕ)) → (last : List ℤ) → Option (List ℤ)
reads_by k [] [] last = Some last
reads_by k (f ∷ fs) (w ∷ ws) last = option_and_then (reads_by k fs ws) (next_by k f w last)
reads_by k _ _ last = None

-- the test says whether there are such elements, and then the new ones are they
abbrev pub Placed : Option (List ℤ) → Bool → (new : List ℤ) → Type 0
Placed None test new = test ≡ false
Placed (Some zs) test new = (test ≡ true) × (new ≡ zs)

-- each element has a place among so many, and a type within its bounds
abbrev pub AreFields : (count : ℕ) → List Field → Type 0
AreFields n fs = All (λ f. (f.place < n) × (is_sound_base f.base ≡ true)) fs
