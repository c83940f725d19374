-- How the names of a header are read one after another: each input is marked once it was named.
use Rattle.std.specs.Prelude.{◌≡◌, ℕ, zero, suc, ◌+◌, Bool, true, false, ◌&&◌, List, [], ◌∷◌, ◌++◌, length, slice_set, replicate, Option, Some, None, option_map, option_and_then, if◌then◌else◌}
use Rattle.std.specs.Str.{bytes_eq}
use Rattle.quartz_tree.specs.declared.declare.Flow.TheVariants.{Input}
use Rattle.quartz_expr.specs.Vars.{Vars}
use Rattle.trace_io.specs.declared.field.Field.{Field}
use Rattle.trace_io.specs.Lines.{words, text_in, is_short}
use Rattle.trace_io.specs.Inputs.{same_flow, count_in, scalars, fields_from}
use Rattle.trace_io.specs.Reading.{is_header, behind_first}

-- an input: its name and its elements
pub record Named : Type 0 where
  pub name : List ℕ
  pub fields : List Field

-- the inputs among variables whose elements are counted from n
abbrev pub inputs_from : ℕ → Vars → List Named
inputs_from n [] = []
inputs_from n (v ∷ vs) =
    if same_flow Input v.decl.flow
    then (record { name = v.decl.name; fields = fields_from n (scalars v) } ∷ inputs_from (n + count_in v) vs)
    else inputs_from n vs

-- the number of the first input with that name
abbrev pub number_named : List Named → (name : List ℕ) → Option ℕ
number_named [] name = None
number_named (i ∷ is) name = if bytes_eq i.name name then Some 0 else option_map (λ n. suc n) (number_named is name)

-- the elements of the input with that number
abbrev pub fields_at : List Named → ℕ → List Field
fields_at [] n = []
fields_at (i ∷ is) zero = i.fields
fields_at (i ∷ is) (suc n) = fields_at is n

abbrev pub is_marked : (marks : List Bool) → ℕ → Bool
is_marked [] n = false
is_marked (m ∷ ms) zero = m
is_marked (m ∷ ms) (suc n) = is_marked ms n

-- the elements of the inputs that the words name, behind those that stand there already; an input that is marked isn't named again
abbrev pub names_by : List Named → (marks : List Bool) → (fields : List Field) → (words : List (List ℕ)) → Option (List Field)
names_by is ms fs [] = Some fs
names_by is ms fs (w ∷ ws) = option_and_then (λ n. if is_marked ms n then None else names_by is (slice_set ms n true) (fs ++ fields_at is n) ws) (number_named is w)

abbrev pub no_marks : List Named → List Bool
no_marks is = replicate (length is) false

-- the elements that a header names
abbrev pub header_by : List Named → (line : List ℕ) → Option (List Field)
header_by is line = if is_header line && is_short line then names_by is (no_marks is) [] (words (behind_first (text_in line))) else None

-- how many elements the inputs without a mark have
abbrev pub unmarked_count : List Named → (marks : List Bool) → ℕ
unmarked_count [] ms = 0
unmarked_count (i ∷ is) [] = 0
unmarked_count (i ∷ is) (m ∷ ms) = (if m then 0 else length i.fields) + unmarked_count is ms

-- the test says whether there are such elements, and then the new ones are they
abbrev pub Listed : Option (List Field) → Bool → (new : List Field) → Type 0
Listed None test new = test ≡ false
Listed (Some fs) test new = (test ≡ true) × (new ≡ fs)

-- an input was named: it has a number and had no mark, and then it is marked and its elements are added
abbrev pub Adds : (number : Option ℕ) → List Named → (marks : List Bool) → (fields : List Field) → Bool → (new_marks : List Bool) → (new_fields : List Field) → Type 0
Adds None is ms fs test new_ms new_fs = test ≡ false
Adds (Some n) is ms fs true new_ms new_fs = (is_marked ms n ≡ false) × (new_ms ≡ slice_set ms n true) × (new_fs ≡ fs ++ fields_at is n)
Adds (Some n) is ms fs false new_ms new_fs = is_marked ms n ≡ true
