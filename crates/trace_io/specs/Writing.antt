-- The lines that are written: of outputs, and of generated inputs.
use Rattle.std.specs.Prelude.{ℕ, zero, suc, ◌+◌, ◌*◌, ◌/◌, ◌%◌, ◌^◌, ℤ, pos, ◌+ℤ◌, ◌-ℤ◌, unsigned_abs, List, [], ◌∷◌, ◌++◌}
use Rattle.quartz_tree.specs.declared.declare.Base.{Base}
use Rattle.quartz_expr.specs.Vars.{Vars}
use Rattle.quartz_expr.specs.Intervals.{Interval, base_interval}
use Rattle.trace_io.specs.Values.{value_text, in_range}
use Rattle.trace_io.specs.Inputs.{input_types, output_types}

-- the values that follow a first one, a blank before each, and LF
abbrev pub rest_of_line : List Base → List ℤ → List ℕ
rest_of_line (b ∷ bs) (z ∷ zs) = 32 ∷ (value_text b z ++ rest_of_line bs zs)
rest_of_line _ _ = 10 ∷ []

-- the line of these values: one blank between them, and LF
abbrev pub line_of_types : List Base → List ℤ → List ℕ
line_of_types (b ∷ bs) (z ∷ zs) = value_text b z ++ rest_of_line bs zs
line_of_types _ _ = 10 ∷ []

-- the output line of these values
abbrev pub line_of : Vars → List ℤ → List ℕ
line_of vs zs = line_of_types (output_types vs) zs

-- the values with 0 for each that is out of its type's range; values beyond the types are left out
abbrev pub all_in_range : List Base → List ℤ → List ℤ
all_in_range (b ∷ bs) (z ∷ zs) = in_range b z ∷ all_in_range bs zs
all_in_range _ _ = []

-- the number of the generator behind this one
abbrev pub next_number : ℕ → ℕ
next_number s = (s * 6364136223846793005 + 1442695040888963407) % 2 ^ 64

-- how many values an interval has
abbrev pub size_of : Interval → ℕ
size_of i = unsigned_abs ((i.high -ℤ i.low) +ℤ pos 1)

-- the value that a number gives in an interval
abbrev pub drawn : Interval → ℕ → ℤ
drawn i s = i.low +ℤ pos (s / 2 ^ 33 % size_of i)

-- the values of a generated step, each from the next number
abbrev pub drawn_values : List Base → (number : ℕ) → List ℤ
drawn_values [] s = []
drawn_values (b ∷ bs) s = drawn (base_interval b) (next_number s) ∷ drawn_values bs (next_number s)

-- the number behind those of a step
abbrev pub number_behind : List Base → ℕ → ℕ
number_behind [] s = s
number_behind (b ∷ bs) s = number_behind bs (next_number s)

-- so many generated lines of elements of these types
abbrev pub generated_of : List Base → (number steps : ℕ) → List ℕ
generated_of bs s zero = []
generated_of bs s (suc n) = line_of_types bs (drawn_values bs s) ++ generated_of bs (number_behind bs s) n

-- the generated trace for a module's inputs
abbrev pub generated : Vars → (seed steps : ℕ) → List ℕ
generated vs = generated_of (input_types vs)

-- what follows so many values of a line
abbrev pub line_behind : ℕ → List Base → List ℤ → List ℕ
line_behind zero = line_of_types
line_behind (suc n) = rest_of_line
