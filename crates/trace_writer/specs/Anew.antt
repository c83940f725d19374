-- A trace written anew: its header and the line of each step, in either format.
use Rattle.std.specs.Prelude.{ℕ, ◌+◌, ℤ, Bool, true, false, ◌==◌, ◌&&◌, List, [], ◌∷◌, ◌++◌, Option, Some, None, if◌then◌else◌}
use Rattle.outside.specs.Report.{line_end}
use Rattle.quartz_tree.specs.declared.declare.Base.{Base}
use Rattle.quartz_tree.specs.declared.declare.Flow.TheVariants.{Input}
use Rattle.quartz_expr.specs.Vars.{Vars}
use Rattle.quartz_expr.specs.Values.{same_value}
use Rattle.trace_io.specs.Lines.{is_short, joined_lines}
use Rattle.trace_io.specs.Values.{value_text}
use Rattle.trace_io.specs.Inputs.{same_flow, input_types}
use Rattle.trace_io.specs.Reading.{zeros}
use Rattle.trace_io.specs.Story.{End, done, bad, limit}
use Rattle.trace_writer.specs.declared.format.Format.{Format}
use Rattle.trace_writer.specs.declared.format.Format.TheVariants.{Plain, Headed}

abbrev pub format_of : (number : ℕ) → Format
format_of n = if n == 2 then Headed else Plain

-- words, a blank before each
abbrev pub spaced_words : List (List ℕ) → List ℕ
spaced_words [] = []
spaced_words (w ∷ ws) = 32 ∷ (w ++ spaced_words ws)

-- words, a blank between each and the next
abbrev pub joined_words : List (List ℕ) → List ℕ
joined_words [] = []
joined_words (w ∷ ws) = w ++ spaced_words ws

-- the names of the inputs, in declared order
abbrev pub input_names : Vars → List (List ℕ)
input_names [] = []
input_names (v ∷ vs) = if same_flow Input v.decl.flow then v.decl.name ∷ input_names vs else input_names vs

-- the header: none in format 1, and in format 2 `#` and the names
abbrev pub new_header : Format → Vars → List ℕ
new_header Plain vs = []
new_header Headed vs = 35 ∷ (spaced_words (input_names vs) ++ line_end)

abbrev pub may_keep : Format → Bool
may_keep Plain = false
may_keep Headed = true

-- the word of an element: its value, or in format 2 `_` where that is the last one
abbrev pub new_word : Format → Base → (last value : ℤ) → List ℕ
new_word f b y z = if may_keep f && same_value y z then 95 ∷ [] else value_text b z

abbrev pub new_words : Format → List Base → (last values : List ℤ) → List (List ℕ)
new_words f (b ∷ bs) (y ∷ ys) (z ∷ zs) = new_word f b y z ∷ new_words f bs ys zs
new_words f _ _ _ = []

-- the line of a step
abbrev pub new_line : Format → List Base → (last values : List ℤ) → List ℕ
new_line f bs ys zs = joined_words (new_words f bs ys zs) ++ line_end

-- lines that are written, and how that ends
pub record Tale : Type 0 where
  pub written : List (List ℕ)
  pub end : End

abbrev pub ends_with : End → Tale
ends_with e = record { written = []; end = e }

abbrev pub with_line : List ℕ → Tale → Tale
with_line line t = record { written = line ∷ t.written; end = t.end }

-- the lines of steps from number k on, behind these last values: up to the end, a step that isn't readable or whose line is too long,
-- or the greatest number of steps
abbrev pub tale_from : Format → List Base → (greatest k : ℕ) → (last : List ℤ) → (steps : List (Option (List ℤ))) → Tale
tale_from f bs g k ys [] = ends_with done
tale_from f bs g k ys (None ∷ rest) = ends_with (bad k)
tale_from f bs g k ys (Some zs ∷ rest) =
    if is_short (new_line f bs ys zs)
    then (if k == g then ends_with limit else with_line (new_line f bs ys zs) (tale_from f bs g (k + 1) zs rest))
    else ends_with (bad k)

-- the lines of all steps of a trace
abbrev pub tale : Format → Vars → (greatest : ℕ) → (steps : List (Option (List ℤ))) → Tale
tale f vs g = tale_from f (input_types vs) g 0 (zeros vs)

-- all bytes that are written
abbrev pub bytes_of : Format → Vars → (written : List (List ℕ)) → List ℕ
bytes_of f vs lines = new_header f vs ++ joined_lines lines
