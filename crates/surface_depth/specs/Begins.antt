-- How a builder begins: with no cells, and then with the outputs' copies.
use Rattle.std.specs.Prelude.{◌≡◌, ℕ, zero, suc, ◌+◌, true, List, [], ◌∷◌, map, slice_set}
use Rattle.quartz_expr.specs.Vars.{Vars}
use Rattle.aif_cells.specs.declared.reference.Ref.TheVariants as ref
use Rattle.statement_cells.specs.declared.current.Current.{Current}
use Rattle.statement_cells.specs.Expressions.{Copies}
use Rattle.statement_cells.specs.Builder.{Builder as Plain, new_cells, reserve}
use Rattle.statement_cells.specs.Whole.{OutputCopy as PlainOutput, begun}
use Rattle.statement_builder.specs.declared.builder.Builder.{Builder}
use Rattle.statement_builder.specs.declared.builder.OpenVar.{OpenVar}
use Rattle.statement_builder.specs.Built.{IsBuilt, IsOver}
use Rattle.surface_depth.specs.declared.beginning.OutputCopy.{OutputCopy}

abbrev pub output_copy : OutputCopy → PlainOutput
output_copy o = record { var = o.var; cells = o.cells }

-- the variable has one copy more
abbrev pub with_copy : List OpenVar → (var : ℕ) → List OpenVar
with_copy [] x = []
with_copy (o ∷ os) zero = record o { copies = o.copies + 1 } ∷ os
with_copy (o ∷ os) (suc x) = o ∷ with_copy os x

-- nothing is known of so many variables
abbrev pub unknown : OpenVar
unknown = record { copies = 0; now = []; next = [] }

-- an output's copy
abbrev pub output_current : Vars → (var : ℕ) → Plain → Current
output_current vs x β = record { copy = 0; values = map ref.Cell (new_cells vs x β) }

-- the copy of an output is reserved, which is the current one
pub record Begins (vs : Vars) (before : Builder) (o : OutputCopy) (after : Builder) : Type 0 where
  pub over : IsOver vs before → IsOver vs after
  pub begun : (κ : Copies) (β : Plain) → IsBuilt κ [] before β → β.writes ≡ []
      → (o.cells ≡ new_cells vs o.var β) × IsBuilt (slice_set κ o.var (output_current vs o.var β)) [] after (reserve vs o.var true β)

-- the copies of these outputs are reserved
pub record BeginsAll (vs : Vars) (before : Builder) (outputs : List ℕ) (os : List OutputCopy) (after : Builder) : Type 0 where
  pub over : IsOver vs before → IsOver vs after
  pub begun : (κ : Copies) (β : Plain) → IsBuilt κ [] before β → β.writes ≡ []
      → (map output_copy os ≡ (begun vs outputs κ β).outputs) × IsBuilt (begun vs outputs κ β).copies [] after (begun vs outputs κ β).built × ((begun vs outputs κ β).built.writes ≡ [])
