-- What is done to a builder where the registers of labels are told what they take.
use Rattle.std.specs.Prelude.{◌≡◌, ℕ, List}
use Rattle.quartz_expr.specs.Vars.{Vars}
use Rattle.aif_cells.specs.declared.cells.Register.{Register}
use Rattle.aif_cells.specs.declared.cells.Action.{Action}
use Rattle.statement_cells.specs.Expressions.{Copies}
use Rattle.statement_cells.specs.Builder.{Builder as Plain}
use Rattle.statement_cells.specs.Whole.{labels_taken}
use Rattle.statement_builder.specs.declared.builder.Builder.{Builder}
use Rattle.statement_builder.specs.Built.{IsBuilt, IsOver}

pub record TakesLabels (before : Builder) (rs : List Register) (labels : ℕ) (after : Builder) (taken : List Register) : Type 0 where
  pub over : (vs : Vars) → IsOver vs before → IsOver vs after
  pub built : (κ : Copies) (front : List Action) (β : Plain) → IsBuilt κ front before β
      → (taken ≡ (labels_taken 1 labels rs β).0) × IsBuilt κ front after (labels_taken 1 labels rs β).1
