-- Actions that clash never meet.
use Rattle.std.specs.Prelude.{◌≡◌, true}
use Rattle.quartz_expr.specs.Vars.{Vars}
use Rattle.quartz_expr.specs.Terms.{Term}
use Rattle.quartz_expr.specs.Steps.{State}
use Rattle.aif_cells.specs.declared.cells.Action.{Action}
use Rattle.aif_cells.specs.Worth.{Assignment, truth}
use Rattle.aif_cells.specs.Solution.{IsSolution}
use Rattle.absence_reaction.specs.Meaning.{index_read}
use Rattle.statement_cells.specs.Whole.{compiled}
use Rattle.statement_cells.specs.Meaning.{StandsFor}
use Rattle.write_conflicts.specs.Clash.{Clash}

-- both actions act, on elements with one number
pub record Meet (σ : Assignment) (a b : Action) : Type 0 where
  pub first : truth σ a.guard ≡ true
  pub second : truth σ b.guard ≡ true
  pub alike : index_read σ a.index ≡ index_read σ b.index

-- two actions that clash never meet, in a solution from registers that stand for a state
abbrev pub ClashingNeverMeet : Type 0
ClashingNeverMeet = (vs : Vars) (body : Term) (s : State) (σ : Assignment) (a b : Action)
    → StandsFor vs body σ.registers s → IsSolution σ (compiled vs body).cells → Clash (compiled vs body).cells (compiled vs body).paths a b → ¬ Meet σ a b
