-- A state has one macro step on given inputs.
use Rattle.std.specs.Prelude.{◌≡◌, ℤ, List}
use Rattle.quartz_tree.specs.declared.fault.Fault.{Fault}
use Rattle.quartz_expr.specs.Vars.{Vars}
use Rattle.quartz_expr.specs.Terms.{Term}
use Rattle.quartz_expr.specs.Steps.{State, Macro}
use Rattle.aif_cells.specs.Worth.{Assignment}
use Rattle.causality_check.specs.Order.{HasNoCycle}
use Rattle.statement_cells.specs.Whole.{compiled}
use Rattle.statement_cells.specs.Meaning.{IsSoundModule, StandsFor}
use Rattle.macro_steps.specs.Laws.{IsSolved}

-- where registers stand for the state and the cells are solved, two macro steps have the same outputs, next state and faults
abbrev pub MacroStepIsOne : Type 0
MacroStepIsOne = (vs : Vars) (body : Term) (s : State) (ins : List (List ℤ)) (σ : Assignment) (outs outs' : List (List ℤ)) (next next' : State) (fs fs' : List Fault)
    → IsSoundModule vs body → HasNoCycle (compiled vs body).cells → StandsFor vs body σ.registers s → IsSolved vs body ins σ
    → Macro vs s ins outs next fs → Macro vs s ins outs' next' fs' → (outs ≡ outs') × (next ≡ next') × (fs ≡ fs')
