-- The states that the runs of a module come to.
use Rattle.std.specs.Prelude.{ℤ, List, []}
use Rattle.quartz_tree.specs.Kernel.{Kernel}
use Rattle.quartz_expr.specs.Vars.{Vars}
use Rattle.quartz_expr.specs.Steps.{State, Macro, initial}
use Rattle.statement_cells.specs.Meaning.{AreInputs, inputs_of}

-- the initial state, and the state behind each macro step without a fault, for inputs that are values of the input variables
pub data Reached (vs : Vars) (body : Kernel) : State → Type 0 where
  at_start : Reached vs body (initial vs body)
  by_step : (s : State) (ins outs : List (List ℤ)) (next : State) → Reached vs body s → AreInputs vs (inputs_of vs) ins → Macro vs s ins outs next [] → Reached vs body next
