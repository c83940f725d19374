-- Runs: macro steps from the start, up to the first with a fault or the end of the inputs.
use Rattle.std.specs.Prelude.{◌≡◌, ℤ, List, [], ◌∷◌, Option, Some, None}
use Rattle.quartz_tree.specs.declared.fault.Fault.{Fault}
use Rattle.quartz_tree.specs.Kernel.{Kernel}
use Rattle.quartz_tree.specs.Least.{least_fault}
use Rattle.quartz_expr.specs.Vars.{Vars}
use Rattle.quartz_expr.specs.Steps.{State, Macro, initial}

-- a run from a state: the inputs of each step, the outputs of the steps without a fault, and the
-- least fault of the step that has one, or none where the inputs end
pub data RunsFrom (vs : Vars) : State → (ins outs : List (List (List ℤ))) → Option Fault → Type 0 where
  of_end : (s : State) → RunsFrom vs s [] [] None
  of_step : (s : State) (i o : List (List ℤ)) (t : State) (is os : List (List (List ℤ))) (end : Option Fault)
      → Macro vs s i o t [] → RunsFrom vs t is os end → RunsFrom vs s (i ∷ is) (o ∷ os) end
  of_fault : (s : State) (i o : List (List ℤ)) (t : State) (fs : List Fault) (f : Fault) (is : List (List (List ℤ)))
      → Macro vs s i o t fs → least_fault fs ≡ Some f → RunsFrom vs s (i ∷ is) [] (Some f)

-- a run of a body over the variables
abbrev pub Runs : Vars → Kernel → (ins outs : List (List (List ℤ))) → Option Fault → Type 0
Runs vs body = RunsFrom vs (initial vs body)
