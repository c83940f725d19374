-- Macro steps and runs of modules that call one another.
use Rattle.std.specs.Prelude.{◌≡◌, ℤ, List, [], ◌∷◌, ◌++◌, map, Option, Some, None}
use Rattle.quartz_tree.specs.declared.fault.Fault.{Fault}
use Rattle.quartz_tree.specs.Least.{least_fault}
use Rattle.quartz_expr.specs.Vars.{Vars}
use Rattle.quartz_expr.specs.Terms.{Store}
use Rattle.quartz_expr.specs.Resolve.{values_of, fresh_store}
use Rattle.quartz_expr.specs.Steps.{environment, outputs_of, next_stores, output_conflicts}
use Rattle.framed_terms.specs.Framed.{Framed, Meanings, Meaning}
use Rattle.framed_terms.specs.Reacting.{Reaction, React}

-- what is left of the body, and the store of each output in declared order
pub record State : Type 0 where
  pub term : Framed
  pub stores : List Store

-- the state after a reaction
abbrev pub state_after : Vars → State → Reaction → State
state_after vs s r = record { term = r.residual; stores = next_stores vs (outputs_of vs) r.acts s.stores }

-- a macro step: the term reacts under the inputs and the outputs, and each output's value is the
-- one that its store and the acts resolve to
pub record Macro (us : Meanings) (vs : Vars) (s : State) (ins outs : List (List ℤ)) (next : State) (fs : List Fault) : Type 0 where
  pub reaction : Reaction
  pub reacts : React us vs (environment vs ins outs) s.term reaction
  pub resolved : outs ≡ map values_of (state_after vs s reaction).stores
  pub goes : next ≡ state_after vs s reaction
  pub fails : fs ≡ reaction.faults ++ output_conflicts vs (outputs_of vs) reaction.acts outs

-- the state at the start: the body, and each output at its start values with nothing pending
abbrev pub initial : Meaning → State
initial u = record { term = u.body; stores = map (fresh_store u.vars) (outputs_of u.vars) }

-- a run from a state: the inputs of each step, the outputs of the steps without a fault, and the
-- least fault of the step that has one, or none where the inputs end
pub data RunsFrom (us : Meanings) (vs : Vars) : State → (ins outs : List (List (List ℤ))) → Option Fault → Type 0 where
  of_end : (s : State) → RunsFrom us vs s [] [] None
  of_step : (s : State) (i o : List (List ℤ)) (t : State) (is os : List (List (List ℤ))) (end : Option Fault)
      → Macro us vs s i o t [] → RunsFrom us vs t is os end → RunsFrom us vs s (i ∷ is) (o ∷ os) end
  of_fault : (s : State) (i o : List (List ℤ)) (t : State) (fs : List Fault) (f : Fault) (is : List (List (List ℤ)))
      → Macro us vs s i o t fs → least_fault fs ≡ Some f → RunsFrom us vs s (i ∷ is) [] (Some f)

-- a run of a module among modules that it may call
abbrev pub Runs : Meanings → Meaning → (ins outs : List (List (List ℤ))) → Option Fault → Type 0
Runs us u = RunsFrom us u.vars (initial u)
