-- Macro steps: a state, the inputs, the outputs, the next state and the faults.
use Rattle.std.specs.Prelude.{◌≡◌, ℕ, ◌+◌, ℤ, List, [], ◌∷◌, ◌++◌, map, replicate, unwrap_or}
use Rattle.quartz_tree.specs.declared.declare.Var.{Var}
use Rattle.quartz_tree.specs.declared.declare.Flow.{Flow}
use Rattle.quartz_tree.specs.declared.declare.Flow.TheVariants.{Input, Output, Inner}
use Rattle.quartz_tree.specs.declared.fault.Fault.{Fault}
use Rattle.quartz_tree.specs.Kernel.{Kernel}
use Rattle.quartz_expr.specs.declared.act.Act.{Act}
use Rattle.quartz_expr.specs.Values.{Values}
use Rattle.quartz_expr.specs.Vars.{Vars, storage_of, declared_at}
use Rattle.quartz_expr.specs.Terms.{Store, Term, term_of}
use Rattle.quartz_expr.specs.Resolve.{resolved_store, store_conflicts, values_of, fresh_store}
use Rattle.quartz_expr.specs.React.{Reaction, Reacts}

-- what is left of the body, and the store of each output in declared order
pub record State : Type 0 where
  pub term : Term
  pub stores : List Store

-- the number before the others, if the variable is an output
abbrev pub if_output : Flow → ℕ → List ℕ → List ℕ
if_output Input n xs = xs
if_output Output n xs = n ∷ xs
if_output Inner n xs = xs

-- the numbers of the outputs in declared order, where the first variable has number n
abbrev pub outputs_from : ℕ → Vars → List ℕ
outputs_from n [] = []
outputs_from n (v ∷ vs) = if_output v.decl.flow n (outputs_from (n + 1) vs)

abbrev pub outputs_of : Vars → List ℕ
outputs_of vs = outputs_from 0 vs

abbrev pub first_list : List (List ℤ) → List ℤ
first_list [] = []
first_list (z ∷ zs) = z

abbrev pub rest_of : List (List ℤ) → List (List ℤ)
rest_of [] = []
rest_of (z ∷ zs) = zs

-- an input has its next given list, an output too, and a local its start values
abbrev pub shown : Var → (ins outs : List (List ℤ)) → List ℤ
shown v is os = shown_by v.decl.flow
  where
    shown_by : Flow → List ℤ
    shown_by Input = first_list is
    shown_by Output = first_list os
    shown_by Inner = replicate (unwrap_or v.decl.ty.len 1) v.start

-- the lists that are left for the variables after an input, and after an output
abbrev pub after_input : Flow → List (List ℤ) → List (List ℤ)
after_input Input is = rest_of is
after_input Output is = is
after_input Inner is = is

abbrev pub after_output : Flow → List (List ℤ) → List (List ℤ)
after_output Input os = os
after_output Output os = rest_of os
after_output Inner os = os

-- the environment with these inputs and outputs in declared order; a local stands at its start
-- values, which nothing reads outside the local's scope
abbrev pub environment : Vars → (ins outs : List (List ℤ)) → Values
environment [] is os = []
environment (v ∷ vs) is os = shown v is os ∷ environment vs (after_input v.decl.flow is) (after_output v.decl.flow os)

-- the outputs' stores, as the acts resolve them
abbrev pub next_stores : Vars → (outputs : List ℕ) → List Act → List Store → List Store
next_stores vs [] ws ss = []
next_stores vs (x ∷ xs) ws [] = []
next_stores vs (x ∷ xs) ws (s ∷ ss) = resolved_store (storage_of vs x) x ws 0 s ∷ next_stores vs xs ws ss

-- the conflicts of outputs that have these values
abbrev pub output_conflicts : Vars → (outputs : List ℕ) → List Act → (outs : List (List ℤ)) → List Fault
output_conflicts vs [] ws os = []
output_conflicts vs (x ∷ xs) ws [] = []
output_conflicts vs (x ∷ xs) ws (o ∷ os) = store_conflicts (declared_at vs x) x ws 0 o ++ output_conflicts vs xs ws os

-- the state after a reaction
abbrev pub state_after : Vars → State → Reaction → State
state_after vs s r = record { term = r.residual; stores = next_stores vs (outputs_of vs) r.acts s.stores }

-- a macro step: the term reacts under the inputs and the outputs, and each output's value is the
-- one that its store and the acts resolve to
pub record Macro (vs : Vars) (s : State) (ins outs : List (List ℤ)) (next : State) (fs : List Fault) : Type 0 where
  pub reaction : Reaction
  pub reacts : Reacts vs (environment vs ins outs) s.term reaction
  pub resolved : outs ≡ map values_of (state_after vs s reaction).stores
  pub goes : next ≡ state_after vs s reaction
  pub fails : fs ≡ reaction.faults ++ output_conflicts vs (outputs_of vs) reaction.acts outs

-- the state at the start: the body, and each output at its start values with nothing pending
abbrev pub initial : Vars → Kernel → State
initial vs body = record { term = term_of body; stores = map (fresh_store vs) (outputs_of vs) }
