-- Macro steps are solutions, and steps without a fault are coherent.
use Rattle.std.proofs.Common.{◌≡◌, ◌∙◌, ℕ, suc, ◌+◌, ℤ, List, [], ◌∷◌, ◌++◌, length, sym, ap, ap₂, subst}
use Rattle.quartz_tree.specs.declared.fault.Fault.{Fault}
use Rattle.quartz_expr.specs.Vars.{Vars}
use Rattle.quartz_expr.specs.Terms.{Store, Term}
use Rattle.quartz_expr.specs.React.{Met, React, Reaction, givens}
use Rattle.quartz_expr.specs.Steps.{State, Macro, environment, output_conflicts, outputs_of, state_after}
use Rattle.quartz_expr.specs.Coherent.{IsCoherent}
use Rattle.quartz_expr.proofs.CoherentLemmas.{coherent_steps, step_coheres}
use Rattle.quartz_expr.proofs.LawLemmas.{reaction_one}
use Rattle.aif_cells.specs.Worth.{Assignment}
use Rattle.aif_cells.specs.Order.{IsOrder}
use Rattle.absence_reaction.specs.Meaning.{raised}
use Rattle.statement_cells.specs.Stands.{Registers}
use Rattle.statement_cells.specs.Whole.{beginning, compiled, first_output, variable_registers}
use Rattle.statement_cells.specs.Meaning.{IsMacroStep, IsSoundModule, StandsFor, next_registers, outputs_in, plain_stores, stores_of}
use Rattle.macro_steps.specs.Laws.{IsSolved}
use Rattle.macro_steps.proofs.CompleteLemmas.{only_met, only_outs}
use Rattle.macro_steps.proofs.SoundLemmas.{sound_by}
use Rattle.std.specs.Prelude.{◌↔◌}

module _ (vs : Vars) (t : Term) (s : State) (ins : List (List ℤ)) (σ : Assignment) (order : List ℕ)
    (sound : IsSoundModule vs t) (is : IsOrder (compiled vs t).cells order) (stands : StandsFor vs t σ.registers s) (solved : IsSolved vs t ins σ) where
  -- the macro step of the solution
  abbrev its : IsMacroStep vs t s ins σ
  its = (sound_by vs t s ins σ order sound is stands solved).0

  module _ (outs : List (List ℤ)) (next : State) (fs : List Fault) (m : Macro vs s ins outs next fs) where
    outs_are : outs ≡ outputs_in σ (beginning vs).outputs
    outs_are = only_outs vs t s ins σ order sound is stands solved outs next fs m

    -- there is one reaction
    one : m.reaction ≡ its.step.reaction
    one =
        let same : m.reaction.met ≡ its.step.reaction.met =
        only_met vs t s ins σ order sound is stands solved outs next fs m ∙ sym (only_met vs t s ins σ order sound is stands solved (outputs_in σ (beginning vs).outputs) its.next (raised σ (compiled vs t).monitors) its.step) in
        (reaction_one vs (environment vs ins (outputs_in σ (beginning vs).outputs)) s.term m.reaction its.step.reaction [] []
        (subst (λ zs. React vs (environment vs ins zs) s.term m.reaction) outs_are m.reacts.walked) its.step.reacts.walked (ap (λ (ms : List Met). givens ms ++ []) same)).0

    next_is : next ≡ its.next
    next_is = m.goes ∙ ap (state_after vs s) one ∙ sym its.step.goes

    faults_are : fs ≡ raised σ (compiled vs t).monitors
    faults_are =
        m.fails ∙ ap₂ (λ (q : Reaction) (zs : List (List ℤ)). q.faults ++ output_conflicts vs (outputs_of vs) q.acts zs) one outs_are ∙ sym its.step.fails

    pub complete : (outs ≡ outputs_in σ (beginning vs).outputs) × (fs ≡ raised σ (compiled vs t).monitors) × StandsFor vs t (next_registers σ (compiled vs t).registers) next
    complete = (outs_are, faults_are, subst (StandsFor vs t (next_registers σ (compiled vs t).registers)) (sym next_is) its.stands)

-- a state has one store for each output
count_stores : (vs : Vars) (xs : List ℕ) (v : ℕ) (k : Registers) (ss : List Store) → plain_stores vs xs ss ≡ stores_of vs xs v k → length ss ≡ length xs
count_stores vs [] v k ss e = ap length e
count_stores vs (x ∷ xs) v k [] e = absurd (cc)
count_stores vs (x ∷ xs) v k (s ∷ ss) e = ap suc (count_stores vs xs (v + variable_registers vs x) k ss (rest e))
  where
    rest : {a b : Store} {l m : List Store} → a ∷ l ≡ b ∷ m → l ≡ m
    rest p = cc

-- a step has a fault exactly where no values of the outputs are coherent
pub coherent_by : (vs : Vars) (t : Term) (s : State) (ins : List (List ℤ)) (σ : Assignment) (order : List ℕ) → IsSoundModule vs t → IsOrder (compiled vs t).cells order → StandsFor vs t σ.registers s → IsSolved vs t ins σ
    → (raised σ (compiled vs t).monitors ≡ [] → ⊥) ↔ ((outs : List (List ℤ)) → IsCoherent vs s ins outs → ⊥)
coherent_by vs t s ins σ order sound is stands solved = (forth, back)
  where
    count : length s.stores ≡ length (outputs_of vs)
    count = count_stores vs (outputs_of vs) (first_output t) σ.registers s.stores stands.stores

    forth : (raised σ (compiled vs t).monitors ≡ [] → ⊥) → (outs : List (List ℤ)) → IsCoherent vs s ins outs → ⊥
    forth h outs c =
        let m = coherent_steps vs s ins outs c in
        h (sym (complete vs t s ins σ order sound is stands solved outs m.0 [] m.1).1)

    back : ((outs : List (List ℤ)) → IsCoherent vs s ins outs → ⊥) → raised σ (compiled vs t).monitors ≡ [] → ⊥
    back h e =
        let n = its vs t s ins σ order sound is stands solved in
        let outs : List (List ℤ) = outputs_in σ (beginning vs).outputs in
        h outs (step_coheres vs s ins outs n.next count (subst (Macro vs s ins outs n.next) e n.step))
