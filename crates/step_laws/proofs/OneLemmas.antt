-- A state has one macro step: two have the same outputs and meet the same scopes, so they have one reaction.
use Rattle.std.proofs.Common.{◌≡◌, ◌∙◌, ℕ, ℤ, List, [], ◌++◌, sym, ap, ap₂, subst}
use Rattle.quartz_tree.specs.declared.fault.Fault.{Fault}
use Rattle.quartz_expr.specs.Vars.{Vars}
use Rattle.quartz_expr.specs.Terms.{Term}
use Rattle.quartz_expr.specs.React.{Met, React, Reaction, givens}
use Rattle.quartz_expr.specs.Steps.{State, Macro, environment, output_conflicts, outputs_of, state_after}
use Rattle.quartz_expr.proofs.LawLemmas.{reaction_one}
use Rattle.aif_cells.specs.Order.{IsOrder}
use Rattle.aif_cells.specs.Worth.{Assignment}
use Rattle.statement_cells.specs.Whole.{compiled}
use Rattle.statement_cells.specs.Meaning.{IsSoundModule, StandsFor}
use Rattle.statement_cells.proofs.EarlierCompiledLemmas.{compiled_names_before}
use Rattle.macro_steps.specs.Laws.{IsSolved}
use Rattle.macro_steps.proofs.AcyclicLemmas.{acyclic_has_order}
use Rattle.macro_steps.proofs.CompleteLemmas.{only_met, only_outs}
use Rattle.step_laws.specs.One.{MacroStepIsOne}

module _ (vs : Vars) (t : Term) (s : State) (ins : List (List ℤ)) (σ : Assignment) (order : List ℕ)
    (sound : IsSoundModule vs t) (is : IsOrder (compiled vs t).cells order) (stands : StandsFor vs t σ.registers s) (solved : IsSolved vs t ins σ)
    (outs outs' : List (List ℤ)) (next next' : State) (fs fs' : List Fault) (m : Macro vs s ins outs next fs) (n : Macro vs s ins outs' next' fs') where
  outs_same : outs ≡ outs'
  outs_same = only_outs vs t s ins σ order sound is stands solved outs next fs m ∙ sym (only_outs vs t s ins σ order sound is stands solved outs' next' fs' n)

  met_same : m.reaction.met ≡ n.reaction.met
  met_same = only_met vs t s ins σ order sound is stands solved outs next fs m ∙ sym (only_met vs t s ins σ order sound is stands solved outs' next' fs' n)

  one : m.reaction ≡ n.reaction
  one =
      (reaction_one vs (environment vs ins outs') s.term m.reaction n.reaction [] []
      (subst (λ zs. React vs (environment vs ins zs) s.term m.reaction) outs_same m.reacts.walked) n.reacts.walked (ap (λ (ms : List Met). givens ms ++ []) met_same)).0

  pub same_step : (outs ≡ outs') × (next ≡ next') × (fs ≡ fs')
  same_step = (
    outs_same,
    m.goes ∙ ap (state_after vs s) one ∙ sym n.goes,
    m.fails ∙ ap₂ (λ (q : Reaction) (zs : List (List ℤ)). q.faults ++ output_conflicts vs (outputs_of vs) q.acts zs) one outs_same ∙ sym n.fails,
  )

pub step_is_one : MacroStepIsOne
step_is_one vs t s ins σ outs outs' next next' fs fs' sound acyclic stands solved m n =
    let order = acyclic_has_order (compiled vs t).cells (compiled_names_before vs t).named acyclic in
    same_step vs t s ins σ order.0 sound order.1 stands solved outs outs' next next' fs fs' m n
