-- Runs of a module among modules, and of the whole: a macro step of one is one of the other, by the simulation and by what is
-- the same of the outputs; then runs by induction.
use Rattle.std.proofs.Common.{◌≡◌, ℕ, ℤ, List, [], ◌∷◌, ◌++◌, length, map, Option, Some, None, refl, sym, ap, ap₂, ◌∙◌, subst}
use Rattle.quartz_tree.specs.declared.fault.Fault.{Fault}
use Rattle.quartz_tree.specs.Kernel.{Kernel}
use Rattle.quartz_tree.specs.Least.{least_fault}
use Rattle.quartz_expr.specs.declared.act.Act.{Act}
use Rattle.quartz_expr.specs.Vars.{Vars}
use Rattle.quartz_expr.specs.Terms.{Store, Term, term_of}
use Rattle.quartz_expr.specs.Resolve.{values_of}
use Rattle.quartz_expr.specs.React as reacting
use Rattle.quartz_expr.specs.Steps.{environment, outputs_of, next_stores, output_conflicts}
use Rattle.quartz_expr.specs.Steps as plain
use Rattle.quartz_expr.specs.Runs as runs
use Rattle.framed_terms.specs.Framed.{Framed, Meanings, Meaning}
use Rattle.framed_terms.specs.Reacting.{Reaction}
use Rattle.framed_terms.specs.FramedRuns.{State, Macro, RunsFrom, Runs, of_end, of_step, of_fault, initial, state_after}
use Rattle.framed_terms.specs.Similar.{Carry, Sim, SameActs, Related}
use Rattle.framed_terms.proofs.ForwardLemmas.{forth}
use Rattle.framed_terms.proofs.BackLemmas.{back}
use Rattle.framed_runs.specs.Parameters.{Heads, front}
use Rattle.framed_runs.proofs.WholeLemmas.{Whole, whole, same_starts, same_stores_after, same_conflicts_of}

module _ (us : Meanings) (vs ws : Vars) (f : Carry) (h : Whole us vs ws f) where
  -- the same state
  record SameState (s : State) (t : plain.State) : Type 0 where
    terms : Sim us ws vs f s.term t.term
    stores : s.stores ≡ t.stores

  after : (s : State) (t : plain.State) (q : Reaction) (r : reacting.Reaction) → SameState s t → Related us ws vs f q r → SameState (state_after vs s q) (plain.state_after ws t r)
  after s t q r k g = record {
    terms = g.residual;
    stores = same_stores_after us vs ws f q.acts r.acts s.stores h g.acts ∙ ap (λ (l : List Store). next_stores ws (outputs_of ws) r.acts l) k.stores;
  }

  faults_after : (q : Reaction) (r : reacting.Reaction) (os : List (List ℤ)) → Related us ws vs f q r
      → q.faults ++ output_conflicts vs (outputs_of vs) q.acts os ≡ r.faults ++ output_conflicts ws (outputs_of ws) r.acts os
  faults_after q r os g = ap₂ (λ (a b : List Fault). a ++ b) g.faults (same_conflicts_of us vs ws f q.acts r.acts os h g.acts)

  macro_forth : (s : State) (t : plain.State) (i o : List (List ℤ)) (u : State) (fs : List Fault) → SameState s t → Macro us vs s i o u fs → (w : plain.State) × plain.Macro ws t i o w fs × SameState u w
  macro_forth s t i o u fs k m =
      let r = forth us ws vs _ s.term m.reaction m.reacts f (environment ws i o) t.term (h.agrees i o) k.terms in
      let a : SameState (state_after vs s m.reaction) (plain.state_after ws t r.0) = after s t m.reaction r.0 k r.3 in (
        _,
        record { reaction = r.0; reacts = record { walked = r.1; resolved = r.2 }; resolved = m.resolved ∙ ap (map values_of) a.stores; goes = refl; fails = m.fails ∙ faults_after m.reaction r.0 o r.3 },
        subst (λ (z : State). SameState z (plain.state_after ws t r.0)) (sym m.goes) a,
      )

  macro_back : (s : State) (t : plain.State) (i o : List (List ℤ)) (w : plain.State) (fs : List Fault) → SameState s t → plain.Macro ws t i o w fs → (u : State) × Macro us vs s i o u fs × SameState u w
  macro_back s t i o w fs k m =
      let q = back us ws (environment ws i o) t.term m.reaction m.reacts.walked m.reacts.resolved vs f _ s.term (h.agrees i o) k.terms in
      let a : SameState (state_after vs s q.0) (plain.state_after ws t m.reaction) = after s t q.0 m.reaction k q.2 in (
        _,
        record { reaction = q.0; reacts = q.1; resolved = m.resolved ∙ ap (map values_of) (sym a.stores); goes = refl; fails = m.fails ∙ sym (faults_after q.0 m.reaction o q.2) },
        subst (λ (z : plain.State). SameState (state_after vs s q.0) z) (sym m.goes) a,
      )

  runs_forth : (s : State) (ins outs : List (List (List ℤ))) (end : Option Fault) → RunsFrom us vs s ins outs end → (t : plain.State) → SameState s t → runs.RunsFrom ws t ins outs end
  runs_forth s _ _ _ (of_end _) t k = runs.of_end t
  runs_forth s _ _ _ (of_step _ i o u is os end m r) t k = let n = macro_forth s t i o u [] k m in runs.of_step t i o n.0 is os end n.1 (runs_forth u is os end r n.0 n.2)
  runs_forth s _ _ _ (of_fault _ i o u fs g is m e) t k = let n = macro_forth s t i o u fs k m in runs.of_fault t i o n.0 fs g is n.1 e

  runs_back : (t : plain.State) (ins outs : List (List (List ℤ))) (end : Option Fault) → runs.RunsFrom ws t ins outs end → (s : State) → SameState s t → RunsFrom us vs s ins outs end
  runs_back t _ _ _ (runs.of_end _) s k = of_end s
  runs_back t _ _ _ (runs.of_step _ i o w is os end m r) s k = let n = macro_back s t i o w [] k m in of_step s i o n.0 is os end n.1 (runs_back w is os end r n.0 n.2)
  runs_back t _ _ _ (runs.of_fault _ i o w fs g is m e) s k = let n = macro_back s t i o w fs k m in of_fault s i o n.0 fs g is n.1 e

-- runs of a module among modules are those of the whole, whose body is the module's and whose parameters are its own
pub same_runs : (us : Meanings) (u : Meaning) (ws : Vars) (body : Kernel) (h : Heads u.vars ws) → Sim us ws u.vars (front (length h.params)) u.body (term_of body) → (ins outs : List (List (List ℤ))) (end : Option Fault)
    → (Runs us u ins outs end → runs.Runs ws body ins outs end) × (runs.Runs ws body ins outs end → Runs us u ins outs end)
same_runs us u ws body h s ins outs end =
    let k = whole us u.vars ws h in
    let t : SameState us u.vars ws (front (length h.params)) k (initial u) (plain.initial ws body) = record { terms = s; stores = same_starts us u.vars ws _ k } in
    (λ r. runs_forth us u.vars ws _ k (initial u) ins outs end r (plain.initial ws body) t, λ r. runs_back us u.vars ws _ k (plain.initial ws body) ins outs end r (initial u) t)
