-- What is computed step by step is the run of the semantics, and there is no other.
use Rattle.std.proofs.Common.{◌≡◌, ◌∙◌, ℕ, zero, suc, ℤ, pos, Bool, true, false, List, [], ◌∷◌, length, Some, None, refl, sym, ap, ap₂, subst}
use Rattle.std.specs.Prelude.{Option, if◌then◌else◌}
use Rattle.quartz_tree.specs.declared.fault.Fault.{Fault}
use Rattle.quartz_tree.specs.Kernel.{Kernel}
use Rattle.quartz_tree.specs.Least.{is_sooner, least_fault, lesser_fault}
use Rattle.quartz_expr.specs.Vars.{Vars}
use Rattle.quartz_expr.specs.Terms.{Term, term_of}
use Rattle.quartz_expr.specs.Steps.{State, Macro, initial}
use Rattle.quartz_expr.specs.Runs.{RunsFrom, of_end, of_step, of_fault}
use Rattle.aif_cells.specs.declared.cells.Register.{Register}
use Rattle.aif_cells.specs.Worth.{Assignment, number_at}
use Rattle.aif_cells.specs.Order.{IsOrder}
use Rattle.absence_reaction.specs.Meaning.{raised}
use Rattle.statement_cells.specs.Whole.{beginning, compiled}
use Rattle.statement_cells.specs.Meaning.{IsMacroStep, IsSoundModule, StandsFor, initial_registers, next_registers, outputs_in}
use Rattle.statement_cells.proofs.ScopeGrowLemmas.{length_replicate}
use Rattle.statement_cells.proofs.StartLemmas.{initial_registers_stand}
use Rattle.macro_steps.specs.Laws.{IsSolved}
use Rattle.macro_steps.specs.Ranges.{RegistersLie}
use Rattle.macro_steps.specs.Runs.{AllInputs, ComputedIsRun, Outcome, RunIsComputed, computed_from, initial_values, next_values, solved, step_before}
use Rattle.macro_steps.proofs.CoherenceLemmas.{complete}
use Rattle.macro_steps.proofs.EvaluateLemmas.{order_solves}
use Rattle.macro_steps.proofs.SoundLemmas.{initial_lie, sound_by}

-- ---- registers as lists

pub next_listed : (σ : Assignment) (rs : List Register) (r : ℕ) → next_registers σ rs r ≡ number_at (next_values σ rs) r
next_listed σ [] r = refl
next_listed σ (x ∷ rs) zero = refl
next_listed σ (x ∷ rs) (suc r) = next_listed σ rs r

pub initial_listed : (rs : List Register) (r : ℕ) → initial_registers rs r ≡ number_at (initial_values rs) r
initial_listed [] r = refl
initial_listed (x ∷ rs) zero = refl
initial_listed (x ∷ rs) (suc r) = initial_listed rs r

-- ---- the least fault

some_least : (f : Fault) (o : Option Fault) → lesser_fault (Some f) o ≡ None → ⊥
some_least f None e = cc
some_least f (Some g) e = at (is_sooner g f) e
  where
    at : (b : Bool) → (if b then Some g else Some f) ≡ None → ⊥
    at true e = cc
    at false e = cc

pub none_least : (fs : List Fault) → least_fault fs ≡ None → fs ≡ []
none_least [] e = refl
none_least (f ∷ fs) e = absurd (some_least f (least_fault fs) e)

module _ (vs : Vars) (t : Term) (order : List ℕ) (sound : IsSoundModule vs t) (is : IsOrder (compiled vs t).cells order) where
  abbrev regs : List Register
  regs = (compiled vs t).registers

  abbrev step_of : List ℤ → List (List ℤ) → Assignment
  step_of rs i = solved (compiled vs t).cells order rs i

  abbrev faults_of : List ℤ → List (List ℤ) → List Fault
  faults_of rs i = raised (step_of rs i) (compiled vs t).monitors

  abbrev outs_of : List ℤ → List (List ℤ) → List (List ℤ)
  outs_of rs i = outputs_in (step_of rs i) (beginning vs).outputs

  -- registers that stand for a state, in their ranges
  record Stood (rs : List ℤ) (s : State) : Type 0 where
    stands : StandsFor vs t (number_at rs) s
    lie : RegistersLie vs t (number_at rs)

  is_solved : (rs : List ℤ) (s : State) (i : List (List ℤ)) → Stood rs s → AllInputs vs (i ∷ []) → IsSolved vs t i (step_of rs i)
  is_solved rs s i h inputs = record {
    inputs = inputs.0;
    has = λ j. refl;
    registers = h.lie;
    solution = order_solves _ rs (compiled vs t).cells order _ is (length_replicate (length (compiled vs t).cells) (pos 0));
  }

  stood_next : (rs : List ℤ) (i : List (List ℤ)) (s : State) → StandsFor vs t (next_registers (step_of rs i) regs) s → RegistersLie vs t (next_registers (step_of rs i) regs) → Stood (next_values (step_of rs i) regs) s
  stood_next rs i s a b =
      let same : next_registers (step_of rs i) regs ≡ number_at (next_values (step_of rs i) regs) = λ j r. next_listed (step_of rs i) regs r j in
      record { stands = subst (λ k. StandsFor vs t k s) same a; lie = subst (RegistersLie vs t) same b }

  -- from registers that stand for a state a run is computed
  runs : (ins : List (List (List ℤ))) (rs : List ℤ) (s : State) → Stood rs s → AllInputs vs ins → RunsFrom vs s ins (computed_from vs t order rs ins).outs (computed_from vs t order rs ins).end
  runs [] rs s h a = of_end s
  runs (i ∷ more) rs s h a = by (least_fault (faults_of rs i)) refl (runs more (next_values (step_of rs i) regs) its.0.next (stood_next rs i its.0.next its.0.stands its.1) a.1)
    where
      its : IsMacroStep vs t s i (step_of rs i) × RegistersLie vs t (next_registers (step_of rs i) regs)
      its = sound_by vs t s i (step_of rs i) order sound is h.stands (is_solved rs s i h (a.0, tt))

      rest : Outcome
      rest = computed_from vs t order (next_values (step_of rs i) regs) more

      by : (o : Option Fault) → least_fault (faults_of rs i) ≡ o → RunsFrom vs its.0.next more (computed_from vs t order (next_values (step_of rs i) regs) more).outs (computed_from vs t order (next_values (step_of rs i) regs) more).end
          → RunsFrom vs s (i ∷ more) (step_before o (outs_of rs i) (computed_from vs t order (next_values (step_of rs i) regs) more)).outs (step_before o (outs_of rs i) (computed_from vs t order (next_values (step_of rs i) regs) more)).end
      by (Some f) e r = of_fault s i (outs_of rs i) its.0.next (faults_of rs i) f more its.0.step e
      by None e r = of_step s i (outs_of rs i) its.0.next more _ _ (subst (Macro vs s i (outs_of rs i) its.0.next) (none_least (faults_of rs i) e) its.0.step) r

  -- and there is no other
  one_run : (s : State) (ins outs : List (List (List ℤ))) (end : Option Fault) → RunsFrom vs s ins outs end → (rs : List ℤ) → Stood rs s → AllInputs vs ins
      → (outs ≡ (computed_from vs t order rs ins).outs) × (end ≡ (computed_from vs t order rs ins).end)
  one_run _ _ _ _ (of_end s) rs h a = (refl, refl)
  one_run _ _ _ _ (of_step s i o u more os end m r) rs h a = by (least_fault (faults_of rs i)) refl (one_run u more os end r (next_values (step_of rs i) regs) (stood_next rs i u one.2 lie) a.1)
    where
      one : (o ≡ outs_of rs i) × ([] ≡ faults_of rs i) × StandsFor vs t (next_registers (step_of rs i) regs) u
      one = complete vs t s i (step_of rs i) order sound is h.stands (is_solved rs s i h (a.0, tt)) o u [] m

      lie : RegistersLie vs t (next_registers (step_of rs i) regs)
      lie = (sound_by vs t s i (step_of rs i) order sound is h.stands (is_solved rs s i h (a.0, tt))).1

      by : (p : Option Fault) → least_fault (faults_of rs i) ≡ p → (os ≡ (computed_from vs t order (next_values (step_of rs i) regs) more).outs) × (end ≡ (computed_from vs t order (next_values (step_of rs i) regs) more).end)
          → (o ∷ os ≡ (step_before p (outs_of rs i) (computed_from vs t order (next_values (step_of rs i) regs) more)).outs) × (end ≡ (step_before p (outs_of rs i) (computed_from vs t order (next_values (step_of rs i) regs) more)).end)
      by None e q = (ap₂ (λ a b. a ∷ b) one.0 q.0, q.1)
      by (Some f) e q = absurd (wrong (ap least_fault one.1 ∙ e))
        where
          wrong : None ≡ Some f → ⊥
          wrong p = cc
  one_run _ _ _ _ (of_fault s i o u fs f more m e) rs h a = by (least_fault (faults_of rs i)) (sym (ap least_fault one.1) ∙ e)
    where
      one : (o ≡ outs_of rs i) × (fs ≡ faults_of rs i) × StandsFor vs t (next_registers (step_of rs i) regs) u
      one = complete vs t s i (step_of rs i) order sound is h.stands (is_solved rs s i h (a.0, tt)) o u fs m

      by : (p : Option Fault) → p ≡ Some f → ([] ≡ (step_before p (outs_of rs i) (computed_from vs t order (next_values (step_of rs i) regs) more)).outs) × (Some f ≡ (step_before p (outs_of rs i) (computed_from vs t order (next_values (step_of rs i) regs) more)).end)
      by None q = absurd (cc)
      by (Some g) q = (refl, sym q)

stood_first : (vs : Vars) (body : Kernel) (order : List ℕ) (sound : IsSoundModule vs (term_of body)) (is : IsOrder (compiled vs (term_of body)).cells order)
    → Stood vs (term_of body) order sound is (initial_values (compiled vs (term_of body)).registers) (initial vs body)
stood_first vs body order sound is =
    let rs = (compiled vs (term_of body)).registers in
    let same : initial_registers rs ≡ number_at (initial_values rs) = λ j r. initial_listed rs r j in
    record { stands = subst (λ k. StandsFor vs (term_of body) k (initial vs body)) same (initial_registers_stand vs body); lie = subst (RegistersLie vs (term_of body)) same (initial_lie vs (term_of body) sound) }

pub computed_is_run : ComputedIsRun
computed_is_run vs body order ins sound is a =
    runs vs (term_of body) order sound is ins (initial_values (compiled vs (term_of body)).registers) (initial vs body) (stood_first vs body order sound is) a

pub run_is_computed : RunIsComputed
run_is_computed vs body order ins outs end sound is a r =
    one_run vs (term_of body) order sound is (initial vs body) ins outs end r (initial_values (compiled vs (term_of body)).registers) (stood_first vs body order sound is) a
