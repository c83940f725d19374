-- The conflicts of the steps to which runs come.
use Rattle.std.proofs.Common.{◌≡◌, ℕ, ℤ, pos, List, [], length, Contains, Some, refl, ◌∙◌, subst, arith}
use Rattle.std.specs.Prelude.{Option}
use Rattle.quartz_tree.specs.declared.fault.Fault.{Fault}
use Rattle.quartz_tree.specs.declared.fault.Kind.TheVariants.{Conflict}
use Rattle.quartz_tree.specs.Kernel.{Kernel}
use Rattle.quartz_expr.specs.Vars.{Vars}
use Rattle.quartz_expr.specs.Terms.{Term, term_of}
use Rattle.quartz_expr.specs.Steps.{State, Macro, initial, outputs_of}
use Rattle.quartz_expr.specs.Runs.{RunsFrom, of_end, of_step, of_fault}
use Rattle.aif_cells.specs.declared.cells.Register.{Register}
use Rattle.aif_cells.specs.Built.{Defined}
use Rattle.aif_cells.specs.Order.{IsOrder}
use Rattle.aif_cells.specs.Worth.{Assignment, number_at}
use Rattle.causality_check.specs.Order.{HasNoCycle}
use Rattle.statement_cells.specs.Stands.{Registers}
use Rattle.statement_cells.specs.Whole.{compiled}
use Rattle.statement_cells.specs.Meaning.{AreInputs, IsSoundModule, IsStep, StandsFor, initial_registers, inputs_of, next_registers}
use Rattle.statement_cells.proofs.EarlierCompiledLemmas.{compiled_names_before}
use Rattle.statement_cells.proofs.NextLemmas.{outputs_less}
use Rattle.statement_cells.proofs.ScopeGrowLemmas.{length_replicate}
use Rattle.statement_cells.proofs.StartLemmas.{initial_registers_stand}
use Rattle.macro_steps.specs.Laws.{IsSolved}
use Rattle.macro_steps.specs.Ranges.{RegistersLie}
use Rattle.macro_steps.specs.Runs.{AllInputs, initial_values, next_values, solved}
use Rattle.macro_steps.proofs.AcyclicLemmas.{acyclic_has_order}
use Rattle.macro_steps.proofs.CoherenceLemmas.{complete}
use Rattle.macro_steps.proofs.EvaluateLemmas.{order_solves}
use Rattle.macro_steps.proofs.RangeLemmas.{solution_lies}
use Rattle.macro_steps.proofs.SoundLemmas.{initial_lie, sound_by}
use Rattle.loose_runs.specs.Reached.{Reached, at_start, by_step}
use Rattle.loose_runs.specs.Laws.{FlaggedAt, IsRunStep, LooseMeetsConflict, RunsEndFlagged, UnflaggedHasNoConflict}
use Rattle.loose_runs.proofs.AddLemmas.{OutputHere, Sited}
use Rattle.loose_runs.proofs.FaultLemmas.{all_there, least_in, raised_by}
use Rattle.loose_runs.proofs.EndAddLemmas.{all_sited, final}
use Rattle.loose_runs.proofs.LooseLemmas.{QuietRegisters, flagged}
use Rattle.loose_runs.proofs.NextQuietLemmas.{depths_here, initial_quiet, next_quiet}
use Rattle.macro_steps.proofs.RunLemmas.{next_listed, initial_listed}

-- ---- the states that are reached

module _ (vs : Vars) (body : Kernel) (sound : IsSoundModule vs (term_of body)) (acyclic : HasNoCycle (compiled vs (term_of body)).cells) where
  abbrev t : Term
  t = term_of body

  abbrev cells : List Defined
  cells = (compiled vs t).cells

  abbrev regs : List Register
  regs = (compiled vs t).registers

  ordered : (order : List ℕ) × IsOrder cells order
  ordered = acyclic_has_order cells (compiled_names_before vs t).named acyclic

  abbrev step_of : List ℤ → List (List ℤ) → Assignment
  step_of rs i = solved cells ordered.0 rs i

  -- registers that stand for a state, in their ranges, without the flags that are never set
  record Stood (s : State) : Type 0 where
    registers : List ℤ
    stands : StandsFor vs t (number_at registers) s
    lie : RegistersLie vs t (number_at registers)
    quiet : QuietRegisters vs t (number_at registers)

  stood_at : (k : Registers) (rs : List ℤ) (s : State) → k ≡ number_at rs → StandsFor vs t k s → RegistersLie vs t k → QuietRegisters vs t k → Stood s
  stood_at k rs s e a b c = record { registers = rs; stands = subst (λ j. StandsFor vs t j s) e a; lie = subst (RegistersLie vs t) e b; quiet = subst (QuietRegisters vs t) e c }

  is_solved : (s : State) (i : List (List ℤ)) (h : Stood s) → AreInputs vs (inputs_of vs) i → IsSolved vs t i (step_of h.registers i)
  is_solved s i h inputs = record {
    inputs = inputs;
    has = λ j. refl;
    registers = h.lie;
    solution = order_solves _ h.registers cells ordered.0 _ ordered.1 (length_replicate (length cells) (pos 0));
  }

  is_step : (s : State) (i : List (List ℤ)) (h : Stood s) → AreInputs vs (inputs_of vs) i → IsStep vs t i (step_of h.registers i)
  is_step s i h inputs =
      let w = is_solved s i h inputs in
      record { inputs = w.inputs; has = w.has; solution = w.solution; ranges = solution_lies vs t s i (step_of h.registers i) ordered.0 sound ordered.1 h.stands w }

  stood_next : (s : State) (i o : List (List ℤ)) (next : State) (fs : List Fault) → Stood s → AreInputs vs (inputs_of vs) i → Macro vs s i o next fs → Stood next
  stood_next s i o next fs h inputs m =
      let σ : Assignment = step_of h.registers i in
      let w = is_solved s i h inputs in
      stood_at (next_registers σ regs) (next_values σ regs) next (λ j r. next_listed σ regs r j)
      (complete vs t s i σ ordered.0 sound ordered.1 h.stands w o next fs m).2
      (sound_by vs t s i σ ordered.0 sound ordered.1 h.stands w).1
      (next_quiet vs t s i σ sound h.stands (is_step s i h inputs))

  stood : (s : State) → Reached vs body s → Stood s
  stood _ at_start =
      stood_at (initial_registers regs) (initial_values regs) (initial vs body) (λ j r. initial_listed regs r j) (initial_registers_stand vs body) (initial_lie vs t sound) (initial_quiet vs body)
  stood _ (by_step s i o next r inputs m) = stood_next s i o next [] (stood s r) inputs m

  -- a conflict of a step is one of a flagged variable
  pub conflict_flagged : (s : State) (i o : List (List ℤ)) (next : State) (fs : List Fault) (f : Fault) → IsRunStep vs body s i o next fs → Contains fs f → f.kind ≡ Conflict → FlaggedAt vs t f.place
  conflict_flagged s i o next fs f run c e =
      let h : Stood s = stood s run.reached in
      let σ : Assignment = step_of h.registers i in
      let w = is_solved s i h run.inputs in
      let all = all_sited vs t sound.sound (all_there vs σ (outputs_of vs) (outputs_less vs σ vs 0 (omega arith))) in
      let m = raised_by σ (Sited vs (OutputHere vs t) (λ q. Unit {0}) (final vs t sound.sound)) (compiled vs t).monitors f all
      (subst (λ l. Contains l f) (complete vs t s i σ ordered.0 sound ordered.1 h.stands w o next fs run.step).1 c) in
      subst (FlaggedAt vs t) m.place (flagged vs t sound.sound s σ h.stands w.solution h.quiet (depths_here vs t σ) m.monitor (m.has (m.kind ∙ e)) m.raised)

pub loose_meets_conflict : LooseMeetsConflict
loose_meets_conflict vs body s i o next fs f sound acyclic run c e = conflict_flagged vs body sound acyclic s i o next fs f run c e

pub unflagged_has_no_conflict : UnflaggedHasNoConflict
unflagged_has_no_conflict vs body s i o next fs p sound acyclic run free c =
    let a = conflict_flagged vs body sound acyclic s i o next fs _ run c refl in
    free a.var a.known a.place a.flagged

-- ---- runs

module _ (vs : Vars) (body : Kernel) (sound : IsSoundModule vs (term_of body)) (acyclic : HasNoCycle (compiled vs (term_of body)).cells) where
  run_flagged : (s : State) (ins outs : List (List (List ℤ))) (end : Option Fault) → RunsFrom vs s ins outs end → Reached vs body s → AllInputs vs ins → (f : Fault) → end ≡ Some f → f.kind ≡ Conflict → FlaggedAt vs (term_of body) f.place
  run_flagged _ _ _ _ (of_end s) r a f e k = absurd (cc)
  run_flagged _ _ _ _ (of_step s i o u more os end m more_run) r a f e k = run_flagged u more os end more_run (by_step s i o u r a.0 m) a.1 f e k
  run_flagged _ _ _ _ (of_fault s i o u fs g more m l) r a f e k =
      conflict_flagged vs body sound acyclic s i o u fs f (record { reached = r; inputs = a.0; step = m }) (least_in fs f (l ∙ e)) k

pub runs_end_flagged : RunsEndFlagged
runs_end_flagged vs body ins outs f sound acyclic a r k = run_flagged vs body sound acyclic (initial vs body) ins outs (Some f) r at_start a f refl k
