-- From what a run told of a counting sink to what is told of the run.
use Rattle.std.proofs.Common.{◌≡◌, ◌≢◌, ◌<◌, inl, inr, ◌^◌, ℕ, List, [], ◌++◌, Option, refl, sym, ap₂, subst, ◌∙◌, append-nil, arith}
use Rattle.quartz_tree.specs.Kernel.{Kernel}
use Rattle.quartz_expr.specs.Vars.{Vars}
use Rattle.outside.specs.Bytes.{Gains, Rose}
use Rattle.outside.specs.declared.status.Status.{Status}
use Rattle.outside.specs.declared.status.Status.TheVariants.{Usage, ModuleUnavailable, Refused, BadInput, RunFault, ReadFault, WriteFault, StepLimit, NoMemory, BadWitness}
use Rattle.outside.specs.declared.status.Status.TheVariants as status
use Rattle.trace_io.specs.Lines.{joined_lines}
use Rattle.trace_io.specs.Writing.{generated}
use Rattle.trace_io.specs.Counting.{StandsFor, Tally}
use Rattle.trace_io.specs.Story.{End, done, bad, limit, fault, Story}
use Rattle.trace_io.proofs.TallyLemmas.{stands_for_none}
use Rattle.command_texts.specs.Texts.{summary_of, summary_text}
use Rattle.command_texts.specs.Written.{IsWritten}
use Rattle.command_texts.specs.Counted.{HaveShortLines}
use Rattle.command_texts.proofs.CountedLemmas.{counted_run_is_told}
use Rattle.cell_run.specs.Told.{IsOfRun, Tells, Told, status_of}
use Rattle.load_run.specs.Load.{Loaded}

-- a sink that is as it was gained nothing
gains_nothing : (before after : List ℕ → Type 0) → before ≡ after → Gains before after []
gains_nothing before after e bs h = subst (λ (s : List ℕ → Type 0). s (bs ++ [])) e (subst before (sym (append-nil bs)) h)

-- neither a generated trace nor a counting sink fails
never_rose : Rose 0 0 → ⊥
never_rose (inl h) = absurd (omega (arith, h))
never_rose (inr h) = absurd (omega (arith, h))

abbrev new_tally : Tally
new_tally = record { count = 0; last = [] }

-- what a counting sink tells of the run's lines is their summary
module _ (vs : Vars) (body : Kernel) (seed n : ℕ) (t : Tally) (left : Option (List ℕ)) (before after : List ℕ → Type 0) (rose : Type 0) (r : Status) (short : HaveShortLines vs) (few : n < 2 ^ 32) where
  abbrev IsTold : Status → Type 0
  IsTold s = Told vs body (generated vs seed n) 4294967295 (StandsFor new_tally) (StandsFor t) left s

  abbrev IsWhole : Type 0
  IsWhole = Loaded vs body seed n before after rose r

  from_told : (s : Status) → (s ≡ status.Ok → IsWritten (summary_of n t) before after rose r) → (s ≢ status.Ok → (r ≡ s) × Gains before after []) → IsTold s → IsWhole
  from_told s done_is kept o = by_end o.end o.story o.ends
    where
      other : (x : Status) → s ≡ x → x ≢ status.Ok → (r ≡ x) × Gains before after []
      other x e d = let k = kept (λ h. d (sym e ∙ h)) in (k.0 ∙ e, k.1)

      by_end : (e : End) → Story vs body (generated vs seed n) 4294967295 o.written e → s ≡ status_of e → IsWhole
      by_end done story e =
          let stands : StandsFor t (joined_lines o.written) = o.gained [] stands_for_none in
          let told = counted_run_is_told vs body seed n 4294967295 o.written t short few story stands in
          let same : summary_of n t ≡ summary_text o.written = ap₂ (λ (k : ℕ) (u : Tally). summary_of k u) (sym told.0) told.1 in
          record { written = o.written; end = done; story = story; ends = subst (λ (x : List ℕ). IsWritten x before after rose r) same (done_is e) }
      by_end (bad k) story e = record { written = o.written; end = bad k; story = story; ends = other (BadInput k) e (λ h. cc h) }
      by_end limit story e = record { written = o.written; end = limit; story = story; ends = other StepLimit e (λ h. cc h) }
      by_end (fault k f) story e = record { written = o.written; end = fault k f; story = story; ends = other (RunFault k f.kind f.place) e (λ h. cc h) }

  pub loaded : (s : Status) → IsOfRun s → (s ≡ ReadFault → Rose 0 0) → (s ≡ WriteFault → Rose 0 0)
      → (s ≡ status.Ok → IsWritten (summary_of n t) before after rose r) → (s ≢ status.Ok → (r ≡ s) × Gains before after [])
      → Tells vs body (generated vs seed n) 4294967295 (StandsFor new_tally) (StandsFor t) left s → IsWhole
  loaded status.Ok h f g d k o = from_told status.Ok d k o
  loaded (BadInput j) h f g d k o = from_told (BadInput j) d k o
  loaded (RunFault j q p) h f g d k o = from_told (RunFault j q p) d k o
  loaded StepLimit h f g d k o = from_told StepLimit d k o
  loaded ReadFault h f g d k o = absurd (never_rose (f refl))
  loaded WriteFault h f g d k o = absurd (never_rose (g refl))
  loaded Usage h f g d k o = absurd h
  loaded ModuleUnavailable h f g d k o = absurd h
  loaded (Refused q p) h f g d k o = absurd h
  loaded NoMemory h f g d k o = absurd h
  loaded (BadWitness j) h f g d k o = absurd h

-- where the status says that the sink is as it was, it gained nothing
pub kept_gains : (before after : List ℕ → Type 0) (s r : Status) (same : Type 0) → (same → before ≡ after) → (s ≢ status.Ok → (r ≡ s) × same) → s ≢ status.Ok → (r ≡ s) × Gains before after []
kept_gains before after s r same f k d = ((k d).0, gains_nothing before after (f (k d).1))
