-- From what is known of a task on a text to what is promised of it.
use Rattle.std.proofs.Common.{◌≡◌, ◌⊎◌, inl, inr, ℕ, Bool, true, false, min, List, length, take, arith, Option, Some, None, Result, Err, refl, sym, ap, ap₂, subst, ◌∙◌}
use Rattle.std.proofs.lemmas.Grind.{common_steps}
use Rattle.quartz_tree.specs.declared.place.Place.{Place}
use Rattle.quartz_tree.specs.Surfaces.{ModuleTree}
use Rattle.quartz_names.specs.Resolving.{resolved_body, resolved_vars}
use Rattle.outside.specs.Bytes.{Fetched, Rose, Unfetched}
use Rattle.outside.specs.declared.status.Status.{Status}
use Rattle.outside.specs.declared.status.Status.TheVariants.{Usage, ModuleUnavailable, Refused, BadInput, RunFault, ReadFault, WriteFault, StepLimit, NoMemory, BadWitness}
use Rattle.outside.specs.declared.status.Status.TheVariants as status
use Rattle.quartz_build.specs.declared.fault.BuildFault.{BuildFault}
use Rattle.quartz_build.specs.declared.fault.BuildFault.TheVariants as fault
use Rattle.quartz_build.specs.declared.building.Built.{Built}
use Rattle.quartz_build.specs.Broken.{Cells, IsAccepted, Refuses, scrutiny_of}
use Rattle.quartz_build.specs.Parts.{BuildsAs}
use Rattle.quartz_build.proofs.OneLemmas.{not_refused, one_module, one_refusal}
use Rattle.averest_top.specs.declared.task.Task.{Task}
use Rattle.averest_top.specs.declared.task.Task.TheVariants as task
use Rattle.averest_top.specs.Commands.{is_strict_in, scrutiny_in, wants_pairs_in}
use Rattle.trace_writer.specs.Anew.{format_of}
use Rattle.averest_top.specs.Tasks.{ConvertsAs, Does, IsOfTask, RunsAs}
use Rattle.averest_top.specs.Promise.{ComesBefore, HasText, IsDone, IsExcused, LacksText, NewOutcome, OfText, Outcome, refusal_status}

module _ (text : List ℕ) (t : Task) (left left' : Option (List ℕ)) (before after : List ℕ → Type 0) (shelf input out : Type 0) where
  abbrev IsOf : Status → Type 0
  IsOf s = OfText text t left left' before after shelf input out s

  -- a text that isn't built
  pub refused_text : (wants : Bool) (f : BuildFault) → BuildsAs (scrutiny_in t) wants text (Err f) → IsOf (refusal_status f)
  refused_text wants (fault.Refused r p) h = h
  refused_text wants fault.NoMemory h = tt

  -- a task that was done
  pub done_text : (m : ModuleTree) (s : Status) → IsAccepted (scrutiny_in t) text m → IsOfTask s → (s ≡ NoMemory) ⊎ Does t m left left' before after input out s → IsOf s
  done_text m s a o (inl e) = subst IsOf (sym e) tt
  done_text m status.Ok a o (inr d) = (m, a, d)
  done_text m (BadInput k) a o (inr d) = (m, a, d)
  done_text m (RunFault k q p) a o (inr d) = (m, a, d)
  done_text m ReadFault a o (inr d) = (m, a, d)
  done_text m WriteFault a o (inr d) = (m, a, d)
  done_text m StepLimit a o (inr d) = (m, a, d)
  done_text m NoMemory a o (inr d) = tt
  done_text m Usage a o d = absurd o
  done_text m ModuleUnavailable a o d = absurd o
  done_text m (Refused q p) a o d = absurd o
  done_text m (BadWitness k) a o d = absurd o

  not_both : (m : ModuleTree) (r : ℕ) (p : Place) {X : Type 0} → IsAccepted (scrutiny_in t) text m → Refuses (scrutiny_in t) text r p → X
  not_both m r p a h = absurd (not_refused (scrutiny_in t) text m r p a h)

  -- a text is refused exactly by its rule
  pub refused_exactly : (s : Status) → IsOf s → (r : ℕ) (p : Place) → (s ≡ Refused r p → Refuses (scrutiny_in t) text r p) × (Refuses (scrutiny_in t) text r p → (s ≡ Refused r p) ⊎ IsExcused s shelf)
  refused_exactly s o r p = (λ e. subst IsOf e o, exactly s o)
    where
      exactly : (s : Status) → IsOf s → Refuses (scrutiny_in t) text r p → (s ≡ Refused r p) ⊎ IsExcused s shelf
      exactly NoMemory o h = inr (inl refl)
      exactly ModuleUnavailable o h = inr (inr (refl, o))
      exactly (Refused q z) o h =
          let same = one_refusal (scrutiny_in t) text q r z p o h in
          inl (ap₂ (λ (a : ℕ) (b : Place). Refused a b) same.0 same.1)
      exactly Usage o h = absurd o
      exactly ReadFault o h = not_both o.0 r p o.1 h
      exactly WriteFault o h = not_both o.0 r p o.1 h
      exactly status.Ok o h = not_both o.0 r p o.1 h
      exactly (BadInput k) o h = not_both o.0 r p o.1 h
      exactly (RunFault k q z) o h = not_both o.0 r p o.1 h
      exactly StepLimit o h = not_both o.0 r p o.1 h
      exactly (BadWitness k) o h = not_both o.0 r p o.1 h

  -- with a status behind the build the text is accepted
  pub accepted_else : (s : Status) → IsOf s → ComesBefore s ⊎ ((m : ModuleTree) × IsAccepted (scrutiny_in t) text m)
  accepted_else NoMemory o = inl tt
  accepted_else ModuleUnavailable o = inl tt
  accepted_else (Refused q z) o = inl tt
  accepted_else Usage o = inl tt
  accepted_else ReadFault o = inr (o.0, o.1)
  accepted_else WriteFault o = inr (o.0, o.1)
  accepted_else status.Ok o = inr (o.0, o.1)
  accepted_else (BadInput k) o = inr (o.0, o.1)
  accepted_else (RunFault k q z) o = inr (o.0, o.1)
  accepted_else StepLimit o = inr (o.0, o.1)
  accepted_else (BadWitness k) o = inr (o.0, o.1)

  -- and a text that is accepted has its task done
  pub accepted_does : (s : Status) → IsOf s → (m : ModuleTree) → IsAccepted (scrutiny_in t) text m → IsExcused s shelf ⊎ Does t m left left' before after input out s
  accepted_does s o m a = by_status s o
    where
      done : (s : Status) → IsDone text t left left' before after input out s → Does t m left left' before after input out s
      done s (n, b, d) = subst (λ (k : ModuleTree). Does t k left left' before after input out s) (one_module (scrutiny_in t) (scrutiny_in t) text n m b a) d

      by_status : (s : Status) → IsOf s → IsExcused s shelf ⊎ Does t m left left' before after input out s
      by_status NoMemory o = inl (inl refl)
      by_status ModuleUnavailable o = inl (inr (refl, o))
      by_status (Refused r p) o = not_both m r p a o
      by_status Usage o = absurd o
      by_status ReadFault o = inr (done ReadFault o)
      by_status WriteFault o = inr (done WriteFault o)
      by_status status.Ok o = inr (done status.Ok o)
      by_status (BadInput k) o = inr (done (BadInput k) o)
      by_status (RunFault k q z) o = inr (done (RunFault k q z) o)
      by_status StepLimit o = inr (done StepLimit o)
      by_status (BadWitness k) o = inr (done (BadWitness k) o)

-- a run tells its story
pub run_outcome : (text : List ℕ) (greatest : ℕ) (left left' : Option (List ℕ)) (before after : List ℕ → Type 0) (shelf input out : Type 0) (s : Status) → OfText text (task.Run greatest) left left' before after shelf input out s
    → (m : ModuleTree) (trace : List ℕ) → IsAccepted Cells text m → left ≡ Some trace → Outcome (resolved_vars m) (resolved_body m) trace greatest before after left' shelf input out s
run_outcome text greatest left left' before after shelf input out s o m trace a e = which (accepted_does text (task.Run greatest) left left' before after shelf input out s o m a)
  where
    told : (s : Status) → RunsAs (resolved_vars m) (resolved_body m) greatest left left' before after input out s → Outcome (resolved_vars m) (resolved_body m) trace greatest before after left' shelf input out s
    told ReadFault d = inr (inl (refl, d.0 refl, d.2 trace e))
    told WriteFault d = inr (inr (inl (refl, d.1 refl, d.2 trace e)))
    told status.Ok d = inr (inr (inr (d.2 trace e)))
    told (BadInput k) d = inr (inr (inr (d.2 trace e)))
    told (RunFault k q p) d = inr (inr (inr (d.2 trace e)))
    told StepLimit d = inr (inr (inr (d.2 trace e)))
    told NoMemory d = inr (inr (inr (d.2 trace e)))
    told Usage d = inr (inr (inr (d.2 trace e)))
    told ModuleUnavailable d = inr (inr (inr (d.2 trace e)))
    told (Refused q p) d = inr (inr (inr (d.2 trace e)))
    told (BadWitness k) d = inr (inr (inr (d.2 trace e)))

    which : IsExcused s shelf ⊎ RunsAs (resolved_vars m) (resolved_body m) greatest left left' before after input out s → Outcome (resolved_vars m) (resolved_body m) trace greatest before after left' shelf input out s
    which (inl x) = inl x
    which (inr d) = told s d

-- and converting writes the trace anew
pub new_outcome : (text : List ℕ) (to : ℕ) (left left' : Option (List ℕ)) (before after : List ℕ → Type 0) (shelf input out : Type 0) (s : Status) → OfText text (task.Convert to) left left' before after shelf input out s
    → (m : ModuleTree) (trace : List ℕ) → IsAccepted Cells text m → left ≡ Some trace → NewOutcome (format_of to) (resolved_vars m) trace before after left' shelf input out s
new_outcome text to left left' before after shelf input out s o m trace a e = which (accepted_does text (task.Convert to) left left' before after shelf input out s o m a)
  where
    told : (s : Status) → ConvertsAs (format_of to) (resolved_vars m) left left' before after input out s → NewOutcome (format_of to) (resolved_vars m) trace before after left' shelf input out s
    told ReadFault d = inr (inl (refl, d.0 refl, d.2 trace e))
    told WriteFault d = inr (inr (inl (refl, d.1 refl, d.2 trace e)))
    told status.Ok d = inr (inr (inr (d.2 trace e)))
    told (BadInput k) d = inr (inr (inr (d.2 trace e)))
    told (RunFault k q p) d = inr (inr (inr (d.2 trace e)))
    told StepLimit d = inr (inr (inr (d.2 trace e)))
    told NoMemory d = inr (inr (inr (d.2 trace e)))
    told Usage d = inr (inr (inr (d.2 trace e)))
    told ModuleUnavailable d = inr (inr (inr (d.2 trace e)))
    told (Refused q p) d = inr (inr (inr (d.2 trace e)))
    told (BadWitness k) d = inr (inr (inr (d.2 trace e)))

    which : IsExcused s shelf ⊎ ConvertsAs (format_of to) (resolved_vars m) left left' before after input out s → NewOutcome (format_of to) (resolved_vars m) trace before after left' shelf input out s
    which (inl x) = inl x
    which (inr d) = told s d

-- ---- statuses

-- of a task's statuses want of memory alone comes before it
pub task_before : (s : Status) → IsOfTask s → ComesBefore s → s ≡ NoMemory
task_before NoMemory o b = refl
task_before status.Ok o b = absurd b
task_before (BadInput k) o b = absurd b
task_before (RunFault k q p) o b = absurd b
task_before ReadFault o b = absurd b
task_before WriteFault o b = absurd b
task_before StepLimit o b = absurd b
task_before Usage o b = absurd o
task_before ModuleUnavailable o b = absurd o
task_before (Refused q p) o b = absurd o
task_before (BadWitness k) o b = absurd b

-- loose pairs are refused only where they are counted
pub strict_wants : (t : Task) (strict wants : Bool) → strict ≡ is_strict_in t → wants ≡ wants_pairs_in t → strict ≡ true → wants ≡ true
strict_wants (task.Check b) strict wants s w h = w
strict_wants (task.Run n) strict wants s w h = absurd (cc)
strict_wants task.Aif strict wants s w h = absurd (cc)
strict_wants (task.Load n k) strict wants s w h = absurd (cc)
strict_wants (task.Convert n) strict wants s w h = absurd (cc)

-- what a build answers, by the task for which it was built
pub built_for : (text : List ℕ) (t : Task) (strict wants : Bool) (r : Result Built BuildFault) → strict ≡ is_strict_in t → wants ≡ wants_pairs_in t → BuildsAs (scrutiny_of strict) wants text r → BuildsAs (scrutiny_in t) (wants_pairs_in t) text r
built_for text t strict wants r s w h = subst (λ (b : Bool). BuildsAs (scrutiny_in t) b text r) w (subst (λ (b : Bool). BuildsAs (scrutiny_of b) wants text r) s h)

-- ---- texts of the shelf

-- the text that was fetched is the one that the shelf tells
pub fetched_text : (texts : Option (List ℕ → Option (List ℕ))) (name text room : List ℕ) (n : ℕ) → length room ≡ 65537 → HasText texts name text → Fetched texts name n room → take n room ≡ text
fetched_text None name text room n l h f =
    let both : None ≡ Some h.told = h.tells in
    cc
fetched_text (Some told) name text room n l h (whole, named, (count, front)) =
    let same : told ≡ h.told = cc (h.tells) in
    let texts : Some whole ≡ Some h.whole = sym named ∙ ap (λ (t : List ℕ → Option (List ℕ)). t name) same ∙ h.named in
    let wholes : whole ≡ h.whole = cc in
    let long : n ≡ min (length whole) 65537 = count ∙ ap (min (length whole)) l in
    front ∙ cut n 65537 whole long ∙ ap (take 65537) wholes ∙ sym h.front
  where
    cut : (n m : ℕ) (xs : List ℕ) → n ≡ min (length xs) m → take n xs ≡ take m xs
    cut n m xs h = grind (arith, common_steps)

-- a name that the shelf lacks is not fetched
pub not_fetched : (texts : Option (List ℕ → Option (List ℕ))) (name room : List ℕ) (n : ℕ) → LacksText texts name → Fetched texts name n room → ⊥
not_fetched None name room n h f =
    let both : None ≡ Some h.told = h.tells in
    cc
not_fetched (Some told) name room n h (whole, named, _) =
    let same : told ≡ h.told = cc (h.tells) in
    let both : Some whole ≡ None = sym named ∙ ap (λ (t : List ℕ → Option (List ℕ)). t name) same ∙ h.none in
    cc

-- a text that the shelf tells is unfetched by a fault alone
pub unfetched_text : (texts : Option (List ℕ → Option (List ℕ))) (name text : List ℕ) (before after : ℕ) → HasText texts name text → Unfetched texts name before after → Rose before after
unfetched_text None name text before after h u = u
unfetched_text (Some told) name text before after h (inl r) = r
unfetched_text (Some told) name text before after h (inr e) =
    let same : told ≡ h.told = cc (h.tells) in
    let both : None ≡ Some h.whole = sym e ∙ ap (λ (t : List ℕ → Option (List ℕ)). t name) same ∙ h.named in
    cc

-- a shelf without a fault, or with any
pub any_shelf : (text : List ℕ) (t : Task) (left left' : Option (List ℕ)) (before after : List ℕ → Type 0) (shelf input out : Type 0) (s : Status) → OfText text t left left' before after ⊥ input out s → OfText text t left left' before after shelf input out s
any_shelf text t left left' before after shelf input out NoMemory o = o
any_shelf text t left left' before after shelf input out ModuleUnavailable o = absurd o
any_shelf text t left left' before after shelf input out (Refused r p) o = o
any_shelf text t left left' before after shelf input out ReadFault o = o
any_shelf text t left left' before after shelf input out WriteFault o = o
any_shelf text t left left' before after shelf input out Usage o = o
any_shelf text t left left' before after shelf input out status.Ok o = o
any_shelf text t left left' before after shelf input out (BadInput k) o = o
any_shelf text t left left' before after shelf input out (RunFault k q z) o = o
any_shelf text t left left' before after shelf input out StepLimit o = o
any_shelf text t left left' before after shelf input out (BadWitness k) o = o
