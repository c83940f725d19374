-- A reader over a whole trace: the lines that were taken, and the steps that they gave.
use Rattle.std.proofs.Common.{◌≡◌, ◌⊎◌, inl, inr, ℕ, ℤ, Bool, true, false, ◌&&◌, List, [], ◌∷◌, ◌++◌, Option, Some, None, refl, sym, ap, ap₂, ◌∙◌, append_assoc, append-nil}
use Rattle.quartz_expr.specs.Vars.{Vars}
use Rattle.trace_io.specs.declared.step.ReadStep.TheVariants as step
use Rattle.trace_io.specs.Lines.{lines, joined_lines, whole_lines, is_ended}
use Rattle.trace_io.specs.Reading.{steps, steps_of}
use Rattle.trace_io.specs.Trace.{Trail, coming, are_ended, Gives, ReadTrace}
use Rattle.trace_io.proofs.TraceLemmas.{no_lines, no_taken}
use Rattle.trace_io.proofs.WholeLemmas.{whole_taken}

-- the steps with these values
abbrev pub given_steps : List (List ℤ) → List (Option (List ℤ))
given_steps [] = []
given_steps (zs ∷ rest) = Some zs ∷ given_steps rest

-- how far a reader is in a trace: which lines were taken, which steps they gave whatever follows, and what is left
pub record IsIn (vs : Vars) (trace : List ℕ) (now : Trail) (given : List (List ℤ)) (left : Option (List ℕ)) : Type 0 where
  pub taken : List (List ℕ)
  pub rest : List ℕ
  pub left_is : left ≡ Some rest
  pub cut : lines trace ≡ taken ++ lines (now.course.held.waiting ++ rest)
  pub all : joined_lines taken ++ (now.course.held.waiting ++ rest) ≡ trace
  pub whole : (are_ended taken ≡ true) ⊎ ((now.course.held.ended ≡ true) × (now.course.held.waiting ≡ []))
  pub ended : now.course.held.ended ≡ true → rest ≡ []
  pub gave : (ls : List (List ℕ)) → steps_of vs (taken ++ ls) ≡ given_steps given ++ coming now ls

-- a new reader is at the front
pub is_at_front : (vs : Vars) (trace : List ℕ) (t : Trail) → ((ls : List (List ℕ)) → coming t ls ≡ steps_of vs ls) → t.course.held ≡ record { line = []; waiting = []; ended = false } → IsIn vs trace t [] (Some trace)
is_at_front vs trace t means held = record {
  taken = [];
  rest = trace;
  left_is = refl;
  cut = ap (λ (w : List ℕ). lines (w ++ trace)) (sym waits);
  all = ap (λ (w : List ℕ). w ++ trace) waits;
  whole = inl refl;
  ended = λ e. absurd (cc (sym ends ∙ e));
  gave = λ ls. sym (means ls);
}
  where
    waits : t.course.held.waiting ≡ []
    waits = ap (λ h. h.waiting) held

    ends : t.course.held.ended ≡ false
    ends = ap (λ h. h.ended) held

pub joined_both : (ls ms : List (List ℕ)) → joined_lines (ls ++ ms) ≡ joined_lines ls ++ joined_lines ms
joined_both [] ms = refl
joined_both (l ∷ ls) ms = ap (λ (x : List ℕ). l ++ x) (joined_both ls ms) ∙ sym (append_assoc l (joined_lines ls) (joined_lines ms))

ended_both : (ls ms : List (List ℕ)) → are_ended ls ≡ true → are_ended ms ≡ true → are_ended (ls ++ ms) ≡ true
ended_both [] ms e f = f
ended_both (l ∷ ls) ms e f = step (is_ended l) e (ended_both ls ms)
  where
    step : (b : Bool) → (b && are_ended ls) ≡ true → (are_ended ls ≡ true → are_ended ms ≡ true → are_ended (ls ++ ms) ≡ true) → (b && are_ended (ls ++ ms)) ≡ true
    step true e k = k e f
    step false e k = absurd (cc e)

given_more : (given : List (List ℤ)) (zs : List ℤ) (rest : List (Option (List ℤ))) → given_steps given ++ (Some zs ∷ rest) ≡ given_steps (given ++ (zs ∷ [])) ++ rest
given_more [] zs rest = refl
given_more (ys ∷ given) zs rest = ap (λ (l : List (Option (List ℤ))). Some ys ∷ l) (given_more given zs rest)

some_is : (xs ys : List ℕ) → Some xs ≡ Some ys → xs ≡ ys
some_is xs ys e = cc e

module _ (vs : Vars) (trace : List ℕ) (start now : Trail) (given : List (List ℤ)) (values : List ℤ) (left0 left : Option (List ℕ)) (f0 f : ℕ) (c0 c : Option ℕ) (at : IsIn vs trace start given left0) where
  abbrev pub behind : List ℕ
  behind = start.course.held.waiting ++ at.rest

  cut_with : (taken others : List (List ℕ)) → lines behind ≡ taken ++ others → lines trace ≡ (at.taken ++ taken) ++ others
  cut_with taken others e = at.cut ∙ (ap (λ (x : List (List ℕ)). at.taken ++ x) e ∙ sym (append_assoc at.taken taken others))

  all_with : (taken : List (List ℕ)) (rest : List ℕ) → joined_lines taken ++ rest ≡ behind → joined_lines (at.taken ++ taken) ++ rest ≡ trace
  all_with taken rest e =
      ap (λ (x : List ℕ). x ++ rest) (joined_both at.taken taken)
      ∙ (append_assoc (joined_lines at.taken) (joined_lines taken) rest ∙ (ap (λ (x : List ℕ). joined_lines at.taken ++ x) e ∙ at.all))

  -- which of these steps come when more lines were taken
  gave_with : (taken ls : List (List ℕ)) → steps_of vs ((at.taken ++ taken) ++ ls) ≡ given_steps given ++ coming start (taken ++ ls)
  gave_with taken ls = ap (steps_of vs) (append_assoc at.taken taken ls) ∙ at.gave (taken ++ ls)

  -- nothing was left where the last line had no LF
  nothing_behind : (start.course.held.ended ≡ true) × (start.course.held.waiting ≡ []) → behind ≡ []
  nothing_behind (a, b) = ap₂ (λ (x y : List ℕ). x ++ y) b (at.ended a)

  none_gives : Gives start behind now values left → behind ≡ [] → ⊥
  none_gives g e =
      let none : g.taken ≡ [] = no_taken g.taken (lines (now.course.held.waiting ++ g.rest)) (sym (ap lines e) ∙ g.cut) in
      let next : coming start [] ≡ Some values ∷ coming now [] = ap (λ (x : List (List ℕ)). coming start (x ++ [])) (sym none) ∙ g.next [] in
      cc (sym (no_lines start) ∙ next)

  -- a step more
  pub is_one_further : ReadTrace start left0 f0 c0 step.Step now values left f c → IsIn vs trace now (given ++ (values ∷ [])) left
  is_one_further r =
      let t = r.told at.rest at.left_is at.ended in
      let g = t.0 in
      record {
        taken = at.taken ++ g.taken;
        rest = g.rest;
        left_is = g.left_is;
        cut = cut_with g.taken (lines (now.course.held.waiting ++ g.rest)) g.cut;
        all = all_with g.taken (now.course.held.waiting ++ g.rest) g.all;
        whole = whole g at.whole g.whole;
        ended = λ e. some_is g.rest [] (sym g.left_is ∙ t.1 e);
        gave = λ ls. gave_with g.taken ls ∙ (ap (λ (x : List (Option (List ℤ))). given_steps given ++ x) (g.next ls) ∙ given_more given values (coming now ls));
      }
    where
      whole : (g : Gives start behind now values left) → (are_ended at.taken ≡ true) ⊎ ((start.course.held.ended ≡ true) × (start.course.held.waiting ≡ [])) → (are_ended g.taken ≡ true) ⊎ ((now.course.held.ended ≡ true) × (now.course.held.waiting ≡ []))
          → (are_ended (at.taken ++ g.taken) ≡ true) ⊎ ((now.course.held.ended ≡ true) × (now.course.held.waiting ≡ []))
      whole g (inl a) (inl b) = inl (ended_both at.taken g.taken a b)
      whole g (inl a) (inr b) = inr b
      whole g (inr a) k = absurd (none_gives g (nothing_behind a))

  -- the steps of the trace begin with those that were given
  pub steps_so_far : steps vs trace ≡ given_steps given ++ coming start (lines behind)
  steps_so_far = ap (steps_of vs) at.cut ∙ at.gave (lines behind)

  -- the trace is over
  pub steps_at_end : ReadTrace start left0 f0 c0 step.End now values left f c → (steps vs trace ≡ given_steps given) × (left ≡ Some [])
  steps_at_end r =
      let t = r.told at.rest at.left_is at.ended in
      (steps_so_far ∙ (ap (λ (x : List (Option (List ℤ))). given_steps given ++ x) t.0.no_more ∙ append-nil (given_steps given)), t.0.left_is)

  -- the next step isn't readable
  pub steps_at_bad : ReadTrace start left0 f0 c0 step.Bad now values left f c → steps vs trace ≡ given_steps given ++ (None ∷ [])
  steps_at_bad r =
      let t = r.told at.rest at.left_is at.ended in
      steps_so_far ∙ ap (λ (x : List (Option (List ℤ))). given_steps given ++ x) (ap (coming start) t.0.cut ∙ t.0.unread t.0.others)

  -- a read failed: of the bytes that were taken the whole lines gave just the steps that were given
  pub steps_at_failure : ReadTrace start left0 f0 c0 step.ReadFault now values left f c
      → (taken rest : List ℕ) × (left ≡ Some rest) × (taken ++ rest ≡ trace) × (steps_of vs (whole_lines taken) ≡ given_steps given)
  steps_at_failure r =
      let t = r.told at.rest at.left_is at.ended in
      let n = t.0 in
      let more = at.taken ++ n.taken in
      let part = now.course.held.line in
      let cut : lines trace ≡ more ++ lines (part ++ n.rest) = cut_with n.taken (lines (part ++ n.rest)) n.cut in (
        joined_lines more ++ part,
        n.rest,
        n.left_is,
        append_assoc (joined_lines more) part n.rest ∙ all_with n.taken (part ++ n.rest) n.all,
        ap (steps_of vs) (whole_taken more (lines (part ++ n.rest)) trace part cut (ended_both at.taken n.taken (are_ended_before (r.asked refl) at.whole) n.whole) n.not_whole n.short)
            ∙ (ap (steps_of vs) (sym (append-nil more)) ∙ (gave_with n.taken [] ∙ (ap (λ (x : List (List ℕ)). given_steps given ++ coming start x) (append-nil n.taken) ∙ (ap (λ (x : List (Option (List ℤ))). given_steps given ++ x) n.none_given ∙ append-nil (given_steps given))))),
      )
    where
      are_ended_before : start.course.held.ended ≡ false → (are_ended at.taken ≡ true) ⊎ ((start.course.held.ended ≡ true) × (start.course.held.waiting ≡ [])) → are_ended at.taken ≡ true
      are_ended_before e (inl a) = a
      are_ended_before e (inr a) = absurd (cc (e, a.0))
