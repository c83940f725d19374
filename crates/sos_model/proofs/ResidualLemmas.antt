-- What is left of a term that can react, and what it is held by, can react too.
use Rattle.std.proofs.Common.{◌≡◌, ℕ, ℤ, Bool, true, false, not, nat_lt, List, [], ◌∷◌, ◌++◌, length, Option, Some, None, slice_set, refl, ap, ◌∙◌, arith}
use Rattle.quartz_expr.specs.Values.{Values}
use Rattle.quartz_expr.specs.Vars.{Vars}
use Rattle.quartz_expr.specs.Terms.{Store, Term, seq, scope, Terms, none, part, is_instant}
use Rattle.quartz_expr.specs.Intervals.{is_in, range_of}
use Rattle.quartz_expr.specs.Resolve.{given_store}
use Rattle.quartz_expr.specs.Tick.{tick}
use Rattle.quartz_expr.specs.React.{Met, AllResolved, Reaction, Reactions, sequence, unless_ended, held_scope, meetings, React, ReactEach, of_nothing, of_pause, of_write, of_yes, of_no, of_none, of_turn, of_stop, of_par, of_loop, of_delayed_abort, of_delayed_suspend, of_spared_abort, of_spared_suspend, of_strong_abort, of_weak_abort, of_strong_suspend, of_weak_suspend, of_scope, of_nobody, of_beside}
use Rattle.sos_model.specs.Sound.{is_sound, are_sound, is_typed, fits_store}
use Rattle.sos_model.proofs.RangeLemmas.{AllIn, new_fits, store_length}
use Rattle.sos_model.proofs.ReactLemmas.{acts_lie, scope_wants, wanted_by, wanted_length}
use Rattle.sos_model.proofs.SoundLemmas.{tick_stays}
use Rattle.quartz_expr.proofs.TruthLemmas.{and_parts, and_intro}

resolved_left : (a b : List Met) → AllResolved (a ++ b) → AllResolved a
resolved_left [] b h = tt
resolved_left (m ∷ a) b h = (h.0, resolved_left a b h.1)

resolved_right : (a b : List Met) → AllResolved (a ++ b) → AllResolved b
resolved_right [] b h = h
resolved_right (m ∷ a) b h = resolved_right a b h.1

-- resolved values lie in the range
resolved_lie : (vs : Vars) (x : ℕ) (v w : List ℤ) → length v ≡ length w → AllIn (range_of vs x) w → AllResolved (meetings x v w) → AllIn (range_of vs x) v
resolved_lie vs x [] w e h k = tt
resolved_lie vs x (z ∷ v) [] e h k = absurd (omega (arith, e))
resolved_lie vs x (z ∷ v) (y ∷ w) e h k = (ap (is_in (range_of vs x)) k.0 ∙ h.0, resolved_lie vs x v w (omega (arith, e)) h.1 k.1)

-- the residual and the held term can react
abbrev pub StaySound : Vars → Reaction → Type 0
StaySound vs r = (is_sound vs r.residual ≡ true) × (is_sound vs r.held ≡ true)

abbrev AllStaySound : Vars → Reactions → Type 0
AllStaySound vs r = (are_sound vs r.residuals ≡ true) × (are_sound vs r.helds ≡ true)

unless_sound : (vs : Vars) (b : Bool) (t : Term) → is_sound vs t ≡ true → is_sound vs (unless_ended b t) ≡ true
unless_sound vs true t h = refl
unless_sound vs false t h = h

sequence_sound : (vs : Vars) (t : Term) (ts : Terms) → is_sound vs t ≡ true → are_sound vs ts ≡ true → is_sound vs (sequence t ts) ≡ true
sequence_sound vs t none h k = h
sequence_sound vs t (part u us) h k = and_intro _ _ h k

held_sound : (vs : Vars) (x : ℕ) (s : Option Store) (t : Term) (new : Store) (u : Term) → is_sound vs (scope x s t) ≡ true → fits_store vs x (Some new) ≡ true → is_sound vs u ≡ true
    → is_sound vs (held_scope x s t new u) ≡ true
held_sound vs x None t new u h f k = h
held_sound vs x (Some s) t new u h f k = and_intro _ _ (and_parts (nat_lt x (length vs)) _ h).0 (and_intro _ _ f k)

mutual
  pub stay_sound : (vs : Vars) (env : Values) (t : Term) (r : Reaction) → React vs env t r → is_sound vs t ≡ true → AllResolved r.met → StaySound vs r
  stay_sound vs env _ _ (of_nothing _) h m = (refl, refl)
  stay_sound vs env _ _ (of_pause _) h m = (refl, refl)
  stay_sound vs env _ _ (of_write _ x i e d p q) h m = (refl, h)
  stay_sound vs env _ _ (of_yes _ c a b q e k) h m = ((stay_sound vs env a q k (and_parts (is_sound vs a) (is_sound vs b) (and_parts (is_typed vs c) _ h).1).0 m).0, h)
  stay_sound vs env _ _ (of_no _ c a b q e k) h m = ((stay_sound vs env b q k (and_parts (is_sound vs a) (is_sound vs b) (and_parts (is_typed vs c) _ h).1).1 m).0, h)
  stay_sound vs env _ _ (of_none _) h m = (refl, refl)
  stay_sound vs env _ _ (of_turn _ t ts q p k e j) h m =
      let f = and_parts (is_sound vs t) (are_sound vs ts) h in
      ((stay_sound vs env (seq ts) p j f.1 (resolved_right q.met p.met m)).0, and_intro _ _ (stay_sound vs env t q k f.0 (resolved_left q.met p.met m)).1 f.1)
  stay_sound vs env _ _ (of_stop _ t ts q k e) h m =
      let f = and_parts (is_sound vs t) (are_sound vs ts) h in
      let s = stay_sound vs env t q k f.0 m in
      (sequence_sound vs q.residual ts s.0 f.1, and_intro _ _ s.1 f.1)
  stay_sound vs env _ _ (of_par _ ts p k) h m = let s = all_stay_sound vs env ts p k h m in (unless_sound vs p.ended _ s.0, s.1)
  stay_sound vs env _ _ (of_loop _ t c q k) h m =
      let f = and_parts (not (is_instant t)) _ h in
      let g = and_parts (is_typed vs c) (is_sound vs t) f.1 in
      ((stay_sound vs env _ q k (and_intro _ _ g.1 (and_intro _ _ (and_intro _ _ g.0 (and_intro _ _ h refl)) refl)) m).0, h)
  stay_sound vs env _ _ (of_delayed_abort _ w t c q k) h m =
      let f = and_parts (is_typed vs c) (is_sound vs t) h in
      (unless_sound vs q.ended _ (and_intro _ _ f.0 (stay_sound vs env t q k f.1 m).0), h)
  stay_sound vs env _ _ (of_delayed_suspend _ w t c q k) h m =
      let f = and_parts (is_typed vs c) (is_sound vs t) h in
      (unless_sound vs q.ended _ (and_intro _ _ f.0 (stay_sound vs env t q k f.1 m).0), h)
  stay_sound vs env _ _ (of_spared_abort _ w t c q e k) h m =
      let f = and_parts (is_typed vs c) (is_sound vs t) h in
      let s = stay_sound vs env t q k f.1 m in
      (unless_sound vs q.ended _ (and_intro _ _ f.0 s.0), and_intro _ _ f.0 s.1)
  stay_sound vs env _ _ (of_spared_suspend _ w t c q e k) h m =
      let f = and_parts (is_typed vs c) (is_sound vs t) h in
      let s = stay_sound vs env t q k f.1 m in
      (unless_sound vs q.ended _ (and_intro _ _ f.0 s.0), and_intro _ _ f.0 s.1)
  stay_sound vs env _ _ (of_strong_abort _ t c e) h m = let f = and_parts (is_typed vs c) (is_sound vs t) h in (refl, and_intro _ _ f.0 (tick_stays vs t f.1))
  stay_sound vs env _ _ (of_weak_abort _ t c q e k) h m = let f = and_parts (is_typed vs c) (is_sound vs t) h in (refl, and_intro _ _ f.0 (stay_sound vs env t q k f.1 m).1)
  stay_sound vs env _ _ (of_strong_suspend _ t c e) h m =
      let f = and_parts (is_typed vs c) (is_sound vs t) h in
      let s = and_intro (is_typed vs c) (is_sound vs (tick vs t)) f.0 (tick_stays vs t f.1) in
      (s, s)
  stay_sound vs env _ _ (of_weak_suspend _ t c q e k) h m =
      let f = and_parts (is_typed vs c) (is_sound vs t) h in
      let s = and_intro (is_typed vs c) (is_sound vs q.held) f.0 (stay_sound vs env t q k f.1 m).1 in
      (s, s)
  stay_sound vs env _ _ (of_scope _ x s t v q l k) h m =
      let f = and_parts (nat_lt x (length vs)) _ h in
      let g = and_parts (fits_store vs x s) (is_sound vs t) f.1 in
      let acts = acts_lie vs (slice_set env x v) t q k in
      let w = wanted_by vs x s q.acts in
      let r = stay_sound vs (slice_set env x v) t q k g.1 (resolved_right (meetings x v w) q.met m) in
      let lie = resolved_lie vs x v w (wanted_length vs x s q.acts v l) (scope_wants vs x s q.acts g.0 acts) (resolved_left (meetings x v w) q.met m) in
      let new = new_fits vs x q.acts v (l ∙ store_length vs x s g.0) lie acts in
      (unless_sound vs q.ended _ (and_intro _ _ f.0 (and_intro _ _ new r.0)), held_sound vs x s t (given_store x q.acts 0 v) q.held h new r.1)

  all_stay_sound : (vs : Vars) (env : Values) (ts : Terms) (p : Reactions) → ReactEach vs env ts p → are_sound vs ts ≡ true → AllResolved p.met → AllStaySound vs p
  all_stay_sound vs env _ _ (of_nobody _) h m = (refl, refl)
  all_stay_sound vs env _ _ (of_beside _ t ts q p k j) h m =
      let f = and_parts (is_sound vs t) (are_sound vs ts) h in
      let s = stay_sound vs env t q k f.0 (resolved_left q.met p.met m) in
      let r = all_stay_sound vs env ts p j f.1 (resolved_right q.met p.met m) in
      (and_intro _ _ s.0 r.0, and_intro _ _ s.1 r.1)
