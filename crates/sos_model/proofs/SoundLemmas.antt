-- What advances stays able to react.
use Rattle.std.proofs.Common.{◌≡◌, true, false, not, ◌&&◌, ◌||◌, nat_lt, length, refl, ap, ap₂, ◌∙◌}
use Rattle.quartz_expr.specs.Vars.{Vars}
use Rattle.quartz_expr.specs.Terms.{Term, nothing, pause, write, choose, seq, par, loop, abort, suspend, scope, Terms, none, part, is_instant, are_instant}
use Rattle.quartz_expr.specs.Tick.{tick, tick_all}
use Rattle.sos_model.specs.Sound.{is_sound, are_sound, is_typed, fits_store}
use Rattle.sos_model.proofs.RangeLemmas.{advanced_fits}
use Rattle.quartz_expr.proofs.TruthLemmas.{and_parts, and_intro}

mutual
  instant_ticked : (vs : Vars) (t : Term) → is_instant (tick vs t) ≡ is_instant t
  instant_ticked vs nothing = refl
  instant_ticked vs pause = refl
  instant_ticked vs (write x i e d p q) = refl
  instant_ticked vs (choose c a b) = ap₂ (λ x y. x || y) (instant_ticked vs a) (instant_ticked vs b)
  instant_ticked vs (seq ts) = instant_ticked_all vs ts
  instant_ticked vs (par ts) = instant_ticked_all vs ts
  instant_ticked vs (loop t c) = instant_ticked vs t
  instant_ticked vs (abort w true t c) = refl
  instant_ticked vs (abort w false t c) = instant_ticked vs t
  instant_ticked vs (suspend w i t c) = instant_ticked vs t
  instant_ticked vs (scope x s t) = instant_ticked vs t

  instant_ticked_all : (vs : Vars) (ts : Terms) → are_instant (tick_all vs ts) ≡ are_instant ts
  instant_ticked_all vs none = refl
  instant_ticked_all vs (part t ts) = ap₂ (λ x y. x && y) (instant_ticked vs t) (instant_ticked_all vs ts)

mutual
  sound_ticked : (vs : Vars) (t : Term) → is_sound vs t ≡ true → is_sound vs (tick vs t) ≡ true
  sound_ticked vs nothing h = refl
  sound_ticked vs pause h = refl
  sound_ticked vs (write x i e d p q) h = h
  sound_ticked vs (choose c a b) h =
      let f = and_parts (is_typed vs c) _ h in
      let g = and_parts (is_sound vs a) (is_sound vs b) f.1 in
      and_intro _ _ f.0 (and_intro _ _ (sound_ticked vs a g.0) (sound_ticked vs b g.1))
  sound_ticked vs (seq ts) h = sound_ticked_all vs ts h
  sound_ticked vs (par ts) h = sound_ticked_all vs ts h
  sound_ticked vs (loop t c) h =
      let f = and_parts (not (is_instant t)) _ h in
      let g = and_parts (is_typed vs c) (is_sound vs t) f.1 in
      and_intro _ _ (ap not (instant_ticked vs t) ∙ f.0) (and_intro _ _ g.0 (sound_ticked vs t g.1))
  sound_ticked vs (abort w i t c) h = let f = and_parts (is_typed vs c) (is_sound vs t) h in and_intro _ _ f.0 (sound_ticked vs t f.1)
  sound_ticked vs (suspend w i t c) h = let f = and_parts (is_typed vs c) (is_sound vs t) h in and_intro _ _ f.0 (sound_ticked vs t f.1)
  sound_ticked vs (scope x s t) h =
      let f = and_parts (nat_lt x (length vs)) _ h in
      let g = and_parts (fits_store vs x s) (is_sound vs t) f.1 in
      and_intro _ _ f.0 (and_intro _ _ (advanced_fits vs x s g.0) (sound_ticked vs t g.1))

  sound_ticked_all : (vs : Vars) (ts : Terms) → are_sound vs ts ≡ true → are_sound vs (tick_all vs ts) ≡ true
  sound_ticked_all vs none h = refl
  sound_ticked_all vs (part t ts) h = let f = and_parts (is_sound vs t) (are_sound vs ts) h in and_intro _ _ (sound_ticked vs t f.0) (sound_ticked_all vs ts f.1)

pub tick_stays : (vs : Vars) (t : Term) → is_sound vs t ≡ true → is_sound vs (tick vs t) ≡ true
tick_stays vs t h = sound_ticked vs t h

pub stays_sound : (vs : Vars) (t u : Term) → u ≡ tick vs t → is_sound vs t ≡ true → is_sound vs u ≡ true
stays_sound vs t u e h = ap (is_sound vs) e ∙ sound_ticked vs t h
