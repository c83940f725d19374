-- The body of a typed module can react.
use Rattle.std.proofs.Common.{◌≡◌, ℕ, ◌<◌, ◌^◌, ℤ, Bool, true, false, List, [], ◌∷◌, length, Option, Some, None, refl, ap, ◌∙◌, arith}
use Rattle.std.specs.Prelude.{not, ◌&&◌, nat_lt}
use Rattle.std.proofs.lemmas.Int.{ints}
use Rattle.std.proofs.lemmas.Bool.Decides.{nat_tests}
use Rattle.quartz_tree.specs.declared.place.Place.{Place}
use Rattle.quartz_tree.specs.Kernel.{kernel as kernel_of}
use Rattle.quartz_tree.specs.Tree.{Tree}
use Rattle.quartz_expr.specs.Vars.{Vars}
use Rattle.quartz_expr.specs.Intervals.{Interval, Lies, is_in}
use Rattle.quartz_expr.specs.Typed.{IsTyped}
use Rattle.quartz_expr.specs.Terms.{Store, Term, nothing, pause, write, choose, seq, par, loop, abort, suspend, scope, Terms, none, part, is_instant, term_of}
use Rattle.statement_cells.specs.Sound as cells
use Rattle.sos_model.specs.Sound.{are_sound, fits_store, is_sound, is_typed, is_typed_index, no_places}
use Rattle.sos_terms.specs.Laws.{TypedBodiesReact}
use Rattle.typed_terms.proofs.TypedLemmas.{typed_is_sound}
use Rattle.quartz_expr.proofs.TruthLemmas.{and_intro}
use Rattle.quartz_expr.proofs.RangeLemmas.{lies_in}

no_places_left : (ps : List Place) → ps ≡ [] → no_places ps ≡ true
no_places_left [] e = refl
no_places_left (p ∷ ps) e = absurd (cc)

negated : (b : Bool) → b ≡ false → not b ≡ true
negated false e = refl
negated true e = absurd (cc)

module _ (vs : Vars) where
  typed_test : (e : Tree ℕ) → IsTyped vs e → is_typed vs e ≡ true
  typed_test e h = and_intro _ _ h.over (and_intro _ _ h.written (and_intro _ _ (no_places_left _ h.kinds) (no_places_left _ h.bounds)))

  index_test : (x : ℕ) (i : Option (Tree ℕ)) → cells.IsTypedIndex vs x i → is_typed_index vs i ≡ true
  index_test x None h = refl
  index_test x (Some i) h = typed_test i h

  named : (x : ℕ) → x < length vs → nat_lt x (length vs) ≡ true
  named x h = grind (arith, nat_tests, h)

  mutual
    can_react : (t : Term) → cells.IsSound vs t → is_sound vs t ≡ true
    can_react nothing h = refl
    can_react pause h = refl
    can_react (write x i e d p q) h = and_intro _ _ (named x h.0) (and_intro _ _ (index_test x i h.1) (typed_test e h.2))
    can_react (choose c a b) h = and_intro _ _ (typed_test c h.0) (and_intro _ _ (can_react a h.1) (can_react b h.2))
    can_react (seq ts) h = all_react ts h
    can_react (par ts) h = all_react ts h
    can_react (loop t c) h = and_intro _ _ (negated (is_instant t) h.0) (and_intro _ _ (typed_test c h.1) (can_react t h.2))
    can_react (abort w i t c) h = and_intro _ _ (typed_test c h.0) (can_react t h.1)
    can_react (suspend w i t c) h = and_intro _ _ (typed_test c h.0) (can_react t h.1)
    can_react (scope x None t) h = and_intro _ _ (named x h.0) (and_intro _ _ (lies_in _ _ h.2) (can_react t h.3))
    can_react (scope x (Some s) t) h = absurd h.1

    all_react : (ts : Terms) → cells.AreSound vs ts → are_sound vs ts ≡ true
    all_react none h = refl
    all_react (part t ts) h = and_intro _ _ (can_react t h.0) (all_react ts h.1)

pub typed_can_react : TypedBodiesReact
typed_can_react t =
    let h = typed_is_sound t in
    (h.types, can_react t.resolved.vars (term_of (kernel_of t.resolved.body)) h.sound)
