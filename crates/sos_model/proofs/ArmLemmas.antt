-- What a form finds, by what its parts find.
use Rattle.std.proofs.Common.{◌≡◌, ◌<◌, ◌≤◌, ◌+◌, ℕ, ℤ, Bool, true, false, not, nat_le, nat_lt, List, length, take, drop, Option, Some, None, option_map, slice_set, if◌then◌else◌, refl, sym, ap, ◌∙◌, subst, arith, length-drop}
use Rattle.std.proofs.lemmas.Bool.Decides.{nat_tests}
use Rattle.std.proofs.lemmas.List.{length-map, length-take-le}
use Rattle.quartz_tree.specs.declared.place.Place.{Place}
use Rattle.quartz_tree.specs.Tree.{Tree}
use Rattle.quartz_expr.specs.Values.{Values, is_zero}
use Rattle.quartz_expr.specs.Vars.{Vars}
use Rattle.quartz_expr.specs.Value.{value}
use Rattle.quartz_expr.specs.Faults.{faults}
use Rattle.quartz_expr.specs.Typed.{Fits, IsTyped}
use Rattle.quartz_expr.specs.Terms.{Store, Term, write, choose, loop, scope, guard_of, is_instant}
use Rattle.quartz_expr.specs.Tick.{tick}
use Rattle.quartz_expr.specs.React.{Reaction}
use Rattle.sos_model.specs.declared.found.Found.{Found}
use Rattle.sos_model.specs.Found.{Finds, reaction_of}
use Rattle.sos_model.specs.Sound.{IsTypedIndex, fits_store, is_sound, is_typed, is_typed_index}
use Rattle.sos_model.specs.Walk.{Walk, chosen, entered, found, guard_on, guarded, looped, on_reaction, read_as, stops_body, strong_guard, taken_by, walk}
use Rattle.sos_model.proofs.EnvLemmas.{fits_set}
use Rattle.sos_model.proofs.RangeLemmas.{read_lie, store_length}
use Rattle.sos_model.proofs.TypedLemmas.{typed_by_test}
use Rattle.sos_model.proofs.WalkLemmas.{drop_twice, finds_as, finds_now, lacks_as}
use Rattle.quartz_expr.proofs.TruthLemmas.{and_parts}

of_term : (vs : Vars) (env : Values) (t u : Term) (xs : List ℤ) (f : Found) → t ≡ u → Finds vs env u xs f → Finds vs env t xs f
of_term vs env t u xs f e h = subst (λ (w : Term). Finds vs env w xs f) (sym e) h

lacks_term : (vs : Vars) (env : Values) (t u : Term) (xs : List ℤ) → t ≡ u → walk vs env u xs ≡ None → walk vs env t xs ≡ None
lacks_term vs env t u xs e h = ap (λ (w : Term). walk vs env w xs) e ∙ h

pub finds_at : (vs : Vars) (env : Values) (t u : Term) (xs : List ℤ) (f : Found) (q : Reaction) → t ≡ u → walk vs env u xs ≡ found xs q → reaction_of u f ≡ q → f.used ≡ 0 → Finds vs env t xs f
finds_at vs env t u xs f q e w r n = of_term vs env t u xs f e (finds_now vs env u xs f q w r n)

-- ---- writes

pub sound_write : (vs : Vars) (t : Term) (x : ℕ) (i : Option (Tree ℕ)) (e : Tree ℕ) (d : Bool) (p q : Place) → t ≡ write x i e d p q → is_sound vs t ≡ true → (IsTypedIndex vs i) × IsTyped vs e
sound_write vs t x i e d p q s h =
    let b = and_parts (is_typed_index vs i) (is_typed vs e) (and_parts (nat_lt x (length vs)) _ (ap (is_sound vs) (sym s) ∙ h)).1 in
    (index i b.0, typed_by_test vs e b.1)
  where
    index : (i : Option (Tree ℕ)) → is_typed_index vs i ≡ true → IsTypedIndex vs i
    index None k = tt
    index (Some i) k = typed_by_test vs i k

-- ---- choices

pub sound_choice : (vs : Vars) (t : Term) (c : Tree ℕ) (a b : Term) → t ≡ choose c a b → is_sound vs t ≡ true → IsTyped vs c × (is_sound vs a ≡ true) × (is_sound vs b ≡ true)
sound_choice vs t c a b e h =
    let f = and_parts (is_typed vs c) _ (ap (is_sound vs) (sym e) ∙ h) in
    let g = and_parts (is_sound vs a) (is_sound vs b) f.1 in
    (typed_by_test vs c f.0, g.0, g.1)

choice_walk : (vs : Vars) (env : Values) (c : Tree ℕ) (a b : Term) (xs : List ℤ) (z : Bool) → is_zero (value vs env c) ≡ z
    → walk vs env (choose c a b) xs ≡ option_map (on_reaction (chosen (faults vs env c) (choose c a b))) (if z then walk vs env b xs else walk vs env a xs)
choice_walk vs env c a b xs z e = ap (λ (y : Bool). option_map (on_reaction (chosen (faults vs env c) (choose c a b))) (if y then walk vs env b xs else walk vs env a xs)) e

pub finds_no : (vs : Vars) (env : Values) (t : Term) (c : Tree ℕ) (a b : Term) (xs : List ℤ) (f g : Found) → t ≡ choose c a b → is_zero (value vs env c) ≡ true → Finds vs env b xs f
    → reaction_of (choose c a b) g ≡ chosen (faults vs env c) (choose c a b) (reaction_of b f) → g.used ≡ f.used → Finds vs env t xs g
finds_no vs env t c a b xs f g e z h r n =
    of_term vs env t (choose c a b) xs g e (finds_as vs env (choose c a b) b xs (chosen (faults vs env c) (choose c a b)) f g h (choice_walk vs env c a b xs true z) r n)

pub finds_yes : (vs : Vars) (env : Values) (t : Term) (c : Tree ℕ) (a b : Term) (xs : List ℤ) (f g : Found) → t ≡ choose c a b → is_zero (value vs env c) ≡ false → Finds vs env a xs f
    → reaction_of (choose c a b) g ≡ chosen (faults vs env c) (choose c a b) (reaction_of a f) → g.used ≡ f.used → Finds vs env t xs g
finds_yes vs env t c a b xs f g e z h r n =
    of_term vs env t (choose c a b) xs g e (finds_as vs env (choose c a b) a xs (chosen (faults vs env c) (choose c a b)) f g h (choice_walk vs env c a b xs false z) r n)

pub lacks_no : (vs : Vars) (env : Values) (t : Term) (c : Tree ℕ) (a b : Term) (xs : List ℤ) → t ≡ choose c a b → is_zero (value vs env c) ≡ true → walk vs env b xs ≡ None → walk vs env t xs ≡ None
lacks_no vs env t c a b xs e z h = lacks_term vs env t (choose c a b) xs e (lacks_as vs env (choose c a b) b xs (chosen (faults vs env c) (choose c a b)) (choice_walk vs env c a b xs true z) h)

pub lacks_yes : (vs : Vars) (env : Values) (t : Term) (c : Tree ℕ) (a b : Term) (xs : List ℤ) → t ≡ choose c a b → is_zero (value vs env c) ≡ false → walk vs env a xs ≡ None → walk vs env t xs ≡ None
lacks_yes vs env t c a b xs e z h = lacks_term vs env t (choose c a b) xs e (lacks_as vs env (choose c a b) a xs (chosen (faults vs env c) (choose c a b)) (choice_walk vs env c a b xs false z) h)

-- ---- loops

pub sound_loop : (vs : Vars) (t u : Term) (c : Tree ℕ) → t ≡ loop u c → is_sound vs t ≡ true → is_sound vs u ≡ true
sound_loop vs t u c e h = (and_parts (is_typed vs c) (is_sound vs u) (and_parts (not (is_instant u)) _ (ap (is_sound vs) (sym e) ∙ h)).1).1

pub finds_loop : (vs : Vars) (env : Values) (t u : Term) (c : Tree ℕ) (xs : List ℤ) (f g : Found) → t ≡ loop u c → Finds vs env u xs f → reaction_of (loop u c) g ≡ looped u c (reaction_of u f) → g.used ≡ f.used → Finds vs env t xs g
finds_loop vs env t u c xs f g e h r n = of_term vs env t (loop u c) xs g e (finds_as vs env (loop u c) u xs (looped u c) f g h refl r n)

pub lacks_loop : (vs : Vars) (env : Values) (t u : Term) (c : Tree ℕ) (xs : List ℤ) → t ≡ loop u c → walk vs env u xs ≡ None → walk vs env t xs ≡ None
lacks_loop vs env t u c xs e h = lacks_term vs env t (loop u c) xs e (lacks_as vs env (loop u c) u xs (looped u c) refl h)

-- ---- guards

guard_sound : (vs : Vars) (a w i : Bool) (u : Term) (c : Tree ℕ) → is_sound vs (guard_of a w i u c) ≡ true → IsTyped vs c × (is_sound vs u ≡ true)
guard_sound vs true w i u c h = let b = and_parts (is_typed vs c) (is_sound vs u) h in (typed_by_test vs c b.0, b.1)
guard_sound vs false w i u c h = let b = and_parts (is_typed vs c) (is_sound vs u) h in (typed_by_test vs c b.0, b.1)

pub sound_guard : (vs : Vars) (t : Term) (a w i : Bool) (u : Term) (c : Tree ℕ) → t ≡ guard_of a w i u c → is_sound vs t ≡ true → IsTyped vs c × (is_sound vs u ≡ true)
sound_guard vs t a w i u c e h = guard_sound vs a w i u c (ap (is_sound vs) (sym e) ∙ h)

guard_walk : (vs : Vars) (env : Values) (a w i : Bool) (u : Term) (c : Tree ℕ) (xs : List ℤ) → walk vs env (guard_of a w i u c) xs ≡ guard_on vs env a w i u c xs (walk vs env u xs)
guard_walk vs env true w i u c xs = refl
guard_walk vs env false w i u c xs = refl

stopped_by : (vs : Vars) (env : Values) (a w i : Bool) (u : Term) (c : Tree ℕ) (xs : List ℤ) (b : Bool) → stops_body w i (is_zero (value vs env c)) ≡ b
    → walk vs env (guard_of a w i u c) xs ≡ (if b then found xs (strong_guard a (tick vs u) c (faults vs env c)) else option_map (on_reaction (guarded vs env a w i u c)) (walk vs env u xs))
stopped_by vs env a w i u c xs b e =
    guard_walk vs env a w i u c xs
    ∙ ap (λ (y : Bool). if y then found xs (strong_guard a (tick vs u) c (faults vs env c)) else option_map (on_reaction (guarded vs env a w i u c)) (walk vs env u xs)) e

pub finds_stopping : (vs : Vars) (env : Values) (t : Term) (a w i : Bool) (u : Term) (c : Tree ℕ) (xs : List ℤ) (g : Found) → t ≡ guard_of a w i u c → stops_body w i (is_zero (value vs env c)) ≡ true
    → reaction_of (guard_of a w i u c) g ≡ strong_guard a (tick vs u) c (faults vs env c) → g.used ≡ 0 → Finds vs env t xs g
finds_stopping vs env t a w i u c xs g e s r n = finds_at vs env t (guard_of a w i u c) xs g (strong_guard a (tick vs u) c (faults vs env c)) e (stopped_by vs env a w i u c xs true s) r n

pub finds_guarded : (vs : Vars) (env : Values) (t : Term) (a w i : Bool) (u : Term) (c : Tree ℕ) (xs : List ℤ) (f g : Found) → t ≡ guard_of a w i u c → stops_body w i (is_zero (value vs env c)) ≡ false
    → Finds vs env u xs f → reaction_of (guard_of a w i u c) g ≡ guarded vs env a w i u c (reaction_of u f) → g.used ≡ f.used → Finds vs env t xs g
finds_guarded vs env t a w i u c xs f g e s h r n =
    of_term vs env t (guard_of a w i u c) xs g e (finds_as vs env (guard_of a w i u c) u xs (guarded vs env a w i u c) f g h (stopped_by vs env a w i u c xs false s) r n)

pub lacks_guarded : (vs : Vars) (env : Values) (t : Term) (a w i : Bool) (u : Term) (c : Tree ℕ) (xs : List ℤ) → t ≡ guard_of a w i u c → stops_body w i (is_zero (value vs env c)) ≡ false
    → walk vs env u xs ≡ None → walk vs env t xs ≡ None
lacks_guarded vs env t a w i u c xs e s h =
    lacks_term vs env t (guard_of a w i u c) xs e (lacks_as vs env (guard_of a w i u c) u xs (guarded vs env a w i u c) (stopped_by vs env a w i u c xs false s) h)

-- ---- scopes

pub sound_scope : (vs : Vars) (t : Term) (x : ℕ) (s : Option Store) (u : Term) → t ≡ scope x s u → is_sound vs t ≡ true → (x < length vs) × (fits_store vs x s ≡ true) × (is_sound vs u ≡ true)
sound_scope vs t x s u e h =
    let b = and_parts (nat_lt x (length vs)) _ (ap (is_sound vs) (sym e) ∙ h) in
    let within : nat_lt x (length vs) ≡ true = b.0 in
    let g = and_parts (fits_store vs x s) (is_sound vs u) b.1 in
    (grind (arith, nat_tests, within), g.0, g.1)

scope_walk : (vs : Vars) (env : Values) (x : ℕ) (s : Option Store) (u : Term) (xs : List ℤ) (b : Bool) → nat_le (taken_by vs x s) (length xs) ≡ b
    → walk vs env (scope x s u) xs
    ≡ (if b then option_map (on_reaction (entered vs x s u (take (taken_by vs x s) xs))) (walk vs (slice_set env x (read_as vs x (take (taken_by vs x s) xs))) u (drop (taken_by vs x s) xs)) else None)
scope_walk vs env x s u xs b e =
    ap (λ (y : Bool). if y then option_map (on_reaction (entered vs x s u (take (taken_by vs x s) xs))) (walk vs (slice_set env x (read_as vs x (take (taken_by vs x s) xs))) u (drop (taken_by vs x s) xs)) else None) e

-- the values that a scope takes are a front of the list
enough : (vs : Vars) (x : ℕ) (s : Option Store) (xs : List ℤ) (n : ℕ) → n ≡ taken_by vs x s → n ≤ length xs → nat_le (taken_by vs x s) (length xs) ≡ true
enough vs x s xs n e h = let k : n ≡ taken_by vs x s = e in grind (arith, nat_tests, k, h)

pub finds_scope : (vs : Vars) (env : Values) (t : Term) (x : ℕ) (s : Option Store) (u : Term) (xs : List ℤ) (n : ℕ) (f g : Found) → t ≡ scope x s u → n ≡ taken_by vs x s → n ≤ length xs
    → Finds vs (slice_set env x (read_as vs x (take n xs))) u (drop n xs) f → reaction_of (scope x s u) g ≡ entered vs x s u (take n xs) (reaction_of u f) → g.used ≡ n + f.used → Finds vs env t xs g
finds_scope vs env t x s u xs n f g e k l h r m =
    let make = λ (i : ℕ). option_map (on_reaction (entered vs x s u (take i xs))) (walk vs (slice_set env x (read_as vs x (take i xs))) u (drop i xs)) in
    of_term vs env t (scope x s u) xs g e (record {
      walked = scope_walk vs env x s u xs true (enough vs x s xs n k l)
          ∙ ap make (sym k)
          ∙ ap (λ (o : Option Walk). option_map (on_reaction (entered vs x s u (take n xs))) o) h.walked
          ∙ ap (λ (q : Reaction). found (drop f.used (drop n xs)) q) (sym r)
          ∙ ap (λ (ys : List ℤ). found ys (reaction_of (scope x s u) g)) (drop_twice n f.used xs ∙ ap (λ (i : ℕ). drop i xs) (sym m));
      used = let used = h.used in let long = length-drop n xs in omega (arith, m, used, long, l);
    })

pub lacks_scope : (vs : Vars) (env : Values) (t : Term) (x : ℕ) (s : Option Store) (u : Term) (xs : List ℤ) (n : ℕ) → t ≡ scope x s u → n ≡ taken_by vs x s → n ≤ length xs
    → walk vs (slice_set env x (read_as vs x (take n xs))) u (drop n xs) ≡ None → walk vs env t xs ≡ None
lacks_scope vs env t x s u xs n e k l h =
    let make = λ (i : ℕ). option_map (on_reaction (entered vs x s u (take i xs))) (walk vs (slice_set env x (read_as vs x (take i xs))) u (drop i xs)) in
    lacks_term vs env t (scope x s u) xs e (scope_walk vs env x s u xs true (enough vs x s xs n k l) ∙ ap make (sym k) ∙ ap (λ (o : Option Walk). option_map (on_reaction (entered vs x s u (take n xs))) o) h)

pub lacks_values : (vs : Vars) (env : Values) (t : Term) (x : ℕ) (s : Option Store) (u : Term) (xs : List ℤ) → t ≡ scope x s u → nat_le (taken_by vs x s) (length xs) ≡ false → walk vs env t xs ≡ None
lacks_values vs env t x s u xs e h = lacks_term vs env t (scope x s u) xs e (scope_walk vs env x s u xs false h)

-- what a scope's body reacts under fits
read_length : (vs : Vars) (x : ℕ) (zs : List ℤ) → length (read_as vs x zs) ≡ length zs
read_length vs x zs = simp length-map

pub fits_scope : (vs : Vars) (env : Values) (x : ℕ) (s : Option Store) (xs : List ℤ) (n : ℕ) → Fits vs env → x < length env → fits_store vs x s ≡ true → n ≡ taken_by vs x s → n ≤ length xs
    → Fits vs (slice_set env x (read_as vs x (take n xs)))
fits_scope vs env x s xs n f h b k l =
    fits_set vs env x (read_as vs x (take n xs)) f h (read_length vs x (take n xs) ∙ length-take-le n xs l ∙ k ∙ store_length vs x s b) (read_lie vs x (take n xs))
