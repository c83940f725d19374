-- What a walk answers is what the relation says.
use Rattle.std.proofs.Common.{◌≡◌, ◌<◌, ◌^◌, ℤ, Bool, true, false, nat_lt, List, [], ◌∷◌, ◌++◌, length, drop, map, Some, None, option_map, if◌then◌else◌, refl, sym, ap, ◌∙◌, subst, arith}
use Rattle.std.proofs.lemmas.Bool.Decides.{nat_tests}
use Rattle.quartz_expr.specs.Values.{Values, same_value}
use Rattle.quartz_expr.specs.Vars.{Vars}
use Rattle.quartz_expr.specs.Typed.{AreSound, have_sound_types}
use Rattle.quartz_expr.specs.Terms.{Term}
use Rattle.quartz_expr.specs.React.{Met, AllResolved, React, Reacts, givens}
use Rattle.quartz_expr.specs.React as relation
use Rattle.quartz_expr.proofs.LawLemmas.{same_refl}
use Rattle.sos_model.specs.declared.found.Found.{Found}
use Rattle.sos_model.specs.declared.react.Reaction.{Reaction}
use Rattle.sos_model.specs.FormTerms.{term}
use Rattle.sos_model.specs.Found.{Finds, held_or, met_of, reaction_of}
use Rattle.sos_model.specs.Answers.{IsReaction, IsUnresolved, first_unresolved, seen}
use Rattle.sos_model.specs.Sound.{are_sound_vars, is_sound}
use Rattle.sos_model.specs.Walk.{Walk, found, walk}
use Rattle.sos_model.proofs.ReactLemmas.{as_resolved, reaction_walks, resolved_as, walk_reacts}
use Rattle.sos_model.proofs.ResidualLemmas.{StaySound, stay_sound}
use Rattle.quartz_expr.proofs.TruthLemmas.{and_parts, and_intro}
use Rattle.quartz_expr.proofs.CoherentLemmas.{same_is}

-- ---- variables

pub vars_by_test : (vs : Vars) → are_sound_vars vs ≡ true → AreSound vs
vars_by_test vs h =
    let b = and_parts (nat_lt (length vs) (2 ^ 32)) (have_sound_types vs) h in
    let few : nat_lt (length vs) (2 ^ 32) ≡ true = b.0 in
    record { few = grind (arith, nat_tests, few); types = b.1 }

pub test_of_vars : (vs : Vars) → AreSound vs → are_sound_vars vs ≡ true
test_of_vars vs h = let few : length vs < 2 ^ 32 = h.few in and_intro _ _ (grind (arith, nat_tests, few)) h.types

-- ---- differences

resolved_then : (m : Met) (ms : List Met) (b : Bool) → same_value m.given m.wanted ≡ b → (first_unresolved ms ≡ None → AllResolved ms) → (if b then first_unresolved ms else Some m) ≡ None → AllResolved (m ∷ ms)
resolved_then m ms true e f k = (same_is m.given m.wanted e, f k)
resolved_then m ms false e f k = absurd (cc)

resolved_if_none : (ms : List Met) → first_unresolved ms ≡ None → AllResolved ms
resolved_if_none [] h = tt
resolved_if_none (m ∷ ms) h = resolved_then m ms (same_value m.given m.wanted) refl (resolved_if_none ms) h

none_if_resolved : (ms : List Met) → AllResolved ms → first_unresolved ms ≡ None
none_if_resolved [] h = refl
none_if_resolved (m ∷ ms) h =
    let e : same_value m.given m.wanted ≡ true = ap (λ (z : ℤ). same_value z m.wanted) h.0 ∙ same_refl m.wanted in
    ap (λ (b : Bool). if b then first_unresolved ms else Some m) e ∙ none_if_resolved ms h.1

-- ---- answers

reacts_of : (vs : Vars) (env : Values) (t : Term) (xs : List ℤ) (f : Found) → is_sound vs t ≡ true → Finds vs env t xs f → first_unresolved (map met_of f.met.items) ≡ None
    → React vs env t (reaction_of t f) × (givens (map met_of f.met.items) ++ drop f.used xs ≡ xs)
reacts_of vs env t xs f h k n =
    let w = walk_reacts vs env t (reaction_of t f) xs (drop f.used xs) h k.walked in
    (as_resolved vs env t (reaction_of t f) h (resolved_if_none (map met_of f.met.items) n) w.0, w.1)

stays_of : (vs : Vars) (env : Values) (t : Term) (xs : List ℤ) (f : Found) → is_sound vs t ≡ true → Finds vs env t xs f → first_unresolved (map met_of f.met.items) ≡ None → StaySound vs (reaction_of t f)
stays_of vs env t xs f h k n =
    stay_sound vs env t (reaction_of t f) (reacts_of vs env t xs f h k n).0 h (resolved_if_none (map met_of f.met.items) n)

pub residual_of : (vs : Vars) (env : Values) (t : Term) (xs : List ℤ) (f : Found) → is_sound vs t ≡ true → Finds vs env t xs f → first_unresolved (map met_of f.met.items) ≡ None → is_sound vs (term f.residual) ≡ true
residual_of vs env t xs f h k n = (stays_of vs env t xs f h k n).0

pub held_of : (vs : Vars) (env : Values) (t : Term) (xs : List ℤ) (f : Found) → is_sound vs t ≡ true → Finds vs env t xs f → first_unresolved (map met_of f.met.items) ≡ None → is_sound vs (held_or (option_map term f.held) t) ≡ true
held_of vs env t xs f h k n = (stays_of vs env t xs f h k n).1

-- the code's reaction has these fields
seen_is : (t : Term) (f : Found) (r : Reaction) → r.residual.form ≡ f.residual → term r.held.form ≡ held_or (option_map term f.held) t → r.writes ≡ f.acts → r.faults ≡ f.faults → r.ended ≡ f.ended → seen r (map met_of f.met.items) ≡ reaction_of t f
seen_is t f r a b c d e = λ i. record { residual = term (a i); held = b i; acts = (c i).items; faults = (d i).items; met = map met_of f.met.items; ended = e i }

pub is_reaction : (vs : Vars) (env : Values) (t : Term) (xs : List ℤ) (f : Found) (r : Reaction) → is_sound vs t ≡ true → Finds vs env t xs f → first_unresolved (map met_of f.met.items) ≡ None
    → r.residual.form ≡ f.residual → term r.held.form ≡ held_or (option_map term f.held) t → r.writes ≡ f.acts → r.faults ≡ f.faults → r.ended ≡ f.ended → IsReaction vs env t xs r
is_reaction vs env t xs f r h k n a b c d e =
    let w = reacts_of vs env t xs f h k n in
    record {
      met = map met_of f.met.items;
      rest = drop f.used xs;
      reacts = record { walked = subst (λ (q : relation.Reaction). React vs env t q) (sym (seen_is t f r a b c d e)) w.0; resolved = resolved_if_none (map met_of f.met.items) n };
      given = w.1;
    }

pub is_unresolved : (vs : Vars) (env : Values) (t : Term) (xs : List ℤ) (f : Found) (m : Met) (w g : ℤ) → Finds vs env t xs f → Some m ≡ first_unresolved (map met_of f.met.items) → w ≡ m.wanted → g ≡ m.given → IsUnresolved vs env t xs w g
is_unresolved vs env t xs f m w g k e a b = record { found = record { reaction = reaction_of t f; rest = drop f.used xs }; walked = k.walked; meets = m; first = sym e; wants = a; gives = b }

-- where there is a reaction the walk finds it
pub found_where_reacts : (vs : Vars) (env : Values) (t : Term) (r : relation.Reaction) (xs ys : List ℤ) → is_sound vs t ≡ true → Reacts vs env t r → givens r.met ++ ys ≡ xs → walk vs env t xs ≡ found ys r
found_where_reacts vs env t r xs ys h k e = reaction_walks vs env t r xs ys h (resolved_as vs env t r h k.resolved k.walked, e)

pub never_missing : (vs : Vars) (env : Values) (t : Term) (r : relation.Reaction) (xs ys : List ℤ) → is_sound vs t ≡ true → Reacts vs env t r → givens r.met ++ ys ≡ xs → walk vs env t xs ≡ None → ⊥
never_missing vs env t r xs ys h k e n = let f = found_where_reacts vs env t r xs ys h k e in absurd (cc)

some_same : (a b : Walk) → Some a ≡ Some b → a ≡ b
some_same a b e = cc

pub never_unresolved : (vs : Vars) (env : Values) (t : Term) (r : relation.Reaction) (xs ys : List ℤ) (f : Found) (m : Met) → is_sound vs t ≡ true → Reacts vs env t r → givens r.met ++ ys ≡ xs
    → Finds vs env t xs f → Some m ≡ first_unresolved (map met_of f.met.items) → ⊥
never_unresolved vs env t r xs ys f m h k e w s =
    let same = some_same _ (record { reaction = r; rest = ys }) (sym w.walked ∙ found_where_reacts vs env t r xs ys h k e) in
    let met : map met_of f.met.items ≡ r.met = ap (λ (u : Walk). u.reaction.met) same in
    let none : first_unresolved (map met_of f.met.items) ≡ None = ap first_unresolved met ∙ none_if_resolved r.met k.resolved in
    absurd (cc)

-- ---- a walk answers one thing

-- where the walk finds something the list isn't too short
pub never_short : (vs : Vars) (env : Values) (t : Term) (xs : List ℤ) (f : Found) → Finds vs env t xs f → walk vs env t xs ≡ None → ⊥
never_short vs env t xs f k n = let w = k.walked in absurd (cc)

-- where the list is too short nothing is met
pub short_meets_none : (vs : Vars) (env : Values) (t : Term) (xs : List ℤ) (w g : ℤ) → walk vs env t xs ≡ None → IsUnresolved vs env t xs w g → ⊥
short_meets_none vs env t xs w g n u = let k = u.walked in absurd (cc)

same_met : (vs : Vars) (env : Values) (t : Term) (xs : List ℤ) (f : Found) (w g : ℤ) → Finds vs env t xs f → (u : IsUnresolved vs env t xs w g) → first_unresolved (map met_of f.met.items) ≡ Some u.meets
same_met vs env t xs f w g k u =
    ap (λ (v : Walk). first_unresolved v.reaction.met) (some_same (record { reaction = reaction_of t f; rest = drop f.used xs }) u.found (sym k.walked ∙ u.walked)) ∙ u.first

-- where all is resolved nothing isn't
pub resolved_meets_none : (vs : Vars) (env : Values) (t : Term) (xs : List ℤ) (f : Found) (w g : ℤ) → Finds vs env t xs f → first_unresolved (map met_of f.met.items) ≡ None → IsUnresolved vs env t xs w g → ⊥
resolved_meets_none vs env t xs f w g k n u = let s = same_met vs env t xs f w g k u in absurd (cc)

met_same : (a b : Met) → Some a ≡ Some b → a ≡ b
met_same a b e = cc

-- the first difference is one
pub first_is : (vs : Vars) (env : Values) (t : Term) (xs : List ℤ) (f : Found) (m : Met) (w g : ℤ) → Finds vs env t xs f → Some m ≡ first_unresolved (map met_of f.met.items) → IsUnresolved vs env t xs w g
    → (m.wanted ≡ w) × (m.given ≡ g)
first_is vs env t xs f m w g k e u =
    let one : m ≡ u.meets = met_same m u.meets (e ∙ same_met vs env t xs f w g k u) in
    (ap (λ (n : Met). n.wanted) one ∙ sym u.wants, ap (λ (n : Met). n.given) one ∙ sym u.gives)
