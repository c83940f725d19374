-- Environments in which a scope's variable has other values.
use Rattle.std.proofs.Common.{◌≡◌, ◌≢◌, ◌<◌, ◌≤◌, ℕ, ℤ, Bool, true, false, nat_lt, nat_eq, List, [], ◌∷◌, length, get_or, Option, unwrap_or, slice_set, refl, sym, ap, ◌∙◌, subst, arith}
use Rattle.std.proofs.lemmas.Bool.Decides.{nat_tests}
use Rattle.std.proofs.lemmas.List.{get_or-set_same, get_or-set_other, length-set, set-set, set-get_or}
use Rattle.std.proofs.lemmas.Option.{slice_get_past, unwrap_or-slice_get}
use Rattle.quartz_expr.specs.Values.{Values, elements_in}
use Rattle.quartz_expr.specs.Vars.{Vars, count_of}
use Rattle.quartz_expr.specs.Intervals.{Interval, range_of}
use Rattle.quartz_expr.specs.Typed.{AllLie, AreSound, Fits}
use Rattle.sos_model.proofs.RangeLemmas.{AllIn}
use Rattle.quartz_expr.proofs.RangeLemmas.{in_lies, some_element}

-- ---- a variable that fits has a place in the environment

past_empty : (env : Values) (x : ℕ) → length env ≤ x → elements_in env x ≡ []
past_empty env x h = ap (λ (o : Option (List ℤ)). unwrap_or o []) (slice_get_past env x h)

pub has_place : (vs : Vars) (env : Values) (x : ℕ) → AreSound vs → Fits vs env → x < length vs → x < length env
has_place vs env x s f h = at (nat_lt x (length env)) refl
  where
    at : (b : Bool) → nat_lt x (length env) ≡ b → x < length env
    at true e = grind (arith, nat_tests, e)
    at false e =
        let past : length env ≤ x = grind (arith, nat_tests, e) in
        let none : length (elements_in env x) ≡ 0 = ap (λ (l : List ℤ). length l) (past_empty env x past) in
        let some : 1 ≤ count_of vs x = some_element vs x s.types in
        let counted : length (elements_in env x) ≡ count_of vs x = f.counts x h in
        absurd (omega (arith, none, some, counted))

-- ---- other values

elements_or : (env : Values) (x : ℕ) → elements_in env x ≡ get_or env x []
elements_or env x = unwrap_or-slice_get env x []

elements_same : (env : Values) (x : ℕ) (v : List ℤ) → x < length env → elements_in (slice_set env x v) x ≡ v
elements_same env x v h = elements_or (slice_set env x v) x ∙ get_or-set_same env x v [] h

elements_other : (env : Values) (x y : ℕ) (v : List ℤ) → y ≢ x → elements_in (slice_set env x v) y ≡ elements_in env y
elements_other env x y v n = elements_or (slice_set env x v) y ∙ get_or-set_other env x y v [] n ∙ sym (elements_or env y)

all_lie : (i : Interval) (zs : List ℤ) → AllIn i zs → AllLie i zs
all_lie i [] h = tt
all_lie i (z ∷ zs) h = (in_lies i z h.0, all_lie i zs h.1)

-- what holds of one and of all others
same_or_other : (P : ℕ → Type 0) (x y : ℕ) → P x → (y ≢ x → P y) → P y
same_or_other P x y p f = at (nat_eq y x) refl
  where
    at : (b : Bool) → nat_eq y x ≡ b → P y
    at true e = let same : x ≡ y = grind (arith, nat_tests, e) in subst P same p
    at false e = f (λ s. let no : y ≡ x = s in absurd (grind (arith, nat_tests, e, no)))

pub fits_set : (vs : Vars) (env : Values) (x : ℕ) (v : List ℤ) → Fits vs env → x < length env → length v ≡ count_of vs x → AllIn (range_of vs x) v → Fits vs (slice_set env x v)
fits_set vs env x v f h l r = record {
  counts = λ y k. same_or_other (λ z. length (elements_in (slice_set env x v) z) ≡ count_of vs z) x y
      (ap (λ (u : List ℤ). length u) (elements_same env x v h) ∙ l)
      (λ n. ap (λ (u : List ℤ). length u) (elements_other env x y v n) ∙ f.counts y k);
  ranges = λ y k. same_or_other (λ z. AllLie (range_of vs z) (elements_in (slice_set env x v) z)) x y
      (subst (λ (u : List ℤ). AllLie (range_of vs x) u) (sym (elements_same env x v h)) (all_lie (range_of vs x) v r))
      (λ n. subst (λ (u : List ℤ). AllLie (range_of vs y) u) (sym (elements_other env x y v n)) (f.ranges y k));
}

-- the values that a variable had, put back
pub set_back : (env : Values) (x : ℕ) (v u : List ℤ) → u ≡ elements_in env x → slice_set (slice_set env x v) x u ≡ env
set_back env x v u e = ap (slice_set (slice_set env x v) x) e ∙ set-set env x v (elements_in env x) ∙ ap (λ (l : List ℤ). slice_set env x l) (elements_or env x) ∙ set-get_or env x []

pub length_set : (env : Values) (x : ℕ) (v : List ℤ) → length (slice_set env x v) ≡ length env
length_set env x v = length-set env x v
