-- The least place of a list, and that two places of which neither is before the other are one.
use Rattle.std.proofs.Common.{◌≡◌, ◌⊎◌, inl, inr, ◌||◌, ◌&&◌, ◌==◌, nat_lt, arith, ℕ, Bool, true, false, if◌then◌else◌, List, [], ◌∷◌, map, Contains, Option, Some, None, refl, sym, ap, ap₂, subst, ◌∙◌}
use Rattle.std.proofs.lemmas.Grind.{common_steps}
use Rattle.std.proofs.lemmas.Bool.Decides.{nat_tests}
use Rattle.quartz_tree.specs.declared.place.Place.{Place}
use Rattle.quartz_tree.specs.Least.{is_before, lesser_place, least_place}
use Rattle.causality_check.proofs.GraphLemmas.{not_in_none}
use Rattle.aif_cells.proofs.ItemLemmas.{in_first, in_others, in_cases}

-- two places of which neither is before the other
not_less : (a b c d : ℕ) → (nat_lt a b || ((a == b) && nat_lt c d)) ≡ false → (nat_lt b a || ((b == a) && nat_lt d c)) ≡ false → (a ≡ b) × (c ≡ d)
not_less a b c d h k = (grind (arith, common_steps), grind (arith, common_steps))

pub same_place : (p q : Place) → is_before q p ≡ false → is_before p q ≡ false → p ≡ q
same_place p q a b =
    let parts = not_less p.line q.line p.col q.col b a in
    ap₂ (λ (l c : ℕ). let s : Place = record { line = l; col = c } in s) parts.0 parts.1

-- nothing is before itself
not_before_itself : (p : Place) → is_before p p ≡ false
not_before_itself p = grind (arith, nat_tests)

-- what is not before a place is not before one that is before it
not_before_lesser : (p q r : Place) → is_before p q ≡ false → is_before r q ≡ true → is_before p r ≡ false
not_before_lesser p q r a b = grind (arith, nat_tests)

-- of two places that are in order none is before the first
kept_lesser : (p q r : Place) → is_before p q ≡ false → is_before q r ≡ false → is_before p r ≡ false
kept_lesser p q r a b = grind (arith, nat_tests)

-- a place and the rest: the least of them is it, or that of the rest
least_cases : (x p : Place) (o : Option Place) → lesser_place (Some x) o ≡ Some p
    → ((x ≡ p) × ((q : Place) → o ≡ Some q → is_before q x ≡ false)) ⊎ ((o ≡ Some p) × (is_before p x ≡ true))
least_cases x p None h = inl (cc, λ q e. cc)
least_cases x p (Some q) h = tested (is_before q x) refl
  where
    tested : (b : Bool) → is_before q x ≡ b → ((x ≡ p) × ((r : Place) → ◌≡◌ {A = Option Place} (Some q) (Some r) → is_before r x ≡ false)) ⊎ ((◌≡◌ {A = Option Place} (Some q) (Some p)) × (is_before p x ≡ true))
    tested true e =
        let chosen : ◌≡◌ {A = Option Place} (Some q) (Some p) = sym (ap (λ b. if b then Some q else Some x) e) ∙ h in
        let same : q ≡ p = cc in
        inr (chosen, subst (λ (r : Place). is_before r x ≡ true) same e)
    tested false e =
        let chosen : ◌≡◌ {A = Option Place} (Some x) (Some p) = sym (ap (λ b. if b then Some q else Some x) e) ∙ h in
        let first : x ≡ p = cc in
        inl (first, λ r k. let same : q ≡ r = cc in subst (λ (s : Place). is_before s x ≡ false) same e)

-- the least place of a list is one of the list's
pub one_has_least : {A : Type 0} (f : A → Place) (qs : List A) (p : Place) → least_place (map f qs) ≡ Some p → (q : A) × Contains qs q × (f q ≡ p)
one_has_least f [] p h = cc
one_has_least f (q ∷ qs) p h = elim (least_cases (f q) p (least_place (map f qs)) h) [
  | inl a ↦ (q, in_first q qs, a.0)
  | inr b ↦ let rest = one_has_least f qs p b.0 in (rest.0, in_others q qs rest.0 rest.1, rest.2)
]

-- a list without a least place is empty
pub none_is_least : {A : Type 0} (f : A → Place) (qs : List A) → least_place (map f qs) ≡ None → qs ≡ []
none_is_least f [] h = refl
none_is_least f (q ∷ qs) h = absurd (some_is_least (least_place (map f qs)) h)
  where
    some_is_least : (o : Option Place) → lesser_place (Some (f q)) o ≡ None → ⊥
    some_is_least None e = cc
    some_is_least (Some r) e = tested (is_before r (f q)) e
      where
        tested : (b : Bool) → (if b then Some r else Some (f q)) ≡ None → ⊥
        tested true k = cc
        tested false k = cc

-- and none of the list is before it
pub none_before_least : {A : Type 0} (f : A → Place) (qs : List A) (p : Place) (q : A) → least_place (map f qs) ≡ Some p → Contains qs q → is_before (f q) p ≡ false
none_before_least f [] p q h c = absurd (not_in_none q c)
none_before_least f (r ∷ rs) p q h c = elim (least_cases (f r) p (least_place (map f rs)) h) [
  | inl a ↦ elim (in_cases r rs q c) [
    | inl e ↦ subst (λ s. is_before (f s) p ≡ false) e (subst (λ (s : Place). is_before (f r) s ≡ false) a.0 (not_before_itself (f r)))
    | inr d ↦ by_rest (least_place (map f rs)) refl a d (λ s e. none_before_least f rs s q e d)
  ]
  | inr b ↦ elim (in_cases r rs q c) [
    | inl e ↦ subst (λ s. is_before (f s) p ≡ false) e (not_before_lesser (f r) (f r) p (not_before_itself (f r)) b.1)
    | inr d ↦ none_before_least f rs p q b.0 d
  ]
]
  where
    by_rest : (o : Option Place) → least_place (map f rs) ≡ o → ((f r ≡ p) × ((s : Place) → least_place (map f rs) ≡ Some s → is_before s (f r) ≡ false)) → Contains rs q
        → ((s : Place) → least_place (map f rs) ≡ Some s → is_before (f q) s ≡ false) → is_before (f q) p ≡ false
    by_rest None e a d g = absurd (not_in_none q (subst (λ xs. Contains xs q) (none_is_least f rs e) d))
    by_rest (Some s) e a d g = subst (λ (z : Place). is_before (f q) z ≡ false) a.0 (kept_lesser (f q) s (f r) (g s e) (a.1 s e))
