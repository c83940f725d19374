-- What is decided of each number, or of each item of a list, is decided of some.
use Rattle.std.proofs.Common.{◌≡◌, ◌<◌, ◌≤◌, ◌⊎◌, inl, inr, ℕ, zero, suc, Bool, true, false, List, [], ◌∷◌, Contains, refl, sym, subst, arith}
use Rattle.std.proofs.lemmas.Bool.{cases_eq, cases_lt}
use Rattle.causality_check.proofs.GraphLemmas.{not_in_none}
use Rattle.aif_cells.proofs.ItemLemmas.{in_first, in_others, in_cases}

pub both : {P Q : Type 0} → P ⊎ (¬ P) → Q ⊎ (¬ Q) → (P × Q) ⊎ (¬ (P × Q))
both (inl p) (inl q) = inl (p, q)
both (inl p) (inr n) = inr (λ b. n b.1)
both (inr n) q = inr (λ b. n b.0)

pub either : {P Q : Type 0} → P ⊎ (¬ P) → Q ⊎ (¬ Q) → (P ⊎ Q) ⊎ (¬ (P ⊎ Q))
either (inl p) q = inl (inl p)
either (inr n) (inl q) = inl (inr q)
either (inr n) (inr m) = inr (λ e. elim e [ inl p ↦ n p | inr q ↦ m q ])

pub alike : {P Q : Type 0} → (P → Q) → (Q → P) → P ⊎ (¬ P) → Q ⊎ (¬ Q)
alike f g (inl p) = inl (f p)
alike f g (inr n) = inr (λ q. n (g q))

pub is_not : {P : Type 0} → P ⊎ (¬ P) → (¬ P) ⊎ (¬ (¬ P))
is_not (inl p) = inr (λ n. n p)
is_not (inr n) = inl n

pub same_bool : (a b : Bool) → (a ≡ b) ⊎ (a ≡ b → ⊥)
same_bool true true = inl refl
same_bool false false = inl refl
same_bool true false = inr (λ e. cc)
same_bool false true = inr (λ e. cc)

-- the least number with a property, below a bound
pub record LeastBelow (P : ℕ → Type 0) (n : ℕ) : Type 0 where
  pub number : ℕ
  pub below : number < n
  pub holds : P number
  pub least : (j : ℕ) → P j → number ≤ j

pub search_below : (P : ℕ → Type 0) → ((k : ℕ) → P k ⊎ (¬ P k)) → (n : ℕ) → LeastBelow P n ⊎ ((k : ℕ) → k < n → ¬ P k)
search_below P decide zero = inr (λ k l. absurd (omega (arith, l)))
search_below P decide (suc n) = next (search_below P decide n) (decide n)
  where
    next : LeastBelow P n ⊎ ((k : ℕ) → k < n → ¬ P k) → P n ⊎ (¬ P n) → LeastBelow P (suc n) ⊎ ((k : ℕ) → k < suc n → ¬ P k)
    next (inl s) d = let l = s.below in inl (record { number = s.number; below = omega (arith, l); holds = s.holds; least = s.least })
    next (inr none) (inl p) = inl (record { number = n; below = omega arith; holds = p; least = λ j q. elim (cases_lt j n) [ inl l ↦ absurd (none j l q) | inr above ↦ above ] })
    next (inr none) (inr not_this) = inr (λ k l p. elim (cases_lt k n) [
      | inl before ↦ none k before p
      | inr above ↦ (let same : k ≡ n = omega (arith, l, above) in not_this (subst P same p))
    ])

-- where equality is decided, an item is in a list, or it isn't
pub member_of : (A : Type 0) → ((x y : A) → (x ≡ y) ⊎ (x ≡ y → ⊥)) → (xs : List A) (y : A) → Contains xs y ⊎ (¬ Contains xs y)
member_of A same [] y = inr (not_in_none y)
member_of A same (x ∷ xs) y = at (same x y) (member_of A same xs y)
  where
    at : (x ≡ y) ⊎ (x ≡ y → ⊥) → Contains xs y ⊎ (¬ Contains xs y) → Contains (x ∷ xs) y ⊎ (¬ Contains (x ∷ xs) y)
    at (inl e) d = inl (subst (Contains (x ∷ xs)) e (in_first x xs))
    at (inr n) (inl c) = inl (in_others x xs y c)
    at (inr n) (inr m) = inr (λ c. elim (in_cases x xs y c) [ inl e ↦ n e | inr d ↦ m d ])

pub member : (xs : List ℕ) (k : ℕ) → Contains xs k ⊎ (¬ Contains xs k)
member = member_of ℕ cases_eq

-- an item of a list with a property
pub record SomeItem (A : Type 0) (P : A → Type 0) (xs : List A) : Type 0 where
  pub item : A
  pub is_in : Contains xs item
  pub holds : P item

pub some_item : (A : Type 0) (P : A → Type 0) → ((x : A) → P x ⊎ (¬ P x)) → (xs : List A) → SomeItem A P xs ⊎ (¬ SomeItem A P xs)
some_item A P decide [] = inr (λ s. not_in_none s.item s.is_in)
some_item A P decide (x ∷ xs) = at (decide x) (some_item A P decide xs)
  where
    at : P x ⊎ (¬ P x) → SomeItem A P xs ⊎ (¬ SomeItem A P xs) → SomeItem A P (x ∷ xs) ⊎ (¬ SomeItem A P (x ∷ xs))
    at (inl p) d = inl (record { item = x; is_in = in_first x xs; holds = p })
    at (inr n) (inl s) = inl (record { item = s.item; is_in = in_others x xs s.item s.is_in; holds = s.holds })
    at (inr n) (inr m) = inr (λ s. elim (in_cases x xs s.item s.is_in) [
      | inl e ↦ n (subst P (sym e) s.holds)
      | inr c ↦ m (record { item = s.item; is_in = c; holds = s.holds })
    ])
