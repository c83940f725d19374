-- All cells are in an order of them.
use Rattle.std.proofs.Common.{◌≡◌, ◌∙◌, ℕ, zero, suc, ◌<◌, ◌≤◌, ◌+◌, ◌||◌, inl, inr, Bool, true, false, List, [], ◌∷◌, ◌++◌, length, map, set, take, Contains, get_or, Some, None, refl, sym, ap, subst, arith}
use Rattle.std.specs.Prelude.{◌⊎◌, ◌==◌, slice_get}
use Rattle.std.specs.List.{IsDistinct, list_any, AllByRecursion}
use Rattle.std.proofs.lemmas.Bool.Decides.{nat_tests}
use Rattle.std.proofs.lemmas.List.{get_or_default, get_or-take, length-take-le}
use Rattle.std.proofs.lemmas.Map.Steps.{length-le_from_distinct_below}
use Rattle.aif_cells.specs.declared.cells.Cell.{Cell}
use Rattle.aif_cells.specs.Built.{Defined, all_defined}
use Rattle.aif_cells.specs.Order.{IsOrder}
use Rattle.aif_cells.proofs.ItemLemmas.{at_place, distinct_by, any_less}
use Rattle.aif_cells.proofs.SolutionLemmas.{there}

pub got_at : {A : Type 0} (xs : List A) (i : ℕ) (d x : A) → slice_get xs i ≡ Some x → get_or xs i d ≡ x
got_at [] i d x e = absurd (cc)
got_at (y ∷ xs) zero d x e = cc
got_at (y ∷ xs) (suc i) d x e = got_at xs i d x e

pub none_there : {A : Type 0} (xs : List A) (i : ℕ) → slice_get xs i ≡ None → length xs ≤ i
none_there [] i e = omega arith
none_there (x ∷ xs) zero e = absurd (cc)
none_there (x ∷ xs) (suc i) e = omega (arith, none_there xs i e)

pub past : {A : Type 0} (xs : List A) (i : ℕ) (d : A) → length xs ≤ i → get_or xs i d ≡ d
past [] i d l = refl
past (x ∷ xs) zero d l = absurd (omega (arith, l))
past (x ∷ xs) (suc i) d l = past xs i d (omega (arith, l))

pub split : (k n : ℕ) → k < n + 1 → (k < n) ⊎ (k ≡ n)
split k n l = at (k == n) refl
  where
    at : (b : Bool) → (k == n) ≡ b → (k < n) ⊎ (k ≡ n)
    at true e = inr (grind (arith, nat_tests, e))
    at false e = inl (let d : k ≡ n → ⊥ = (λ q. grind (arith, nat_tests, e, q)) in omega (arith, l, d))

pub set_same : {A : Type 0} (xs : List A) (i : ℕ) (v : A) → i < length xs → slice_get (set xs i v) i ≡ Some v
set_same [] i v l = absurd (omega (arith, l))
set_same (x ∷ xs) zero v l = refl
set_same (x ∷ xs) (suc i) v l = set_same xs i v (omega (arith, l))

pub set_other : {A : Type 0} (xs : List A) (i j : ℕ) (v : A) → (i ≡ j → ⊥) → slice_get (set xs i v) j ≡ slice_get xs j
set_other [] i j v f = refl
set_other (x ∷ xs) zero zero v f = absurd (f refl)
set_other (x ∷ xs) zero (suc j) v f = refl
set_other (x ∷ xs) (suc i) zero v f = refl
set_other (x ∷ xs) (suc i) (suc j) v f = set_other xs i j v (λ e. f (ap suc e))

-- an item of a list with one more behind it
pub get_push : {A : Type 0} (xs : List A) (y : A) (i : ℕ) (x : A) → slice_get (xs ++ y ∷ []) i ≡ Some x → (slice_get xs i ≡ Some x) ⊎ ((i ≡ length xs) × (y ≡ x))
get_push [] y zero x e = inr (refl, cc)
get_push [] y (suc i) x e = absurd (cc)
get_push (z ∷ xs) y zero x e = inl e
get_push (z ∷ xs) y (suc i) x e = elim (get_push xs y i x e) [
  | inl h ↦ inl h
  | inr h ↦ inr (ap suc h.0, h.1)
]

pub old_item : {A : Type 0} (xs : List A) (y : A) (i : ℕ) (d : A) → i < length xs → get_or (xs ++ y ∷ []) i d ≡ get_or xs i d
old_item [] y i d l = absurd (omega (arith, l))
old_item (x ∷ xs) y zero d l = refl
old_item (x ∷ xs) y (suc i) d l = old_item xs y i d (omega (arith, l))

pub new_item : {A : Type 0} (xs : List A) (y d : A) → get_or (xs ++ y ∷ []) (length xs) d ≡ y
new_item [] y d = refl
new_item (x ∷ xs) y d = new_item xs y d

pub mapped_item : {A B : Type 0} (f : A → B) (xs : List A) (i : ℕ) (x : A) (d : B) → slice_get xs i ≡ Some x → get_or (map f xs) i d ≡ f x
mapped_item f [] i x d e = absurd (cc)
mapped_item f (y ∷ xs) zero x d e = ap f (same e)
  where
    same : Some y ≡ Some x → y ≡ x
    same q = cc
mapped_item f (y ∷ xs) (suc i) x d e = mapped_item f xs i x d e

-- a number is in a list or isn't
among : (xs : List ℕ) (k : ℕ) → Contains xs k ⊎ ((j : ℕ) → j < length xs → k ≡ get_or xs j 0 → ⊥)
among [] k = inr (λ j l e. omega (arith, l))
among (x ∷ xs) k = at (k == x) refl (among xs k)
  where
    same : (k == x) ≡ true → x ≡ k
    same p = grind (arith, nat_tests, p)

    other : (k == x) ≡ false → k ≡ x → ⊥
    other p e = grind (arith, nat_tests, p, e)

    at : (b : Bool) → (k == x) ≡ b → Contains xs k ⊎ ((j : ℕ) → j < length xs → k ≡ get_or xs j 0 → ⊥) → Contains (x ∷ xs) k ⊎ ((j : ℕ) → j < length (x ∷ xs) → k ≡ get_or (x ∷ xs) j 0 → ⊥)
    at true p f = inl (0, omega arith, same p)
    at false p (inl m) = inl (suc m.0, omega (arith, m.1), m.2)
    at false p (inr n) = inr left
      where
        left : (j : ℕ) → j < length (x ∷ xs) → k ≡ get_or (x ∷ xs) j 0 → ⊥
        left zero l e = other p e
        left (suc j) l e = n j (omega (arith, l)) e

module _ (cs : List Defined) (order : List ℕ) (is : IsOrder cs order) where
  apart : (i j : ℕ) → i < j → j < length order → (get_or order i 0 ≡ get_or order j 0) → ⊥
  apart i j l m e =
      let size : length (take j order) ≡ j = length-take-le j order (omega (arith, m)) in
      (is.in_turn j (get_or order j 0) (at_place order j 0 m)).ready.left (i, omega (arith, l, size), get_or-take j order i (get_or order j 0) l ∙ (get_or_default order i (get_or order j 0) 0 (omega (arith, l, m)) ∙ e))

  pub is_less : (i : ℕ) → i < length order → get_or order i 0 < length cs
  is_less i l = (is.in_turn i (get_or order i 0) (at_place order i 0 l)).ready.is_cell

  all_apart : (k : ℕ) → ((j : ℕ) → j < length order → k ≡ get_or order j 0 → ⊥) → (i j : ℕ) → i < j → j < length (k ∷ order) → get_or (k ∷ order) i 0 ≡ get_or (k ∷ order) j 0 → ⊥
  all_apart k f i zero lt m same = omega (arith, lt)
  all_apart k f zero (suc j) lt m same = f j (omega (arith, m)) same
  all_apart k f (suc i) (suc j) lt m same = apart i j (omega (arith, lt)) (omega (arith, m)) same

  all_less : (k : ℕ) → k < length cs → (i : ℕ) → i < length (k ∷ order) → get_or (k ∷ order) i 0 < length cs
  all_less k l zero m = l
  all_less k l (suc i) m = is_less i (omega (arith, m))

  -- every cell is in the order
  pub contained : (k : ℕ) → k < length cs → Contains order k
  contained k l = at (among order k)
    where
      at : Contains order k ⊎ ((j : ℕ) → j < length order → k ≡ get_or order j 0 → ⊥) → Contains order k
      at (inl m) = m
      at (inr f) =
          let most : length (k ∷ order) ≤ length cs = length-le_from_distinct_below (k ∷ order) (length cs) (distinct_by (k ∷ order) (all_apart k f)) (any_less (k ∷ order) (length cs) (all_less k l)) in
          let all = is.all in
          absurd (omega (arith, most, all))

-- without cells the empty list is the order
pub empty_order : (cells : List Cell) → cells ≡ [] → IsOrder (all_defined cells) []
empty_order cells e = subst (λ (cs : List Cell). IsOrder (all_defined cs) []) (sym e) (record { in_turn = λ i k f. absurd (none k f); all = refl })
  where
    none : (k : ℕ) → None ≡ Some k → ⊥
    none k f = cc
