-- Items of lists by their places, members of lists, and lists of different numbers.
use Rattle.std.proofs.Common.{◌≡◌, ◌∙◌, ℕ, zero, suc, ◌<◌, ◌==◌, ◌||◌, ◌⊎◌, inl, inr, Bool, true, false, List, [], ◌∷◌, ◌++◌, length, Contains, get_or, Some, refl, sym, ap, arith}
use Rattle.std.specs.Prelude.{slice_get, slice_set}
use Rattle.std.specs.List.{IsDistinct, list_any, AllByRecursion}
use Rattle.std.proofs.lemmas.Bool.Decides.{nat_tests}

-- ---- items by their places

pub at_place : {A : Type 0} (xs : List A) (i : ℕ) (d : A) → i < length xs → slice_get xs i ≡ Some (get_or xs i d)
at_place [] i d h = absurd (omega (arith, h))
at_place (x ∷ xs) zero d h = refl
at_place (x ∷ xs) (suc i) d h = at_place xs i d (omega (arith, h))

pub get_before : {A : Type 0} (xs ys : List A) (k : ℕ) → k < length xs → slice_get (xs ++ ys) k ≡ slice_get xs k
get_before [] ys k h = absurd (omega (arith, h))
get_before (x ∷ xs) ys zero h = refl
get_before (x ∷ xs) ys (suc k) h = get_before xs ys k (omega (arith, h))

pub get_new : {A : Type 0} (xs : List A) (x : A) → slice_get (xs ++ x ∷ []) (length xs) ≡ Some x
get_new [] x = refl
get_new (y ∷ xs) x = get_new xs x

pub set_longer : {A : Type 0} (xs : List A) (k : ℕ) (x : A) → length xs ≡ length (slice_set xs k x)
set_longer [] k x = refl
set_longer (c ∷ cs) zero x = refl
set_longer (c ∷ cs) (suc k) x = let e : length cs ≡ length (slice_set cs k x) = set_longer cs k x in omega (arith, e)

-- ---- members

pub in_first : {A : Type 0} (x : A) (xs : List A) → Contains (x ∷ xs) x
in_first x xs = (0, omega arith, refl)

pub in_others : {A : Type 0} (x : A) (xs : List A) (y : A) → Contains xs y → Contains (x ∷ xs) y
in_others x xs y m = (suc m.0, omega (arith, m.1), m.2)

pub in_cases : {A : Type 0} (x : A) (xs : List A) (y : A) → Contains (x ∷ xs) y → (x ≡ y) ⊎ Contains xs y
in_cases x xs y (zero, l, e) = inl e
in_cases x xs y (suc k, l, e) = inr (k, omega (arith, l), e)

-- ---- different numbers

differs : (a b : ℕ) → (a ≡ b → ⊥) → (a == b) ≡ false
differs a b h = at (a == b) refl
  where
    same : (a == b) ≡ true → a ≡ b
    same e = grind (arith, nat_tests, e)

    at : (c : Bool) → (a == b) ≡ c → c ≡ false
    at true e = absurd (h (same e))
    at false e = refl

distinct_all : (x : ℕ) (xs : List ℕ) → ((j : ℕ) → j < length xs → x ≡ get_or xs j 0 → ⊥) → AllByRecursion (λ y. (x == y) ≡ false) xs
distinct_all x [] h = tt
distinct_all x (y ∷ xs) h = (differs x y (h 0 (omega arith)), distinct_all x xs (λ j l. h (suc j) (omega (arith, l))))

-- numbers that differ by place are different by recursion
pub distinct_by : (xs : List ℕ) → ((i j : ℕ) → i < j → j < length xs → get_or xs i 0 ≡ get_or xs j 0 → ⊥) → IsDistinct (λ a b. a == b) xs
unfolding IsDistinct
distinct_by [] h = tt
distinct_by (x ∷ xs) h = (distinct_all x xs (λ j l. h 0 (suc j) (omega arith) (omega (arith, l))), distinct_by xs (λ i j l m. h (suc i) (suc j) (omega (arith, l)) (omega (arith, m))))

-- of numbers that are all below another one each is
pub any_less : (xs : List ℕ) (n : ℕ) → ((i : ℕ) → i < length xs → get_or xs i 0 < n) → (q : ℕ) → list_any (λ b. q == b) xs ≡ true → q < n
any_less [] n h q e = absurd (cc)
any_less (x ∷ xs) n h q e = at (q == x) refl (any_less xs n (λ i l. h (suc i) (omega (arith, l))) q)
  where
    same : (q == x) ≡ true → q ≡ x
    same p = grind (arith, nat_tests, p)

    at : (b : Bool) → (q == x) ≡ b → (list_any (λ b. q == b) xs ≡ true → q < n) → q < n
    at true p f = let less : x < n = h 0 (omega arith) in let eq = same p in omega (arith, less, eq)
    at false p f = f (sym (ap (λ b. b || list_any (λ b. q == b) xs) p) ∙ e)
