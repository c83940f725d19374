-- Members of lists, and rows of a table.
use Rattle.std.proofs.Common.{◌≡◌, ℕ, zero, suc, ◌<◌, ◌≤◌, ◌⊎◌, inl, inr, List, [], ◌∷◌, length, All, Contains, refl, subst, arith, get_or}
use Rattle.std.specs.Prelude.{Some, slice_get}
use Rattle.std.proofs.lemmas.Bool.{cases_lt}
use Rattle.std.proofs.lemmas.List.{get_or_past}
use Rattle.std.proofs.lemmas.List.Elements.{Contains-get_or, All-contains, Contains-append_cases, Contains-append_right, Contains-push_cases}
use Rattle.causality_check.specs.Graph.{IsClosed, row}
use Rattle.aif_cells.proofs.ItemLemmas.{at_place, in_first, in_others, in_cases}

pub not_in_none : {A : Type 0} (x : A) → Contains [] x → ⊥
not_in_none x h = omega (arith, h.1)

pub in_one : {A : Type 0} (x y : A) → Contains (x ∷ []) y → x ≡ y
in_one x y h = elim (Contains-push_cases [] x y h) [ inl a ↦ absurd (not_in_none y a) | inr e ↦ e ]

-- what is in a row is in the table
pub row_within : (g : List (List ℕ)) (k d : ℕ) → Contains (row g k) d → k < length g
row_within g k d h = elim (cases_lt k (length g)) [ inl lt ↦ lt | inr ge ↦ absurd (not_in_none d (subst (λ (xs : List ℕ). Contains xs d) (get_or_past g k [] ge) h)) ]

-- ---- rows of cells that exist

pub closed_from : (g : List (List ℕ)) (n : ℕ) → length g ≤ n → ((k : ℕ) → k < n → All (λ d. d < length g) (row g k)) → IsClosed g
closed_from g n le f k d c = All-contains (λ d. d < length g) (row g k) d (f k (let h : k < length g = row_within g k d c in omega (arith, h, le))) c

pub open_from : (g : List (List ℕ)) (k : ℕ) → (All (λ d. d < length g) (row g k) → ⊥) → IsClosed g → ⊥
open_from g k f p = f (λ i e lt. p k (get_or (row g k) i e) (Contains-get_or (row g k) i e lt))
