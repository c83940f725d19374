-- What holds along an order of cells.
use Rattle.std.proofs.Common.{◌≡◌, ◌∙◌, ℕ, zero, suc, ◌<◌, ◌≤◌, ◌==◌, ◌||◌, Bool, true, false, List, [], ◌∷◌, length, take, Contains, get_or, Some, refl, sym, ap, arith}
use Rattle.std.specs.Prelude.{slice_get}
use Rattle.std.specs.List.{IsDistinct, list_any, AllByRecursion}
use Rattle.std.proofs.lemmas.Bool.Decides.{nat_tests}
use Rattle.std.proofs.lemmas.List.{get_or_default, get_or-take, length-take-le}
use Rattle.std.proofs.lemmas.Map.Steps.{length-le_from_distinct_below}
use Rattle.aif_cells.specs.Built.{Defined}
use Rattle.aif_cells.specs.Dependences.{DependsOn}
use Rattle.aif_cells.specs.Order.{IsOrder}
use Rattle.aif_cells.proofs.SolutionLemmas.{there}
use Rattle.absence_reaction.specs.Meaning.{is_among}
use Rattle.macro_steps.proofs.AgreeLemmas.{among_contained}
use Rattle.aif_cells.proofs.ItemLemmas.{distinct_by, any_less, at_place}

pub cell_at : {A : Type 0} (cs : List A) (k : ℕ) → k < length cs → (c : A) × (slice_get cs k ≡ Some c)
cell_at [] k h = absurd (omega (arith, h))
cell_at (c ∷ cs) zero h = (c, refl)
cell_at (c ∷ cs) (suc k) h = cell_at cs k (omega (arith, h))

module _ (cs : List Defined) (order : List ℕ) (is : IsOrder cs order) where
  -- what a cell of the order depends on stands before it
  pub record Earlier (i d : ℕ) : Type 0 where
    pub place : ℕ
    pub below : place < i
    pub there : slice_get order place ≡ Some d

  pub earlier : (i k d : ℕ) → i < length order → slice_get order i ≡ Some k → DependsOn cs k d → Earlier i d
  earlier i k d l e dep =
      let c : Contains (take i order) d = (is.in_turn i k e).ready.free d dep in
      let size : length (take i order) ≡ i = length-take-le i order (omega (arith, l)) in
      let below : c.0 < i = omega (arith, c.1, size) in
      let same : get_or order c.0 0 ≡ d = get_or_default order c.0 0 d (omega (arith, below, l)) ∙ (sym (get_or-take i order c.0 d below) ∙ c.2) in
      record { place = c.0; below = below; there = at_place order c.0 0 (omega (arith, below, l)) ∙ ap Some same }

  -- what follows for a cell from all that it depends on holds of all cells of the order
  pub along : (P : ℕ → Type 0) → ((i k : ℕ) → slice_get order i ≡ Some k → ((d : ℕ) → DependsOn cs k d → P d) → P k)
      → (n i k : ℕ) → i < n → slice_get order i ≡ Some k → P k
  along P step zero i k l e = absurd (omega (arith, l))
  along P step (suc n) i k l e = step i k e (λ d dep. let q = earlier i k d (there order i k e) e dep in along P step n q.place d (omega (arith, q.below, l)) q.there)

  -- ---- all cells are in the order

  placed : (i : ℕ) → i < length order → slice_get order i ≡ Some (get_or order i 0)
  placed i l = at_place order i 0 l

  apart : (i j : ℕ) → i < j → j < length order → (get_or order i 0 ≡ get_or order j 0) → ⊥
  apart i j l m e =
      let size : length (take j order) ≡ j = length-take-le j order (omega (arith, m)) in
      (is.in_turn j (get_or order j 0) (placed j m)).ready.left (i, omega (arith, l, size), get_or-take j order i (get_or order j 0) l ∙ (get_or_default order i (get_or order j 0) 0 (omega (arith, l, m)) ∙ e))

  is_less : (i : ℕ) → i < length order → get_or order i 0 < length cs
  is_less i l = (is.in_turn i (get_or order i 0) (placed i l)).ready.is_cell

-- the place of a number in a list
place_of : (xs : List ℕ) (k : ℕ) → is_among k xs ≡ true → (i : ℕ) × (slice_get xs i ≡ Some k)
place_of [] k e = absurd (cc)
place_of (x ∷ xs) k e = at (k == x) refl (place_of xs k)
  where
    same : (k == x) ≡ true → x ≡ k
    same p = grind (arith, nat_tests, p)

    at : (b : Bool) → (k == x) ≡ b → (is_among k xs ≡ true → (i : ℕ) × (slice_get xs i ≡ Some k)) → (i : ℕ) × (slice_get (x ∷ xs) i ≡ Some k)
    at true p f = (0, ap Some (same p))
    at false p f = let r = f (sym (ap (λ b. b || is_among k xs) p) ∙ e) in (suc r.0, r.1)

-- every cell has a place in the order
pub place_in : (cs : List Defined) (order : List ℕ) → IsOrder cs order → (k : ℕ) → k < length cs → (i : ℕ) × (slice_get order i ≡ Some k)
place_in cs order is k l = at (is_among k order) refl
  where
    not_there : is_among k order ≡ false → (j : ℕ) → j < length order → k ≡ get_or order j 0 → ⊥
    not_there e j m same = wrong (sym (among_contained order k (j, m, get_or_default order j k 0 m ∙ sym same)) ∙ e)
      where
        wrong : true ≡ false → ⊥
        wrong p = cc

    all_apart : is_among k order ≡ false → (i j : ℕ) → i < j → j < length (k ∷ order) → get_or (k ∷ order) i 0 ≡ get_or (k ∷ order) j 0 → ⊥
    all_apart e i zero lt m same = omega (arith, lt)
    all_apart e zero (suc j) lt m same = not_there e j (omega (arith, m)) same
    all_apart e (suc i) (suc j) lt m same = apart cs order is i j (omega (arith, lt)) (omega (arith, m)) same

    all_less : (i : ℕ) → i < length (k ∷ order) → get_or (k ∷ order) i 0 < length cs
    all_less zero m = l
    all_less (suc i) m = is_less cs order is i (omega (arith, m))

    at : (b : Bool) → is_among k order ≡ b → (i : ℕ) × (slice_get order i ≡ Some k)
    at true e = place_of order k e
    at false e =
        let most : length (k ∷ order) ≤ length cs = length-le_from_distinct_below (k ∷ order) (length cs) (distinct_by (k ∷ order) (all_apart e)) (any_less (k ∷ order) (length cs) all_less) in
        let all = is.all in
        absurd (omega (arith, most, all))

-- what follows for a cell from all that it depends on holds of all cells
pub along_order : (cs : List Defined) (order : List ℕ) → IsOrder cs order → (P : ℕ → Type 0) → ((k : ℕ) → k < length cs → ((d : ℕ) → DependsOn cs k d → P d) → P k) → (k : ℕ) → k < length cs → P k
along_order cs order is P step k l =
    let p = place_in cs order is k l in
    along cs order is P (λ i j e f. step j (is.in_turn i j e).ready.is_cell f) (suc p.0) p.0 k (omega arith) p.1
