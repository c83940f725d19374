-- Cells that are computed along an order solve their equations.
use Rattle.std.proofs.Common.{◌≡◌, ◌∙◌, ℕ, zero, suc, ◌<◌, ℤ, List, [], ◌∷◌, ◌++◌, length, take, Contains, Some, refl, sym, ap, subst, arith, append_assoc, ap₂}
use Rattle.std.specs.Prelude.{slice_get, slice_set}
use Rattle.std.proofs.lemmas.List.Elements.{Contains-append_left, Contains-push}
use Rattle.std.proofs.Math.Seq.{take-append_seam}
use Rattle.aif_cells.specs.Built.{Defined}
use Rattle.aif_cells.specs.Worth.{Assignment, listed, number_at, worth}
use Rattle.aif_cells.specs.Dependences.{DependsOn}
use Rattle.aif_cells.specs.Order.{IsOrder, IsNext}
use Rattle.aif_cells.proofs.SolutionLemmas.{there}
use Rattle.statement_cells.specs.Builder.{tree_at}
use Rattle.macro_steps.specs.Runs.{OrderForgets, OrderSolves, evaluated}
use Rattle.macro_steps.proofs.AgreeLemmas.{worth_agrees}
use Rattle.macro_steps.proofs.OrderLemmas.{along_order, cell_at, place_in}

-- ---- lists of values

length_set : (zs : List ℤ) (k : ℕ) (z : ℤ) → length (slice_set zs k z) ≡ length zs
length_set [] k z = refl
length_set (y ∷ zs) zero z = refl
length_set (y ∷ zs) (suc k) z = ap suc (length_set zs k z)

set_here : (zs : List ℤ) (k : ℕ) (z : ℤ) → k < length zs → number_at (slice_set zs k z) k ≡ z
set_here [] k z l = absurd (omega (arith, l))
set_here (y ∷ zs) zero z l = refl
set_here (y ∷ zs) (suc k) z l = set_here zs k z (omega (arith, l))

set_other : (zs : List ℤ) (k j : ℕ) (z : ℤ) → (k ≡ j → ⊥) → number_at (slice_set zs k z) j ≡ number_at zs j
set_other [] k j z h = refl
set_other (y ∷ zs) zero zero z h = absurd (h refl)
set_other (y ∷ zs) zero (suc j) z h = refl
set_other (y ∷ zs) (suc k) zero z h = refl
set_other (y ∷ zs) (suc k) (suc j) z h = set_other zs k j z (λ e. h (ap suc e))

-- ---- an order, cell by cell

-- each cell of the list is a new one behind those in front, and depends on these alone
abbrev AreAfter : List Defined → (front : List ℕ) → List ℕ → Type 0
AreAfter cs front [] = Unit {0}
AreAfter cs front (k ∷ ks) = (Contains front k → ⊥) × ((d : ℕ) → DependsOn cs k d → Contains front d) × (k < length cs) × AreAfter cs (front ++ k ∷ []) ks

get_seam : (front ks : List ℕ) (k : ℕ) → slice_get (front ++ k ∷ ks) (length front) ≡ Some k
get_seam [] ks k = refl
get_seam (x ∷ front) ks k = get_seam front ks k

are_after : (cs : List Defined) (front ks : List ℕ) → IsOrder cs (front ++ ks) → AreAfter cs front ks
are_after cs front [] is = tt
are_after cs front (k ∷ ks) is =
    let n : IsNext cs (take (length front) (front ++ k ∷ ks)) k = is.in_turn (length front) k (get_seam front ks k) in
    let seam : take (length front) (front ++ k ∷ ks) ≡ front = take-append_seam front (k ∷ ks) in
    let next : IsNext cs front k = subst (λ l. IsNext cs l k) seam n in
    (next.ready.left, next.ready.free, next.ready.is_cell, are_after cs (front ++ k ∷ []) ks (subst (IsOrder cs) (sym (append_assoc front (k ∷ []) ks)) is))

module _ (is rs : List ℤ) (cs : List Defined) where
  abbrev with_values : List ℤ → Assignment
  with_values zs = listed is rs zs

  -- cells in front stay
  front_stays : (front ks : List ℕ) (zs : List ℤ) (d : ℕ) → AreAfter cs front ks → Contains front d → number_at (evaluated is rs cs ks zs) d ≡ number_at zs d
  front_stays front [] zs d h c = refl
  front_stays front (k ∷ ks) zs d h c =
      front_stays (front ++ k ∷ []) ks (slice_set zs k (worth (with_values zs) (tree_at cs k))) d h.3 (Contains-append_left front (k ∷ []) d c)
      ∙ set_other zs k d (worth (with_values zs) (tree_at cs k)) (λ e. h.0 (subst (Contains front) (sym e) c))

  tree_is : (k : ℕ) (c : Defined) → slice_get cs k ≡ Some c → tree_at cs k ≡ c.tree
  tree_is k c e = rw e refl

  -- each cell of the list meets its equation in the end
  list_met : (front ks : List ℕ) (zs : List ℤ) → length zs ≡ length cs → AreAfter cs front ks → (i k : ℕ) (c : Defined) → slice_get ks i ≡ Some k → slice_get cs k ≡ Some c
      → number_at (evaluated is rs cs ks zs) k ≡ worth (with_values (evaluated is rs cs ks zs)) c.tree
  list_met front [] zs size h i k c e f = absurd (cc)
  list_met front (j ∷ ks) zs size h zero k c e f =
      let z : ℤ = worth (with_values zs) (tree_at cs j) in
      let same : j ≡ k = unsome e in
      let last : List ℤ = evaluated is rs cs ks (slice_set zs j z) in
      let own : number_at last j ≡ z = front_stays (front ++ j ∷ []) ks (slice_set zs j z) j h.3 (Contains-push front j) ∙ set_here zs j z (let l = h.2 in omega (arith, l, size)) in
      let tree : slice_get cs j ≡ Some c = ap (slice_get cs) same ∙ f in
      ap (number_at last) (sym same) ∙ own ∙ ap (worth (with_values zs)) (tree_is j c tree)
      ∙ worth_agrees (with_values zs) (number_at last) c.tree (λ d named. sym (front_stays front (j ∷ ks) zs d h (h.1 d (c, tree, named))))
    where
      unsome : {a b : ℕ} → Some a ≡ Some b → a ≡ b
      unsome p = cc
  list_met front (j ∷ ks) zs size h (suc i) k c e f =
      let z : ℤ = worth (with_values zs) (tree_at cs j) in
      list_met (front ++ j ∷ []) ks (slice_set zs j z) (length_set zs j z ∙ size) h.3 i k c e f

pub order_solves : OrderSolves
order_solves is rs cs order zs ordered size k c e b =
    let p = place_in cs order ordered k (there cs k c e) in
    list_met is rs cs [] order zs size (are_after cs [] order ordered) p.0 k c p.1 e

-- ---- the values before are forgotten

evaluated_length : (is rs : List ℤ) (cs : List Defined) (order : List ℕ) (zs : List ℤ) → length (evaluated is rs cs order zs) ≡ length zs
evaluated_length is rs cs [] zs = refl
evaluated_length is rs cs (k ∷ order) zs = let z : ℤ = worth (listed is rs zs) (tree_at cs k) in evaluated_length is rs cs order (slice_set zs k z) ∙ length_set zs k z

same_lists : (xs ys : List ℤ) → length xs ≡ length ys → ((k : ℕ) → k < length xs → number_at xs k ≡ number_at ys k) → xs ≡ ys
same_lists [] [] e h = refl
same_lists (x ∷ xs) (y ∷ ys) e h = ap₂ (λ a l. a ∷ l) (h 0 (omega arith)) (same_lists xs ys (omega (arith, e)) (λ k l. h (suc k) (omega (arith, l))))
same_lists [] (y ∷ ys) e h = absurd (omega (arith, e))
same_lists (x ∷ xs) [] e h = absurd (omega (arith, e))

pub order_forgets : OrderForgets
order_forgets is rs cs order zs ys ordered size other =
    let a : List ℤ = evaluated is rs cs order zs in
    let b : List ℤ = evaluated is rs cs order ys in
    let la : length a ≡ length zs = evaluated_length is rs cs order zs in
    let lb : length b ≡ length ys = evaluated_length is rs cs order ys in
    same_lists a b (la ∙ size ∙ sym other ∙ sym lb)
    (λ k l. along_order cs order ordered (λ j. number_at a j ≡ number_at b j)
    (λ j m f. let c = cell_at cs j m in
    order_solves is rs cs order zs ordered size j c.0 c.1 refl ∙ worth_agrees (listed is rs a) (number_at b) c.0.tree (λ d named. f d (c.0, c.1, named)) ∙ sym (order_solves is rs cs order ys ordered other j c.0 c.1 refl))
    k (omega (arith, l, la, size)))
