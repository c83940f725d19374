-- What every division has, and which bounds are feasible.
use Rattle.std.proofs.Common.{◌≡◌, ℕ, zero, suc, ◌+◌, ◌<◌, ◌≤◌, List, [], ◌∷◌, length, sum, take, get_or, replicate, All, arith, ap, refl, inl, inr}
use Rattle.std.proofs.lemmas.List.{take_all, length-replicate}
use Rattle.std.proofs.lemmas.List.Elements.{All-head, All-tail, All-from_get_or}
use Rattle.std.proofs.lemmas.Bool.{cases_lt}
use Rattle.stage_cut.specs.Division.{part_weights, greatest, heaviest_part, RisesTo, IsDivision, IsFeasible}
use Rattle.stage_cut.proofs.WeightLemmas.{weight_up_to, weight_between_none, weight_between_one, weight_between_inside}

-- the first place is not above the last
pub rises_up : (last from : ℕ) (ends : List ℕ) → RisesTo last from ends → from ≤ last
rises_up last from [] r = omega arith
rises_up last from (end ∷ ends) r =
    let rest = rises_up last end ends r.1 in omega (arith, r.0, rest)

-- each cell is in a part, which weighs no less
pub cell_in_part : (weights : List ℕ) (from : ℕ) (ends : List ℕ) (cell : ℕ) → RisesTo (length weights) from ends
    → from ≤ cell → cell < length weights → get_or weights cell 0 ≤ greatest (part_weights weights from ends)
cell_in_part weights from [] cell r above within = omega arith
cell_in_part weights from (end ∷ ends) cell r above within =
    elim (cases_lt cell end) [
      | inl before ↦
          let inside = weight_between_inside weights from cell (cell + 1) end above (omega arith) (omega arith) in
          let one = weight_between_one weights cell within in
          omega arith
      | inr past ↦
          let rest = cell_in_part weights end ends cell r.1 past within in
          omega arith
    ]

-- so no cell weighs more than the heaviest part
pub cells_in_parts : (weights : List ℕ) (stages : ℕ) (ends : List ℕ) → IsDivision weights stages ends
    → All (λ cell. cell ≤ heaviest_part weights ends) weights
cells_in_parts weights stages ends division =
    All-from_get_or (λ cell. cell ≤ heaviest_part weights ends) weights 0
    (λ cell within. cell_in_part weights 0 ends cell division.rising (omega arith) within)

-- numbers that are all below a bound have their greatest below it
pub greatest_below : (bound : ℕ) (xs : List ℕ) → 0 < bound → All (λ x. x < bound) xs → greatest xs < bound
greatest_below bound [] positive all = positive
greatest_below bound (x ∷ xs) positive all =
    let head : x < bound = All-head (λ y. y < bound) x xs all in
    let tail = greatest_below bound xs positive (All-tail (λ y. y < bound) x xs all) in
    omega arith

-- after the last cell come empty parts
rises_at_end : (last count : ℕ) → RisesTo last last (replicate count last)
rises_at_end last zero = refl
rises_at_end last (suc count) = (omega arith, rises_at_end last count)

weighs_none_at_end : (weights : List ℕ) (last count : ℕ) → greatest (part_weights weights last (replicate count last)) ≡ 0
weighs_none_at_end weights last zero = refl
weighs_none_at_end weights last (suc count) =
    let none = weight_between_none weights last in
    let rest = weighs_none_at_end weights last count in
    omega arith

-- all cells fit in one part
pub feasible_total : (weights : List ℕ) (stages : ℕ) → 1 ≤ stages → IsFeasible weights stages (sum weights)
feasible_total weights zero some = absurd (omega arith)
feasible_total weights (suc count) some =
    let n : ℕ = length weights in
    let whole = weight_up_to weights 0 n (omega arith) in
    let all : sum (take n weights) ≡ sum weights = ap sum (take_all n weights (omega arith)) in
    let rest = weighs_none_at_end weights n count in (
      replicate (suc count) n,
      record { count = length-replicate (suc count) n; rising = (omega arith, rises_at_end n count) },
      omega arith,
    )
