-- Divisions of a list of weights into contiguous parts, by the places at which the parts end.
use Rattle.std.specs.Prelude.{◌≡◌, ℕ, ◌≤◌, ◌<◌, List, [], ◌∷◌, length, sum, slice_range, max, All}

-- the weight of the cells from one place up to another
abbrev pub weight_between : List ℕ → ℕ → ℕ → ℕ
weight_between weights from to = sum (slice_range weights from to)

-- the weights of the parts that end at these places, where the first part begins at `from`
abbrev pub part_weights : List ℕ → ℕ → List ℕ → List ℕ
part_weights weights from [] = []
part_weights weights from (end ∷ ends) = weight_between weights from end ∷ part_weights weights end ends

-- the greatest of some numbers, 0 where there are none
abbrev pub greatest : List ℕ → ℕ
greatest [] = 0
greatest (x ∷ xs) = max x (greatest xs)

-- the ends never fall from `from` on, and the last of them is `last`
abbrev pub RisesTo : ℕ → ℕ → List ℕ → Type 0
RisesTo last from [] = from ≡ last
RisesTo last from (end ∷ ends) = (from ≤ end) × RisesTo last end ends

-- a division into so many contiguous parts, some possibly empty: any list of so many ends that never fall, the last
-- of them at the end of the weights
pub record IsDivision (weights : List ℕ) (stages : ℕ) (ends : List ℕ) : Type 0 where
  pub count : length ends ≡ stages
  pub rising : RisesTo (length weights) 0 ends

-- the weight of the heaviest part of a division
abbrev pub heaviest_part : List ℕ → List ℕ → ℕ
heaviest_part weights ends = greatest (part_weights weights 0 ends)

-- no division into so many parts has a heaviest part below this weight
abbrev pub IsLeastPossible : List ℕ → ℕ → ℕ → Type 0
IsLeastPossible weights stages weight =
    (ends : List ℕ) → IsDivision weights stages ends → weight ≤ heaviest_part weights ends

-- no division into so many parts has all its parts below this weight
abbrev pub NoneIsLighter : List ℕ → ℕ → ℕ → Type 0
NoneIsLighter weights stages weight =
    (ends : List ℕ) → IsDivision weights stages ends → ¬ All (λ part. part < weight) (part_weights weights 0 ends)

-- some division into so many parts has no part above the bound
abbrev pub IsFeasible : List ℕ → ℕ → ℕ → Type 0
IsFeasible weights stages bound =
    (ends : List ℕ) × IsDivision weights stages ends × (heaviest_part weights ends ≤ bound)
