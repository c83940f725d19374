-- What a list of places shows of a weight, by sums of the weights alone.
use Rattle.std.specs.Prelude.{◌≡◌, ℕ, ◌+◌, ◌≤◌, ◌<◌, ◌⊎◌, List, [], ◌∷◌, length, Contains}
use Rattle.stage_cut.specs.Division.{weight_between, NoneIsLighter}

-- each place is that of a cell and below the next; from it up to the next, the cell there included, the weight is
-- at least `weight`
abbrev pub AreHeavyApart : List ℕ → ℕ → ℕ → List ℕ → Type 0
AreHeavyApart weights weight place [] = place < length weights
AreHeavyApart weights weight place (next ∷ places) =
    (place < next) × (weight ≤ weight_between weights place (next + 1)) × AreHeavyApart weights weight next places

-- what shows that no division can do with less: no place where the weight is 0 or that of one cell, and else one
-- place more than there are parts, heavy apart
abbrev pub IsEvidence : List ℕ → ℕ → ℕ → List ℕ → Type 0
IsEvidence weights stages weight [] = (weight ≡ 0) ⊎ Contains weights weight
IsEvidence weights stages weight (place ∷ places) =
    (length places ≡ stages) × AreHeavyApart weights weight place places

-- whatever weight and places are evidence, no division into so many parts is lighter
abbrev pub EvidenceSuffices : List ℕ → ℕ → Type 0
EvidenceSuffices weights stages =
    (weight : ℕ) (places : List ℕ) → IsEvidence weights stages weight places → NoneIsLighter weights stages weight
