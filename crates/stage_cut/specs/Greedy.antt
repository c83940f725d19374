-- Parts that are each as long as a bound on their weight allows.
use Rattle.std.specs.Prelude.{◌≡◌, ℕ, ◌≤◌, ◌<◌, List, [], ◌∷◌, length}
use Rattle.stage_cut.specs.Division.{weight_between}

-- the part from `from` to `end` keeps to the bound, and no longer part from there does
pub record IsLongestPart (weights : List ℕ) (bound from end : ℕ) : Type 0 where
  pub begins : from ≤ end
  pub within : end ≤ length weights
  pub fits : weight_between weights from end ≤ bound
  pub longest : (longer : ℕ) → end < longer → longer ≤ length weights → bound < weight_between weights from longer

-- the parts that end at these places, the first beginning at `from`, are each in turn as long as the bound allows
abbrev pub IsGreedy : List ℕ → ℕ → ℕ → List ℕ → Type 0
IsGreedy weights bound from [] = Unit {0}
IsGreedy weights bound from (end ∷ ends) = IsLongestPart weights bound from end × IsGreedy weights bound end ends

-- so many parts from the first cell on, each in turn as long as the bound allows
pub record IsGreedyRun (weights : List ℕ) (bound count : ℕ) (ends : List ℕ) : Type 0 where
  pub count_is : length ends ≡ count
  pub greedy : IsGreedy weights bound 0 ends

-- the places at which the first parts begin that are each in turn as long as the bound allows
abbrev pub AreGreedyStarts : List ℕ → ℕ → List ℕ → Type 0
AreGreedyStarts weights bound [] = Unit {0}
AreGreedyStarts weights bound (first ∷ others) = (first ≡ 0) × IsGreedy weights bound first others
