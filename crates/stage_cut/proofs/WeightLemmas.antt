-- The weight between two places, by the weights of the cells before each.
use Rattle.std.proofs.Common.{◌≡◌, ℕ, ◌+◌, ◌-◌, ◌<◌, ◌≤◌, List, length, sum, take, drop, get_or, arith, sym, ap, ◌∙◌}
use Rattle.std.proofs.Math.Seq.{take-add}
use Rattle.std.proofs.lemmas.List.Sums.{sum_by-append, sum_by_more}
use Rattle.stage_cut.specs.Division.{weight_between}

-- the cells before the first place and those between the two are the cells before the second
pub weight_up_to : (weights : List ℕ) (from to : ℕ) → from ≤ to
    → sum (take from weights) + weight_between weights from to ≡ sum (take to weights)
weight_up_to weights from to rises =
    let whole : from + (to - from) ≡ to = omega arith in
    sym (sum_by-append (λ x. x) (take from weights) (take (to - from) (drop from weights)))
    ∙ ap sum (sym (take-add from (to - from) weights))
    ∙ ap (λ n. sum (take n weights)) whole

-- no cell stands between a place and itself
pub weight_between_none : (weights : List ℕ) (at : ℕ) → weight_between weights at at ≡ 0
weight_between_none weights at =
    let e = weight_up_to weights at at (omega arith) in omega arith

-- the next cell adds its weight
pub weight_between_more : (weights : List ℕ) (from to : ℕ) → from ≤ to → to < length weights
    → weight_between weights from (to + 1) ≡ weight_between weights from to + get_or weights to 0
weight_between_more weights from to rises within =
    let before = weight_up_to weights from to rises in
    let after = weight_up_to weights from (to + 1) (omega arith) in
    let step = sum_by_more (λ x. x) weights to 0 within in
    omega arith

-- a part inside another weighs no more
pub weight_between_inside : (weights : List ℕ) (low from to high : ℕ) → low ≤ from → from ≤ to → to ≤ high
    → weight_between weights from to ≤ weight_between weights low high
weight_between_inside weights low from to high below rises above =
    let inner = weight_up_to weights from to rises in
    let outer = weight_up_to weights low high (omega arith) in
    let left = weight_up_to weights low from below in
    let right = weight_up_to weights to high above in
    omega arith

-- one cell alone
pub weight_between_one : (weights : List ℕ) (at : ℕ) → at < length weights → weight_between weights at (at + 1) ≡ get_or weights at 0
weight_between_one weights at within =
    let none = weight_between_none weights at in
    let more = weight_between_more weights at at (omega arith) within in
    omega arith
