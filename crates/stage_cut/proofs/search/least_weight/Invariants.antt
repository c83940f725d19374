use Rattle.std.proofs.Common.{ℕ, ◌-◌, ◌<◌, ◌≤◌}
use Rattle.stage_cut.specs.Division.{IsFeasible}
use Rattle.stage_cut.proofs.search.least_weight.Given as goal

-- the least feasible bound is from `low` to `high`
abbrev pub invariant-loop-low : goal.invariant-loop-low
invariant-loop-low l = record {
  ordered : l.low ≤ l.high;
  feasible : IsFeasible l.weights l.stages l.high;
  infeasible : (bound : ℕ) → bound < l.low → ¬ IsFeasible l.weights l.stages bound;
}

abbrev pub decreases-loop-low : goal.decreases-loop-low
decreases-loop-low l = l.high - l.low
