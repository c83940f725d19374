use Rattle.std.proofs.Common.{ℕ, List}
use Rattle.stage_cut.proofs.GreedyLemmas.{Reaches}
use Rattle.stage_cut.proofs.parts.is_feasible.Given as goal

-- greedy parts have come to `end`
abbrev pub invariant-loop-stage : goal.invariant-loop-stage
invariant-loop-stage l = (ends : List ℕ) × Reaches l.weights l.bound l._stage ends l.end
