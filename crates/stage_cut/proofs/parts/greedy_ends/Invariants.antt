use Rattle.stage_cut.proofs.GreedyLemmas.{Reaches}
use Rattle.stage_cut.proofs.parts.greedy_ends.Given as goal

-- the ends so far are those of greedy parts, which have come to `end`
abbrev pub invariant-loop-stage : goal.invariant-loop-stage
invariant-loop-stage l = Reaches l.weights l.bound l._stage l.ends.items l.end
