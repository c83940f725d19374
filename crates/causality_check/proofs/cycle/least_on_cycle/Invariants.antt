use Rattle.std.proofs.Common.{ℕ, ◌<◌}
use Rattle.causality_check.specs.Graph.{row}
use Rattle.causality_check.specs.Shortest.{NeedsOwn}
use Rattle.causality_check.proofs.cycle.least_on_cycle.Given as goal

abbrev pub invariant-loop-cell : goal.invariant-loop-cell
invariant-loop-cell l = (j : ℕ) → j < l.cell → NeedsOwn l.ranks j (row l.graph j) → ⊥
