use Rattle.std.proofs.Common.{ℕ, ◌<◌, All, length}
use Rattle.causality_check.specs.Graph.{row}
use Rattle.causality_check.proofs.named.is_closed.Given as goal

abbrev pub invariant-loop-row : goal.invariant-loop-row
invariant-loop-row l = (k : ℕ) → k < l.row-index → All (λ d. d < length l.graph) (row l.graph k)
