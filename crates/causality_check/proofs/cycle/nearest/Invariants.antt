use Rattle.std.proofs.Common.{take}
use Rattle.causality_check.specs.Shortest.{NearestIs}
use Rattle.causality_check.proofs.cycle.nearest.Given as goal

abbrev pub invariant-loop-cell : goal.invariant-loop-cell
invariant-loop-cell l = NearestIs l.distances (take l.cell-index l.cells) l.best
