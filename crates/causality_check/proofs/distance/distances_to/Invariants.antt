use Rattle.std.proofs.Common.{◌+◌, length}
use Rattle.causality_check.specs.Shortest.{AreLevels, count_none}
use Rattle.causality_check.proofs.distance.distances_to.Given as goal

abbrev pub invariant-loop-alloc : goal.invariant-loop-alloc
invariant-loop-alloc l = AreLevels l.graph l.goal l.distances.items l.front l.level

abbrev pub decreases-loop-alloc : goal.decreases-loop-alloc
decreases-loop-alloc l = count_none l.distances.items + length l.front
