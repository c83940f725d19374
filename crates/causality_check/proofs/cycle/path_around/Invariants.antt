use Rattle.std.proofs.Common.{ℕ, unwrap_or}
use Rattle.causality_check.specs.Shortest.{IsUnderway, distance_at}
use Rattle.causality_check.proofs.cycle.path_around.Given as goal

abbrev pub invariant-loop-next : goal.invariant-loop-next
invariant-loop-next l = (k : ℕ) × (n : ℕ) × IsUnderway l.graph l.distances l.start l.path k n l.next

abbrev pub decreases-loop-next : goal.decreases-loop-next
decreases-loop-next l = unwrap_or (distance_at l.distances l.next) 0
