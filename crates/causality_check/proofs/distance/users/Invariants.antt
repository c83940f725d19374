use Rattle.causality_check.specs.Shortest.{AreUsersBelow}
use Rattle.causality_check.proofs.distance.users.Given as goal

abbrev pub invariant-loop-cell : goal.invariant-loop-cell
invariant-loop-cell l = AreUsersBelow l.graph l.cell l.users.items
