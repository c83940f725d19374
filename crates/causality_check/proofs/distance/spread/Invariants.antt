use Rattle.std.proofs.Common.{take, []}
use Rattle.causality_check.specs.Shortest.{AreMarked, users_of}
use Rattle.causality_check.proofs.distance.spread.Given as goal

abbrev pub invariant-loop-cell : goal.invariant-loop-cell
invariant-loop-cell l = AreMarked (users_of l.users (take l.cell-index l.front)) l.level l.initial.distances l.distances [] l.next
