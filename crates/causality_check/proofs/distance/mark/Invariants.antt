use Rattle.std.proofs.Common.{take}
use Rattle.causality_check.specs.Shortest.{AreMarked}
use Rattle.causality_check.proofs.distance.mark.Given as goal

abbrev pub invariant-loop-cell : goal.invariant-loop-cell
invariant-loop-cell l = AreMarked (take l.cell-index l.cells) l.level l.initial.distances l.distances l.initial.noted l.noted
