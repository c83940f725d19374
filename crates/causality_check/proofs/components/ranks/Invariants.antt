use Rattle.std.proofs.Common.{◌≡◌, map, take}
use Rattle.causality_check.specs.Search.{rank_of}
use Rattle.causality_check.proofs.components.ranks.Given as goal

abbrev pub invariant-loop-mark : goal.invariant-loop-mark
invariant-loop-mark l = l.ranks.items ≡ map rank_of (take l.mark-index l.marks)
