use Rattle.std.proofs.Common.{◌≡◌, [], replicate}
use Rattle.causality_check.proofs.turns.empty_lists.Given as goal

abbrev pub invariant-loop-list : goal.invariant-loop-list
invariant-loop-list l = l.lists.items ≡ replicate l._list []
