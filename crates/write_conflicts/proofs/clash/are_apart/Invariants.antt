use Rattle.std.proofs.Common.{◌≡◌, drop}
use Rattle.write_conflicts.specs.Clash.{are_apart}
use Rattle.write_conflicts.proofs.clash.are_apart.Given as goal

abbrev pub invariant-loop-at : goal.invariant-loop-at
invariant-loop-at l = are_apart l.way l.other ≡ are_apart (drop l.at l.way) (drop l.at l.other)
