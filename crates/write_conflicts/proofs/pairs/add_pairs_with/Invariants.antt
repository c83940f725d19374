use Rattle.std.proofs.Common.{length, take}
use Rattle.write_conflicts.specs.Pairs.{scene}
use Rattle.write_conflicts.specs.Tallies.{IsSeen, IsTally}
use Rattle.write_conflicts.proofs.pairs.add_pairs_with.Given as goal

abbrev pub invariant-loop-first : goal.invariant-loop-first
invariant-loop-first l = IsTally (scene l.aif) l.aif.actions (length l.aif.vars) (IsSeen (take l.first-index l.earlier) l.second) l.found
