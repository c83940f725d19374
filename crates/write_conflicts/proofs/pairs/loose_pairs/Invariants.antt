use Rattle.std.proofs.Common.{[], length}
use Rattle.write_conflicts.specs.Pairs.{scene}
use Rattle.write_conflicts.specs.Tallies.{AreByVariable, IsSeen, IsTally}
use Rattle.write_conflicts.proofs.pairs.loose_pairs.Given as goal

abbrev pub invariant-loop-second : goal.invariant-loop-second
invariant-loop-second l = record {
  rows : AreByVariable l.aif.actions (length l.aif.vars) l.second l.rows.items;
  tally : IsTally (scene l.aif) l.aif.actions (length l.aif.vars) (IsSeen [] l.second) l.found;
}
