use Rattle.std.proofs.Common.{length, ◌-◌, ◌≤◌, take}
use Rattle.outside.specs.Bytes.{Gains}
use Rattle.outside.proofs.sink.put_whole.Given as goal

abbrev pub invariant-loop-at : goal.invariant-loop-at
invariant-loop-at g l = record {
  within : l.at ≤ length l.piece;
  never_falls : g.O.Sink.faults l.initial.out ≤ g.O.Sink.faults l.out;
  gained : Gains (g.O.Sink.stands l.initial.out) (g.O.Sink.stands l.out) (take l.at l.piece);
}

abbrev pub decreases-loop-at : goal.decreases-loop-at
decreases-loop-at g l = length l.piece - l.at
