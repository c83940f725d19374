use Rattle.std.proofs.Common.{◌≡◌}
use Rattle.quartz_parser.specs.Machine.{ended}
use Rattle.quartz_parser.specs.ReaderViews.{control_state, control_weight}
use Rattle.quartz_parser.proofs.reader.end_reading.Given as goal

abbrev pub invariant-loop-next : goal.invariant-loop-next
invariant-loop-next l = ended (control_state l.many l.control l.reader) ≡ ended (control_state l.many l.initial.control l.initial.reader)

abbrev pub decreases-loop-next : goal.decreases-loop-next
decreases-loop-next l = control_weight l.control l.reader
