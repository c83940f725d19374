use Rattle.std.proofs.Common.{◌≡◌}
use Rattle.quartz_parser.specs.Machine.{step}
use Rattle.quartz_parser.specs.Views.{token}
use Rattle.quartz_parser.specs.ReaderViews.{control_state, control_weight}
use Rattle.quartz_parser.proofs.reader.take.Given as goal

abbrev pub invariant-loop-next : goal.invariant-loop-next
invariant-loop-next l = step (control_state l.many l.control l.reader) (token l.item l.place) ≡ step (control_state l.many l.initial.control l.initial.reader) (token l.item l.place)

abbrev pub decreases-loop-next : goal.decreases-loop-next
decreases-loop-next l = control_weight l.control l.reader
