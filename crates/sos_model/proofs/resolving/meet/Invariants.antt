use Rattle.std.proofs.Common.{◌≡◌, ◌++◌, drop, map}
use Rattle.quartz_expr.specs.React.{meetings}
use Rattle.sos_model.specs.Found.{met_of}
use Rattle.sos_model.proofs.resolving.meet.Given as goal

abbrev pub invariant-loop-at : goal.invariant-loop-at
invariant-loop-at l = meetings l.var l.given l.wanted ≡ map met_of l.all.items ++ meetings l.var (drop l.at l.given) (drop l.at l.wanted)
