use Rattle.std.proofs.Common.{ap, Some}
use Rattle.quartz_parser.proofs.Frames.{nested}
use Rattle.quartz_parser.proofs.expression.nest.Goals as goal

pub returns-clause-is : goal.returns-clause-is
returns-clause-is c = λ t k. ap Some (nested c.args.pending.now.items _ (record { begun = c.args.begun; room = c.args.room; place = c.args.place }) c.args.marks c.args.row _ k c.in_ok-push.ensures.items c.saturating_sub.ensures)
