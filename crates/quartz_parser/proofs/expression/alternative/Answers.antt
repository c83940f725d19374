use Rattle.quartz_parser.specs.declared.expression.Begun.TheVariants.{No}
use Rattle.quartz_parser.specs.declared.marks.Marks.TheVariants.{One}
use Rattle.quartz_parser.specs.declared.symbol.Mark.TheVariants.{Colon}
use Rattle.quartz_parser.proofs.Frames.{nested}
use Rattle.quartz_parser.proofs.expression.alternative.Goals as goal

pub returns-clause-is : goal.returns-clause-is
returns-clause-is c = λ k. nested c.args.pending.now.items _ (record { begun = No c.args.cond c.args.yes; room = c.args.room; place = c.args.place }) (One Colon) 0 _ k c.in_ok-push.ensures.items c.saturating_sub.ensures
