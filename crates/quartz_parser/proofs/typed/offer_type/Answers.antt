use Rattle.std.proofs.Common.{None}
use Rattle.quartz_parser.proofs.typed.offer_type.Goals as goal

pub returns-in-Some-base : goal.returns-in-Some-base
returns-in-Some-base c = λ next. rw c.in-Element.is (c.in-Some-base.ensures next None c.args.place)

pub returns-in-None-base : goal.returns-in-None-base
returns-in-None-base c = λ next. rw c.in-Element.is (c.in-None-base.ensures next None c.args.place)
