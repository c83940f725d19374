use Rattle.std.proofs.Common.{None}
use Rattle.quartz_parser.specs.Machine.{flow, param_more}
use Rattle.quartz_parser.specs.HeadingViews.{params_next}
use Rattle.quartz_parser.proofs.heading.begin_param.Goals as goal

pub returns-in-Some : goal.returns-in-Some
returns-in-Some c = λ x ds p k. c.in-Some.ensures _ None p

pub returns-in-None : goal.returns-in-None
returns-in-None c = λ x ds p k. c.in-None.ensures (λ ty. flow ty (param_more ds (params_next x k))) None p
