use Rattle.std.proofs.Common.{sym, ◌∙◌}
use Rattle.quartz_parser.proofs.Frames.{also, if_true}
use Rattle.quartz_parser.specs.declared.symbol.Mark.TheVariants.{Question}
use Rattle.quartz_parser.specs.Tokens.{mark}
use Rattle.quartz_parser.proofs.expression.choose.Goals as goal

pub returns-then-may_follow-clause-is : goal.returns-then-may_follow-clause-is
returns-then-may_follow-clause-is c =
    also c.nest.result c.nest.ensures.is (λ o h k. h (mark Question c.args.place) k ∙ if_true _ _ _ (sym c.may_follow.ensures ∙ c.if-may_follow.true))
