use Rattle.std.proofs.Common.{sym, ◌∙◌, ap, Some, []}
use Rattle.quartz_parser.specs.Views.{token}
use Rattle.quartz_parser.specs.HeadingViews.{params_next, course}
use Rattle.quartz_parser.proofs.HeadingLemmas.{first_closes, first_goes}
use Rattle.quartz_parser.proofs.heading.first.Goals as goal

pub returns-then-is_mark : goal.returns-then-is_mark
returns-then-is_mark c = λ p k.
    ap (λ ds. Some (params_next c.args.header.now.name k ds)) c.new.ensures.items
    ∙ first_closes (params_next c.args.header.now.name k) (token c.args.item p) (sym (c.is_mark.ensures p) ∙ c.if-is_mark.true)

pub returns-else-is_mark : goal.returns-else-is_mark
returns-else-is_mark c = λ p k.
    ap (λ ds. course c.begin_param.result c.args.header.now.name ds k) c.new.ensures.items
    ∙ c.begin_param.ensures c.args.header.now.name [] p k
    ∙ first_goes (params_next c.args.header.now.name k) (token c.args.item p) (sym (c.is_mark.ensures p) ∙ c.if-is_mark.false)
