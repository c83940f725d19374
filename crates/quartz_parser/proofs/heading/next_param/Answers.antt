use Rattle.std.proofs.Common.{sym, ◌∙◌, None}
use Rattle.quartz_parser.specs.Machine.{flow, head_on, param_more}
use Rattle.quartz_parser.specs.Views.{token}
use Rattle.quartz_parser.specs.HeadingViews.{params_next}
use Rattle.quartz_parser.proofs.HeadingLemmas.{flow_input, flow_none, flow_output}
use Rattle.quartz_parser.proofs.heading.next_param.Goals as goal

pub returns-then-is_mark : goal.returns-then-is_mark
returns-then-is_mark c = λ x ds p k.
    flow_input c.args.last (param_more ds (params_next x k)) (token c.args.item p) (head_on (λ ty. flow ty (param_more ds (params_next x k))) (token c.args.item p) None) (sym (c.is_mark.ensures p) ∙ c.if-is_mark.true)

pub returns-then-is_mark-2 : goal.returns-then-is_mark-2
returns-then-is_mark-2 c = λ x ds p k.
    flow_output c.args.last (param_more ds (params_next x k)) (token c.args.item p) (head_on (λ ty. flow ty (param_more ds (params_next x k))) (token c.args.item p) None) (sym (c.is_mark-else-is_mark.ensures p) ∙ c.if-is_mark-2.true)

pub returns-else-is_mark-2 : goal.returns-else-is_mark-2
returns-else-is_mark-2 c = λ x ds p k.
    c.begin_param.ensures x ds p k
    ∙ flow_none c.args.last (param_more ds (params_next x k)) (token c.args.item p) (head_on (λ ty. flow ty (param_more ds (params_next x k))) (token c.args.item p) None)
    (sym (c.is_mark.ensures p) ∙ c.if-is_mark.false) (sym (c.is_mark-else-is_mark.ensures p) ∙ c.if-is_mark-2.false)
