use Rattle.std.proofs.Common.{sym, ◌∙◌, ap}
use Rattle.quartz_parser.proofs.Frames.{also}
use Rattle.quartz_parser.proofs.TokenLemmas.{index_opens, no_index_opens}
use Rattle.quartz_parser.specs.Machine.{step, tail_on}
use Rattle.quartz_parser.specs.Views.{token, expr_next}
use Rattle.quartz_parser.proofs.expression.after_name.Goals as goal

pub returns-then-is_mark-clause-is : goal.returns-then-is_mark-clause-is
returns-then-is_mark-clause-is c =
    also c.begin.result c.begin.ensures.is (λ o h k. h (token c.args.item c.args.place) k ∙ sym (index_opens _ _ _ _ _ (token c.args.item c.args.place) _ (sym (c.is_mark.ensures c.args.place) ∙ c.if-is_mark.true)))

pub returns-else-is_mark-clause-is : goal.returns-else-is_mark-clause-is
returns-else-is_mark-clause-is c =
    also c.tail.result c.tail.ensures.is
    (λ o h k. h k ∙ ap (λ e. tail_on c.args.room.row c.args.room.levels e (expr_next c.args.pending.now.items k) (token c.args.item c.args.place) (step (expr_next c.args.pending.now.items k e) (token c.args.item c.args.place))) c.variable.ensures
    ∙ sym (no_index_opens _ _ _ _ _ (token c.args.item c.args.place) _ (sym (c.is_mark.ensures c.args.place) ∙ c.if-is_mark.false)))
