use Rattle.std.proofs.Common.{ap, sym, ◌∙◌, Some, None, arith}
use Rattle.quartz_parser.specs.Views.{token}
use Rattle.quartz_parser.specs.StatementViews.{open_next}
use Rattle.quartz_parser.proofs.Frames.{also, passed}
use Rattle.quartz_parser.proofs.TokenLemmas.{ready_bars, ready_brace, ready_other}
use Rattle.quartz_parser.proofs.statement.ready.Goals as goal

pub returns-in_ok-block : goal.returns-in_ok-block
returns-in_ok-block c = λ k.
    c.take.ensures (open_next c.args.frames.now.items k)
    ∙ ap Some (c.in_ok-block.ensures (open_next c.args.frames.now.items k))
    ∙ sym (ready_bars _ _ _ _ _ (token c.args.item c.args.place) (sym (c.is_mark.ensures c.args.place) ∙ c.if-is_mark.true))

pub returns-then-block-gt0 : goal.returns-then-block-gt0
returns-then-block-gt0 c =
    also c.go_on.result c.go_on.ensures
    (λ o h k. h k ∙ sym (passed 0 c.args.block.levels _ None (omega arith))
    ∙ sym (ready_other _ _ _ _ _ (token c.args.item c.args.place) (sym (c.is_mark.ensures c.args.place) ∙ c.if-is_mark.false) (sym (c.is_mark-else-is_mark.ensures c.args.place) ∙ c.if-is_mark-2.false)))
