use Rattle.std.proofs.Common.{◌∙◌}
use Rattle.quartz_tree.specs.Tree.{tree}
use Rattle.quartz_parser.specs.StatementViews.{open_next, wish_next}
use Rattle.quartz_parser.proofs.Frames.{expr_popped}
use Rattle.quartz_parser.proofs.statement.read.Goals as goal

pub returns-in_ok-next-in-Some-clause-is : goal.returns-in_ok-next-in-Some-clause-is
returns-in_ok-next-in-Some-clause-is c = λ k.
    c.in_ok-next-in-Some.ensures.is (wish_next c.args.wish (open_next c.args.frames.now.items k))
    ∙ expr_popped c.args.pending.items _ c.in-Some.waiting (wish_next c.args.wish (open_next c.args.frames.now.items k)) (tree c.args.expr.expr) c.in-Some.ensures.items
