use Rattle.std.proofs.Common.{sym, ap, ◌∙◌}
use Rattle.quartz_tree.specs.Surfaces.{written}
use Rattle.quartz_parser.specs.StatementViews.{opened, turn_state}
use Rattle.quartz_parser.proofs.statement.close.Goals as goal

pub returns-in_ok-block-in-Block-clause-is : goal.returns-in_ok-block-in-Block-clause-is
returns-in_ok-block-in-Block-clause-is c = λ k.
    ap (λ x. turn_state x k) c.at_once.ensures ∙ c.in_ok-block-in-Block.ensures k ∙ ap (λ w. opened w k (written c.args.inner)) (sym c.in-Block.is)
