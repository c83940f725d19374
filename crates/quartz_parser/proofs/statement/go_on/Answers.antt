use Rattle.std.proofs.Common.{ap, ◌∙◌}
use Rattle.quartz_parser.specs.declared.statement.Open.TheVariants.{Block}
use Rattle.quartz_parser.specs.Machine.{stmt_on}
use Rattle.quartz_parser.specs.Views.{token}
use Rattle.quartz_parser.proofs.Frames.{also, open_pushed}
use Rattle.quartz_parser.proofs.statement.go_on.Goals as goal

pub returns : goal.returns
returns c =
    also c.begin.result c.begin.ensures
    (λ o h k. h k ∙ ap (λ f. stmt_on c.args.block.levels f (token c.args.item c.args.place)) (open_pushed c.args.frames.now.items _ (Block c.args.block) k c.in_ok-push.ensures.items))
