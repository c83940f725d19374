use Rattle.std.proofs.Common.{ap, ◌∙◌, ◌-◌}
use Rattle.quartz_parser.specs.declared.symbol.Mark.TheVariants.{Close}
use Rattle.quartz_parser.specs.Machine.{expect, stmt}
use Rattle.quartz_parser.specs.StatementViews.{open_next}
use Rattle.quartz_parser.proofs.Frames.{open_pushed}
use Rattle.quartz_parser.proofs.statement.enter.Goals as goal

pub returns-clause-is : goal.returns-clause-is
returns-clause-is c = λ k.
    ap (λ n. expect Close (stmt n (open_next c.push.new.self.items k))) c.saturating_sub.ensures
    ∙ ap (λ f. expect Close (stmt (c.args.levels - 1) f)) (open_pushed c.args.frames.now.items c.push.new.self.items c.args.waiting k c.in_ok-push.ensures.items)
