use Rattle.std.proofs.Common.{ap, Some, ◌∙◌, ◌-◌}
use Rattle.quartz_parser.specs.Machine.{stmt}
use Rattle.quartz_parser.specs.StatementViews.{opened, open_next}
use Rattle.quartz_parser.proofs.Frames.{open_pushed}
use Rattle.quartz_parser.proofs.statement.nest.Goals as goal

pub returns : goal.returns
returns c = λ k.
    c.take.ensures (open_next c.push.new.self.items k)
    ∙ ap (λ n. Some (stmt n (open_next c.push.new.self.items k))) c.saturating_sub.ensures
    ∙ ap (λ f. Some (stmt (c.args.levels - 1) f)) (open_pushed c.args.frames.now.items c.push.new.self.items c.args.waiting k c.in_ok-push.ensures.items)
