use Rattle.std.proofs.Common.{ap, ◌∙◌}
use Rattle.quartz_tree.specs.declared.declare.Flow.TheVariants.{Output}
use Rattle.quartz_parser.specs.Grammar.{declared_as}
use Rattle.quartz_parser.specs.Machine.{param_more, step}
use Rattle.quartz_parser.specs.Views.{token}
use Rattle.quartz_parser.specs.HeadingViews.{params_next}
use Rattle.quartz_parser.proofs.heading.start.Goals as goal

pub returns-in_ok-last-in-Over : goal.returns-in_ok-last-in-Over
returns-in_ok-last-in-Over c = λ k.
    c.after_param.ensures c.add_param.new.header.name c.add_param.new.header.params.items c.args.place k
    ∙ ap (λ s. step s (token c.args.item c.args.place)) (c.in_ok-last-in-Over.ensures.is k)
    ∙ c.in-Over.ensures (λ i. param_more c.args.header.now.params.items (params_next c.args.header.now.name k) (declared_as c.args.typing Output c.args.name c.args.at i))
