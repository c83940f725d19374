use Rattle.std.proofs.Common.{ap, ◌∙◌, Some, None}
use Rattle.quartz_tree.specs.declared.declare.Flow.TheVariants.{Input}
use Rattle.quartz_parser.specs.Grammar.{declared_as}
use Rattle.quartz_parser.specs.Machine.{param_more}
use Rattle.quartz_parser.specs.HeadingViews.{params_next}
use Rattle.quartz_parser.proofs.heading.input.Goals as goal

pub returns-in_ok-last-in-Name : goal.returns-in_ok-last-in-Name
returns-in_ok-last-in-Name c = λ k.
    rw c.in-Name.is
    (ap Some (c.in_ok-last-in-Name.ensures.is k)
    ∙ ap (λ v. Some (param_more c.args.header.now.params.items (params_next c.args.header.now.name k) (declared_as c.args.typing Input v c.args.place None))) c.in_ok-name-in-Name.ensures)
