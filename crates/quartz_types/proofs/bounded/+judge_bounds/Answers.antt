use Rattle.std.proofs.Common.{◌∙◌, ap}
use Rattle.quartz_expr.specs.Kinds.{kind}
use Rattle.quartz_tree.specs.Tree.{tree}
use Rattle.quartz_types.proofs.WidthLemmas.{choice_is}
use Rattle.quartz_types.proofs.bounded.+judge_bounds.Goals as goal

pub returns-in-Choice-clause-kind : goal.returns-in-Choice-clause-kind
returns-in-Choice-clause-kind t c =
    choice_is c.args.vars.now (tree c.args.e.now) (tree c.in-Choice.cond.value) (tree c.in-Choice.yes.value) (tree c.in-Choice.no.value) c.in-Choice.place
    c.judge_bounds-cond.result.kind c.judge_bounds-yes.result.kind c.judge_bounds-no.result.kind c.in_bounds-in-Choice.result.kind
    (ap tree c.in-Choice.is)
    (c.judge_bounds-cond.ensures.kind ∙ ap (λ s. kind c.args.vars.now (tree s)) c.deref-in-Choice.ensures)
    (c.judge_bounds-yes.ensures.kind ∙ ap (λ s. kind c.args.vars.now (tree s)) c.deref-in-Choice-2.ensures)
    (c.judge_bounds-no.ensures.kind ∙ ap (λ s. kind c.args.vars.now (tree s)) c.deref-in-Choice-3.ensures)
    (c.in_bounds-in-Choice.ensures.kind ∙ c.kind_of_choice.ensures)
