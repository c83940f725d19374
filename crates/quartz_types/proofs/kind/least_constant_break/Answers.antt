use Rattle.std.proofs.Common.{◌∙◌, ap, drop, ◌+◌, arith}
use Rattle.quartz_tree.specs.Least.{least_place, lesser_place}
use Rattle.quartz_names.proofs.WalkLemmas.{left_from}
use Rattle.quartz_types.specs.Rules.{constant_kind_breaks, init_kind_breaks}
use Rattle.quartz_types.proofs.LeastSteps.{least_step}
use Rattle.quartz_types.proofs.kind.least_constant_break.Goals as goal

pub loop-var-preserved : goal.loop-var-preserved
loop-var-preserved c =
    least_step c.loop-var.least c.lesser_place-least.result _ (init_kind_breaks c.var-item.result.decl.ty c.var-item.result.decl.init) (constant_kind_breaks (drop (c.loop-var.var-index + 1) c.args.vars.now))
    (c.loop-var.invariant ∙ ap (λ l. lesser_place c.loop-var.least (least_place (constant_kind_breaks l))) (left_from c.args.vars.now c.loop-var.var-index c.var-item.result (omega arith) c.var-item.is))
    (c.lesser_place-least.ensures ∙ ap (lesser_place c.loop-var.least) c.least_init_break.ensures)
