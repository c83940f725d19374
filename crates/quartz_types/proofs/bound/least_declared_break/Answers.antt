use Rattle.std.proofs.Common.{◌∙◌, ◌++◌, ap, drop, ◌+◌, arith}
use Rattle.quartz_expr.specs.Intervals.{type_breaks}
use Rattle.quartz_tree.specs.Least.{least_place, lesser_place}
use Rattle.quartz_names.proofs.WalkLemmas.{left_from}
use Rattle.quartz_types.specs.Rules.{declared_bound_breaks, init_bound_breaks}
use Rattle.quartz_types.proofs.LeastSteps.{least_step, least_two}
use Rattle.quartz_types.proofs.bound.least_declared_break.Goals as goal

pub loop-var-preserved : goal.loop-var-preserved
loop-var-preserved c =
    least_step c.loop-var.least c.lesser_place-least.result _ (type_breaks c.var-item.result.decl ++ init_bound_breaks c.var-item.result.decl.ty c.var-item.result.decl.init) (declared_bound_breaks (drop (c.loop-var.var-index + 1) c.args.vars.now))
    (c.loop-var.invariant ∙ ap (λ l. lesser_place c.loop-var.least (least_place (declared_bound_breaks l))) (left_from c.args.vars.now c.loop-var.var-index c.var-item.result (omega arith) c.var-item.is))
    (c.lesser_place-least.ensures ∙ ap (lesser_place c.loop-var.least)
    (least_two c.least_type_break.result c.least_init_break-constant.result c.lesser_place-own.result (type_breaks c.var-item.result.decl) (init_bound_breaks c.var-item.result.decl.ty c.var-item.result.decl.init)
    c.least_type_break.ensures c.least_init_break-constant.ensures c.lesser_place-own.ensures))
