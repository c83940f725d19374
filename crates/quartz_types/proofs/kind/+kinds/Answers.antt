use Rattle.std.proofs.Common.{◌∙◌, ap, sym, map, drop, ◌+◌, arith}
use Rattle.quartz_tree.specs.Kernel.{kernel, kernels}
use Rattle.quartz_tree.specs.Least.{least_place, lesser_place}
use Rattle.quartz_tree.specs.Tree.{tree}
use Rattle.quartz_names.proofs.KernelLemmas.{kernel_choose, kernel_loop, kernel_guard}
use Rattle.quartz_names.proofs.WalkLemmas.{left_from}
use Rattle.quartz_types.specs.Rules.{condition_kind_breaks, stmt_kind_breaks, stmts_kind_breaks}
use Rattle.quartz_types.proofs.LeastSteps.{least_step, least_three, least_two}
use Rattle.quartz_types.proofs.kind.+kinds.Goals as goal

pub least_in_parts-loop-stmt-preserved : goal.least_in_parts-loop-stmt-preserved
least_in_parts-loop-stmt-preserved t c =
    least_step c.loop-stmt.least c.lesser_place-least.result _ (stmt_kind_breaks c.args.vars.now (kernel c.stmt-item.result)) (stmts_kind_breaks c.args.vars.now (kernels (map kernel (drop (c.loop-stmt.stmt-index + 1) c.args.stmts.now))))
    (c.loop-stmt.invariant ∙ ap (λ l. lesser_place c.loop-stmt.least (least_place (stmts_kind_breaks c.args.vars.now (kernels (map kernel l))))) (left_from c.args.stmts.now c.loop-stmt.stmt-index c.stmt-item.result (omega arith) c.stmt-item.is))
    (c.lesser_place-least.ensures ∙ ap (lesser_place c.loop-stmt.least) c.least_kind_break.ensures)

pub least_inside-returns-in-Choose : goal.least_inside-returns-in-Choose
least_inside-returns-in-Choose t c =
    least_three c.least_condition_break-cond.result c.least_kind_break-yes.result c.least_kind_break-no.result c.lesser_place-in-Choose.result c.lesser_place.result
    (condition_kind_breaks c.args.vars.now (tree c.in-Choose.cond)) (stmt_kind_breaks c.args.vars.now (kernel c.in-Choose.yes.value)) (stmt_kind_breaks c.args.vars.now (kernel c.in-Choose.no.value))
    c.least_condition_break-cond.ensures
    (c.least_kind_break-yes.ensures ∙ ap (λ s. least_place (stmt_kind_breaks c.args.vars.now (kernel s))) c.deref.ensures)
    (c.least_kind_break-no.ensures ∙ ap (λ s. least_place (stmt_kind_breaks c.args.vars.now (kernel s))) c.deref-in-Choose.ensures)
    c.lesser_place.ensures c.lesser_place-in-Choose.ensures
    ∙ ap (λ k. least_place (stmt_kind_breaks c.args.vars.now k)) (sym (ap kernel c.in-Choose.is ∙ kernel_choose c.in-Choose.cond c.in-Choose.yes c.in-Choose.no))

pub least_inside-returns-in-Loop : goal.least_inside-returns-in-Loop
least_inside-returns-in-Loop t c =
    least_two c.least_kind_break-body.result c.least_condition_break.result c.lesser_place-in-Loop.result (stmt_kind_breaks c.args.vars.now (kernel c.in-Loop.body.value)) (condition_kind_breaks c.args.vars.now (tree c.in-Loop.cond))
    (c.least_kind_break-body.ensures ∙ ap (λ s. least_place (stmt_kind_breaks c.args.vars.now (kernel s))) c.deref-in-Loop.ensures)
    c.least_condition_break.ensures c.lesser_place-in-Loop.ensures
    ∙ ap (λ k. least_place (stmt_kind_breaks c.args.vars.now k)) (sym (ap kernel c.in-Loop.is ∙ kernel_loop c.in-Loop.body c.in-Loop.cond c.in-Loop.place))

pub least_inside-returns-in-Guard : goal.least_inside-returns-in-Guard
least_inside-returns-in-Guard t c =
    least_two c.least_kind_break-body-in-Guard.result c.least_condition_break-in-Guard.result c.lesser_place-in-Guard.result (stmt_kind_breaks c.args.vars.now (kernel c.in-Guard.body.value)) (condition_kind_breaks c.args.vars.now (tree c.in-Guard.cond))
    (c.least_kind_break-body-in-Guard.ensures ∙ ap (λ s. least_place (stmt_kind_breaks c.args.vars.now (kernel s))) c.deref-in-Guard.ensures)
    c.least_condition_break-in-Guard.ensures c.lesser_place-in-Guard.ensures
    ∙ ap (λ k. least_place (stmt_kind_breaks c.args.vars.now k)) (sym (ap kernel c.in-Guard.is ∙ kernel_guard c.in-Guard.abort c.in-Guard.weak c.in-Guard.immediate c.in-Guard.body c.in-Guard.cond))
