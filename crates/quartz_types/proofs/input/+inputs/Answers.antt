use Rattle.std.proofs.Common.{◌∙◌, ap, sym, map, drop, ◌+◌, arith}
use Rattle.quartz_tree.specs.Kernel.{kernel, kernels}
use Rattle.quartz_tree.specs.Least.{least_place, lesser_place}
use Rattle.quartz_names.proofs.KernelLemmas.{kernel_choose}
use Rattle.quartz_names.proofs.WalkLemmas.{left_from}
use Rattle.quartz_types.specs.Rules.{all_input_writes, input_writes}
use Rattle.quartz_types.proofs.LeastSteps.{least_step, least_two}
use Rattle.quartz_types.proofs.input.+inputs.Goals as goal

pub least_in_parts-loop-stmt-preserved : goal.least_in_parts-loop-stmt-preserved
least_in_parts-loop-stmt-preserved t c =
    least_step c.loop-stmt.least c.lesser_place-least.result _ (input_writes c.args.vars.now (kernel c.stmt-item.result)) (all_input_writes c.args.vars.now (kernels (map kernel (drop (c.loop-stmt.stmt-index + 1) c.args.stmts.now))))
    (c.loop-stmt.invariant ∙ ap (λ l. lesser_place c.loop-stmt.least (least_place (all_input_writes c.args.vars.now (kernels (map kernel l))))) (left_from c.args.stmts.now c.loop-stmt.stmt-index c.stmt-item.result (omega arith) c.stmt-item.is))
    (c.lesser_place-least.ensures ∙ ap (lesser_place c.loop-stmt.least) c.least_input_write.ensures)

pub least_inside-returns-in-Choose : goal.least_inside-returns-in-Choose
least_inside-returns-in-Choose t c =
    least_two c.least_input_write.result c.least_input_write-in-Choose.result c.lesser_place.result (input_writes c.args.vars.now (kernel c.in-Choose.yes.value)) (input_writes c.args.vars.now (kernel c.in-Choose.no.value))
    (c.least_input_write.ensures ∙ ap (λ s. least_place (input_writes c.args.vars.now (kernel s))) c.deref.ensures)
    (c.least_input_write-in-Choose.ensures ∙ ap (λ s. least_place (input_writes c.args.vars.now (kernel s))) c.deref-in-Choose.ensures)
    c.lesser_place.ensures
    ∙ ap (λ k. least_place (input_writes c.args.vars.now k)) (sym (ap kernel c.in-Choose.is ∙ kernel_choose c.in-Choose.cond c.in-Choose.yes c.in-Choose.no))
