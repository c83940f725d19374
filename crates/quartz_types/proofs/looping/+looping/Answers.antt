use Rattle.std.proofs.Common.{◌∙◌, ◌&&◌, ap, sym, map, drop, ◌+◌, arith}
use Rattle.quartz_expr.specs.Terms.{are_instant, is_instant, term_of, terms_of}
use Rattle.quartz_tree.specs.Kernel.{kernel, kernels}
use Rattle.quartz_tree.specs.Least.{least_place, lesser_place}
use Rattle.quartz_names.proofs.KernelLemmas.{kernel_choose}
use Rattle.quartz_names.proofs.WalkLemmas.{left_from}
use Rattle.quartz_types.specs.Rules.{all_instant_loops, instant_loops}
use Rattle.quartz_types.proofs.LeastSteps.{and_step, least_step, least_two}
use Rattle.quartz_types.proofs.looping.+looping.Goals as goal

pub all_looping-loop-stmt-preserved : goal.all_looping-loop-stmt-preserved
all_looping-loop-stmt-preserved t c = record {
  instant =
      and_step c.loop-stmt.all.instant c.both-all.result.instant _ (is_instant (term_of (kernel c.stmt-item.result))) (are_instant (terms_of (kernels (map kernel (drop (c.loop-stmt.stmt-index + 1) c.args.stmts.now)))))
      (c.loop-stmt.invariant.instant ∙ ap (λ l. c.loop-stmt.all.instant && are_instant (terms_of (kernels (map kernel l)))) (left_from c.args.stmts.now c.loop-stmt.stmt-index c.stmt-item.result (omega arith) c.stmt-item.is))
      (c.both-all.ensures.instant ∙ ap (λ b. c.loop-stmt.all.instant && b) c.looping.ensures.instant);
  broken =
      least_step c.loop-stmt.all.broken c.both-all.result.broken _ (instant_loops (kernel c.stmt-item.result)) (all_instant_loops (kernels (map kernel (drop (c.loop-stmt.stmt-index + 1) c.args.stmts.now))))
      (c.loop-stmt.invariant.broken ∙ ap (λ l. lesser_place c.loop-stmt.all.broken (least_place (all_instant_loops (kernels (map kernel l))))) (left_from c.args.stmts.now c.loop-stmt.stmt-index c.stmt-item.result (omega arith) c.stmt-item.is))
      (c.both-all.ensures.broken ∙ ap (lesser_place c.loop-stmt.all.broken) c.looping.ensures.broken);
}

pub looping_inside-returns-in-Choose-clause-broken : goal.looping_inside-returns-in-Choose-clause-broken
looping_inside-returns-in-Choose-clause-broken t c =
    least_two c.looping.result.broken c.looping-in-Choose.result.broken c.either.result.broken (instant_loops (kernel c.in-Choose.yes.value)) (instant_loops (kernel c.in-Choose.no.value))
    (c.looping.ensures.broken ∙ ap (λ s. least_place (instant_loops (kernel s))) c.deref.ensures)
    (c.looping-in-Choose.ensures.broken ∙ ap (λ s. least_place (instant_loops (kernel s))) c.deref-in-Choose.ensures)
    c.either.ensures.broken
    ∙ ap (λ k. least_place (instant_loops k)) (sym (ap kernel c.in-Choose.is ∙ kernel_choose c.in-Choose.cond c.in-Choose.yes c.in-Choose.no))
