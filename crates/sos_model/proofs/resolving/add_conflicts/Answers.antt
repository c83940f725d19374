use Rattle.std.proofs.Common.{sym, ap, ◌∙◌, ◌++◌, List, drop, arith, rules, ◌+◌}
use Rattle.quartz_tree.specs.declared.fault.Fault.{Fault}
use Rattle.quartz_expr.specs.Resolve.{store_conflicts}
use Rattle.sos_model.proofs.ResolveLemmas.{conflicts_go_on}
use Rattle.sos_model.proofs.resolving.add_conflicts.Goals as goal

pub loop-element-preserved : goal.loop-element-preserved
loop-element-preserved c =
    c.loop-element.invariant
    ∙ conflicts_go_on c.args.place c.args.var c.args.acts.now c.args.values.now c.loop-element.element _ c.loop-element.all.items (omega arith) (search rules)
    ∙ sym (ap (λ (l : List Fault). l ++ store_conflicts c.args.place c.args.var c.args.acts.now (c.loop-element.element + 1) (drop (c.loop-element.element + 1) c.args.values.now)) c.in_ok-add_element_conflicts.ensures)
