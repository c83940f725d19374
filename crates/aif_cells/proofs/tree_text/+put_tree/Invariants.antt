use Rattle.std.proofs.Common.{Ok, take}
use Rattle.outside.specs.Puts.{Puts}
use Rattle.aif_cells.specs.Text.{texts}
use Rattle.aif_cells.specs.Put.{alternative_text, arm_text, item_text}
use Rattle.aif_cells.proofs.tree_text.+put_tree.Given as goal

abbrev pub invariant-put_items-loop-item : goal.invariant-put_items-loop-item
invariant-put_items-loop-item g l = Puts g.O.Sink.stands g.O.Sink.faults (Ok tt) l.initial.out l.out (texts item_text 0 (take l.item-index l.items))

abbrev pub invariant-put_arms-loop-cond : goal.invariant-put_arms-loop-cond
invariant-put_arms-loop-cond g l = Puts g.O.Sink.stands g.O.Sink.faults (Ok tt) l.initial.out l.out (texts arm_text 0 (take l.cond-index l.arms))

abbrev pub invariant-put_firsts-loop-item : goal.invariant-put_firsts-loop-item
invariant-put_firsts-loop-item g l = Puts g.O.Sink.stands g.O.Sink.faults (Ok tt) l.initial.out l.out (texts alternative_text 0 (take l.item-index l.items))
