use Rattle.std.proofs.Common.{arith}
use Rattle.surface_depth.proofs.CopyLemmas.{entered_step}
use Rattle.surface_depth.proofs.carrying.entered_by.Goals as goal

pub loop-copy-preserved : goal.loop-copy-preserved
loop-copy-preserved c =
    entered_step c.args.registers c.args.copies.now c.loop-copy.copy-index c.copy-item.result c.in_ok-copied_entered.field-0 c.loop-copy.lists.items c.push_at.new.lists.items
    (omega arith) c.copy-item.is c.in_ok-copied_entered.ensures c.loop-copy.invariant c.in_ok-push_at.ensures
