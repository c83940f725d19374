use Rattle.std.proofs.Common.{arith}
use Rattle.surface_depth.proofs.CopyLemmas.{depths_start, depths_step}
use Rattle.surface_depth.proofs.carrying.depths_by.Goals as goal

pub loop-copy-init : goal.loop-copy-init
loop-copy-init c = depths_start c.args.registers c.in_ok-lists.lists.items c.in_ok-lists.ensures

pub loop-copy-preserved : goal.loop-copy-preserved
loop-copy-preserved c =
    depths_step c.args.registers c.args.copies.now c.loop-copy.copy-index c.copy-item.result c.in_ok-copied_depth.field-0 c.loop-copy.lists.items c.push_at.new.lists.items
    (omega arith) c.copy-item.is c.in_ok-copied_depth.ensures c.loop-copy.invariant c.in_ok-push_at.ensures
