use Rattle.std.proofs.Common.{◌≡◌, map, take}
use Rattle.statement_builder.specs.Built.{depth_copy}
use Rattle.surface_depth.specs.Lists.{depths_by}
use Rattle.surface_depth.proofs.carrying.depths_by.Given as goal

abbrev pub invariant-loop-copy : goal.invariant-loop-copy
invariant-loop-copy l = map (map depth_copy) l.lists.items ≡ depths_by 0 l.registers (map depth_copy (take l.copy-index l.copies))
