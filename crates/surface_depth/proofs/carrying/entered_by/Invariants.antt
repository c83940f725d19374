use Rattle.std.proofs.Common.{◌≡◌, map, take}
use Rattle.statement_builder.specs.Built.{entered_copy}
use Rattle.surface_depth.specs.Lists.{entered_by}
use Rattle.surface_depth.proofs.carrying.entered_by.Given as goal

abbrev pub invariant-loop-copy : goal.invariant-loop-copy
invariant-loop-copy l = l.lists.items ≡ entered_by 0 l.registers (map entered_copy (take l.copy-index l.copies))
