use Rattle.std.proofs.Common.{◌≡◌, map, take}
use Rattle.write_conflicts.specs.Tables.{guard_says}
use Rattle.write_conflicts.proofs.table.column.Given as goal

abbrev pub invariant-loop-action : goal.invariant-loop-action
invariant-loop-action l = l.column ≡ map (guard_says l.block l.table) (take l.action-index l.actions)
