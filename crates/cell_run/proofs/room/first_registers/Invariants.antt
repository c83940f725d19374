use Rattle.std.proofs.Common.{◌≡◌, take}
use Rattle.cell_run.specs.Machine.{initials}
use Rattle.cell_run.proofs.room.first_registers.Given as goal

abbrev pub invariant-loop-register : goal.invariant-loop-register
invariant-loop-register l = l.first.items ≡ initials (take l.register-index l.registers)
