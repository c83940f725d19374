use Rattle.std.proofs.Common.{◌≡◌, ◌++◌, replicate}
use Rattle.statement_cells.specs.Whole.{register_of}
use Rattle.surface_depth.proofs.registers.push_many.Given as goal

abbrev pub invariant-loop-register : goal.invariant-loop-register
invariant-loop-register l = l.registers ≡ l.initial.registers ++ replicate l._register (register_of l.start)
