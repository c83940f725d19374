use Rattle.std.proofs.Common.{◌≡◌, ◌++◌, ◌-◌}
use Rattle.statement_cells.specs.Whole.{element_registers, repeated}
use Rattle.surface_depth.proofs.registers.push_elements.Given as goal

abbrev pub invariant-loop-element : goal.invariant-loop-element
invariant-loop-element l = l.registers ++ repeated (l.count - l._element) (element_registers l.shape) ≡ l.initial.registers ++ repeated l.count (element_registers l.shape)
