use Rattle.std.proofs.Common.{◌≡◌, map, take}
use Rattle.std.specs.Prelude.{vec_capacity}
use Rattle.aif_cells.specs.Worth.{listed, read}
use Rattle.cell_values.proofs.evaluating.next_registers.Given as goal

abbrev pub invariant-loop-register : goal.invariant-loop-register
invariant-loop-register l = record {
  taken : l.next.items ≡ map (λ r. read (listed l.inputs l.registers l.values) r.next) (take l.register-index l.register-items);
  room : vec_capacity l.next ≡ vec_capacity l.fn.next;
}
