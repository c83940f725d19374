use Rattle.std.proofs.Common.{◌≡◌, ◌+◌, drop, length}
use Rattle.reincarnation.specs.Carrying.{carried_parts, stores}
use Rattle.reincarnation.proofs.carrying.carry_element.Given as goal

abbrev pub invariant-loop-part : goal.invariant-loop-part
invariant-loop-part l = record {
  at : l.register ≡ l.first + l.part-index;
  count : length l.registers ≡ length l.initial.registers;
  carried : carried_parts l.place l.copies l.depth l.element (drop l.part-index l.parts) l.register (stores l.registers l.cells) ≡ carried_parts l.place l.copies l.depth l.element l.parts l.first (stores l.initial.registers l.initial.cells);
}
