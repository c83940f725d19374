use Rattle.std.proofs.Common.{◌≡◌, ◌+◌, ◌-◌, ◌*◌, length}
use Rattle.reincarnation.specs.Carrying.{carried_from, stores}
use Rattle.reincarnation.proofs.carrying.carry_all.Given as goal

abbrev pub invariant-loop-element : goal.invariant-loop-element
invariant-loop-element l = record {
  at : l.register ≡ l.first + l.element * length l.parts;
  count : length l.registers ≡ length l.initial.registers;
  carried : carried_from l.place l.copies l.depth l.parts l.element (l.count - l.element) l.register (stores l.registers l.cells) ≡ carried_from l.place l.copies l.depth l.parts 0 l.count l.first (stores l.initial.registers l.initial.cells);
}
