use Rattle.std.proofs.Common.{◌≡◌, ◌≤◌, ◌+◌, ◌-◌, length, take}
use Rattle.std.specs.Prelude.{vec_capacity}
use Rattle.cell_run.specs.Machine.{shown}
use Rattle.cell_run.proofs.room.show.Given as goal

abbrev pub invariant-loop-cell : goal.invariant-loop-cell
invariant-loop-cell l = record {
  shown : l.into.items ≡ shown (take l.cell-index l.outputs) l.cells;
  room : length l.into.items + (length l.outputs - l.cell-index) ≤ vec_capacity l.into;
  room_stays : vec_capacity l.into ≡ vec_capacity l.fn.into;
}
