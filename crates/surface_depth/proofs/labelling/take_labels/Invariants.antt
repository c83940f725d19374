use Rattle.std.proofs.Common.{◌≡◌, ◌+◌, drop, length}
use Rattle.reincarnation.specs.Carrying.{stores}
use Rattle.surface_depth.specs.Labelling.{labels_in}
use Rattle.surface_depth.proofs.labelling.take_labels.Given as goal

abbrev pub invariant-loop-number : goal.invariant-loop-number
invariant-loop-number l = record {
  count : length l.registers ≡ length l.initial.registers;
  taken : labels_in (1 + l.number) (drop l.number l.entered) (drop l.number l.stays) (stores l.registers l.cells) ≡ labels_in 1 l.entered l.stays (stores l.initial.registers l.initial.cells);
}
