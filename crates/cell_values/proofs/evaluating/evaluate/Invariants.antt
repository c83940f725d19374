use Rattle.std.proofs.Common.{◌≡◌, length, take}
use Rattle.aif_cells.specs.Built.{all_defined}
use Rattle.cell_values.specs.Evaluated.{AreDone}
use Rattle.cell_values.proofs.evaluating.evaluate.Given as goal

abbrev pub invariant-loop-cell : goal.invariant-loop-cell
invariant-loop-cell l = record {
  room : length l.values ≡ length l.cells;
  done : AreDone (all_defined l.cells) l.inputs l.registers l.values (take l.cell-index l.cell-items);
}
