use Rattle.std.proofs.Common.{take}
use Rattle.aif_cells.specs.Built.{all_defined}
use Rattle.write_conflicts.specs.Tables.{IsTableFor}
use Rattle.write_conflicts.proofs.table.table_of.Given as goal

abbrev pub invariant-loop-cell : goal.invariant-loop-cell
invariant-loop-cell l = IsTableFor (all_defined l.cells) l.block (take l.cell-index l.order) l.table.items
