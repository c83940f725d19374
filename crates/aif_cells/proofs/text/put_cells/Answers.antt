-- What is put, one after another, and the part of it where a put failed.
use Rattle.std.proofs.Common.{rules, ap}
use Rattle.outside.proofs.PutsLemmas.{puts_same}
use Rattle.aif_cells.proofs.PutLemmas.{puts_more, puts_part}
use Rattle.aif_cells.specs.Text.{cell_line}
use Rattle.aif_cells.proofs.text.put_cells.Goals as goal

pub returns-in_err-put_cell : goal.returns-in_err-put_cell
returns-in_err-put_cell g c = puts_part cell_line c.args.cells.now c.loop-number.number c.index-cells-number.result (search rules) (search rules) c.loop-number.invariant (puts_same (ap (cell_line c.loop-number.number) c.index-cells-number.is) c.in_err-put_cell.ensures)

pub loop-number-preserved : goal.loop-number-preserved
loop-number-preserved g c = puts_more cell_line c.args.cells.now c.loop-number.number c.index-cells-number.result (search rules) c.loop-number.invariant (puts_same (ap (cell_line c.loop-number.number) c.index-cells-number.is) c.in_ok-put_cell.ensures)
