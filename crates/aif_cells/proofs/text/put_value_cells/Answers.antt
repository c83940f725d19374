-- What is put, one after another, and the part of it where a put failed.
use Rattle.std.proofs.Common.{rules}
use Rattle.std.specs.Prelude.{codes}
use Rattle.aif_cells.proofs.PutLemmas.{puts_more, puts_part}
use Rattle.aif_cells.specs.Text.{number_text}
use Rattle.aif_cells.proofs.text.put_value_cells.Goals as goal

pub returns-in_err-put_numbered : goal.returns-in_err-put_numbered
returns-in_err-put_numbered g c = puts_part (number_text (codes " c")) c.args.cells.now c.loop-cell.cell-index _ (search rules) (search rules) c.loop-cell.invariant c.in_err-put_numbered.ensures

pub loop-cell-preserved : goal.loop-cell-preserved
loop-cell-preserved g c = puts_more (number_text (codes " c")) c.args.cells.now c.loop-cell.cell-index _ (search rules) c.loop-cell.invariant c.in_ok-put_numbered.ensures
