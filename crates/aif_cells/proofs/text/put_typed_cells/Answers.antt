-- What is put, one after another, and the part of it where a put failed.
use Rattle.std.proofs.Common.{rules, ◌++◌}
use Rattle.std.specs.Prelude.{codes}
use Rattle.aif_cells.specs.Text.{number_text, texts}
use Rattle.outside.proofs.PutsLemmas.{puts_failed, puts_first, puts_then}
use Rattle.aif_cells.proofs.text.put_typed_cells.Goals as goal

pub returns-in_err-put_typed : goal.returns-in_err-put_typed
returns-in_err-put_typed g c = puts_first ((texts (number_text (codes " c")) 0 c.args.cells.now) ++ (codes "\n")) (search rules) c.in_err-put_typed.ensures

pub returns-in_err-put_value_cells : goal.returns-in_err-put_value_cells
returns-in_err-put_value_cells g c = puts_then c.in_ok-put_typed.ensures (puts_first (codes "\n") (search rules) c.in_err-put_value_cells.ensures)

pub returns-in_err-put : goal.returns-in_err-put
returns-in_err-put g c = puts_then c.in_ok-put_typed.ensures (puts_then c.in_ok-put_value_cells.ensures (puts_failed (search rules) c.in_err-put.ensures))
