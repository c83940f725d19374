-- What is put, one after another, and the part of it where a put failed.
use Rattle.std.proofs.Common.{rules, ◌++◌}
use Rattle.std.specs.Prelude.{codes}
use Rattle.aif_cells.specs.Text.{number_text, storage_text, texts, typed_text}
use Rattle.outside.proofs.PutsLemmas.{puts_failed, puts_first, puts_then}
use Rattle.aif_cells.proofs.text.put_output.Goals as goal

pub returns-in_err-put_named : goal.returns-in_err-put_named
returns-in_err-put_named g c = puts_first ((storage_text c.args.var.now.decl.storage) ++ (typed_text c.args.number c.args.var.now ++ (texts (number_text (codes " c")) 0 c.args.cells.now ++ codes "\n"))) (search rules) c.in_err-put_named.ensures

pub returns-in_err-put_storage : goal.returns-in_err-put_storage
returns-in_err-put_storage g c = puts_then c.in_ok-put_named.ensures (puts_first (typed_text c.args.number c.args.var.now ++ (texts (number_text (codes " c")) 0 c.args.cells.now ++ codes "\n")) (search rules) c.in_err-put_storage.ensures)

pub returns-in_err-put_typed_cells : goal.returns-in_err-put_typed_cells
returns-in_err-put_typed_cells g c = puts_then c.in_ok-put_named.ensures (puts_then c.in_ok-put_storage.ensures (puts_failed (search rules) c.in_err-put_typed_cells.ensures))
