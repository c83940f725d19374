-- What is put, one after another, and the part of it where a put failed.
use Rattle.std.proofs.Common.{rules, ◌++◌}
use Rattle.std.specs.Prelude.{codes}
use Rattle.aif_cells.specs.Text.{storage_text, typed_text}
use Rattle.outside.proofs.PutsLemmas.{puts_failed, puts_first, puts_then}
use Rattle.aif_cells.proofs.text.put_inner.Goals as goal

pub returns-in_err-put_named : goal.returns-in_err-put_named
returns-in_err-put_named g c = puts_first ((storage_text c.args.var.now.decl.storage) ++ ((typed_text c.args.number c.args.var.now) ++ (codes "\n"))) (search rules) c.in_err-put_named.ensures

pub returns-in_err-put_storage : goal.returns-in_err-put_storage
returns-in_err-put_storage g c = puts_then c.in_ok-put_named.ensures (puts_first ((typed_text c.args.number c.args.var.now) ++ (codes "\n")) (search rules) c.in_err-put_storage.ensures)

pub returns-in_err-put_typed : goal.returns-in_err-put_typed
returns-in_err-put_typed g c = puts_then c.in_ok-put_named.ensures (puts_then c.in_ok-put_storage.ensures (puts_first (codes "\n") (search rules) c.in_err-put_typed.ensures))

pub returns-in_err-put : goal.returns-in_err-put
returns-in_err-put g c = puts_then c.in_ok-put_named.ensures (puts_then c.in_ok-put_storage.ensures (puts_then c.in_ok-put_typed.ensures (puts_failed (search rules) c.in_err-put.ensures)))
