-- What is put, one after another, and the part of it where a put failed.
use Rattle.std.proofs.Common.{rules, ◌++◌}
use Rattle.std.specs.Prelude.{codes}
use Rattle.outside.proofs.PutsLemmas.{puts_failed, puts_first, puts_then}
use Rattle.aif_cells.proofs.text.put_named.Goals as goal

pub returns-in_err-put : goal.returns-in_err-put
returns-in_err-put g c = puts_first ((c.args.var.now.decl.name) ++ (codes " ")) (search rules) c.in_err-put.ensures

pub returns-in_err-put_name : goal.returns-in_err-put_name
returns-in_err-put_name g c = puts_then c.in_ok-put.ensures (puts_first (codes " ") (search rules) c.in_err-put_name.ensures)

pub returns-in_err-put-2 : goal.returns-in_err-put-2
returns-in_err-put-2 g c = puts_then c.in_ok-put.ensures (puts_then c.in_ok-put_name.ensures (puts_failed (search rules) c.in_err-put-2.ensures))
