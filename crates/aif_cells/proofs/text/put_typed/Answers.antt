-- What is put, one after another, and the part of it where a put failed.
use Rattle.std.proofs.Common.{rules, ◌++◌}
use Rattle.std.specs.Prelude.{codes, decimal}
use Rattle.aif_cells.specs.Text.{base_text}
use Rattle.outside.proofs.PutsLemmas.{puts_failed, puts_first, puts_then}
use Rattle.aif_cells.proofs.text.put_typed.Goals as goal

pub returns-in_err-put_length : goal.returns-in_err-put_length
returns-in_err-put_length g c = puts_first ((base_text c.args.var.now.decl.ty.base) ++ ((codes " v") ++ (decimal c.args.number))) (search rules) c.in_err-put_length.ensures

pub returns-in_err-put_base : goal.returns-in_err-put_base
returns-in_err-put_base g c = puts_then c.in_ok-put_length.ensures (puts_first ((codes " v") ++ (decimal c.args.number)) (search rules) c.in_err-put_base.ensures)

pub returns-in_err-put : goal.returns-in_err-put
returns-in_err-put g c = puts_then c.in_ok-put_length.ensures (puts_then c.in_ok-put_base.ensures (puts_first (decimal c.args.number) (search rules) c.in_err-put.ensures))

pub returns-in_err-put_count : goal.returns-in_err-put_count
returns-in_err-put_count g c = puts_then c.in_ok-put_length.ensures (puts_then c.in_ok-put_base.ensures (puts_then c.in_ok-put.ensures (puts_failed (search rules) c.in_err-put_count.ensures)))
