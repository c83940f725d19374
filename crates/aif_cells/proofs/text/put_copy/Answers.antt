-- What is put, one after another, and the part of it where a put failed.
use Rattle.std.proofs.Common.{rules, ◌++◌}
use Rattle.std.specs.Prelude.{decimal}
use Rattle.aif_cells.specs.Text.{index_text}
use Rattle.outside.proofs.PutsLemmas.{puts_failed, puts_first, puts_then}
use Rattle.aif_cells.proofs.text.put_copy.Goals as goal

pub returns-in_err-put_var : goal.returns-in_err-put_var
returns-in_err-put_var g c = puts_first ((decimal c.args.action.now.copy) ++ (index_text c.args.action.now.index)) (search rules) c.in_err-put_var.ensures

pub returns-in_err-put_count : goal.returns-in_err-put_count
returns-in_err-put_count g c = puts_then c.in_ok-put_var.ensures (puts_first (index_text c.args.action.now.index) (search rules) c.in_err-put_count.ensures)

pub returns-in_err-put_index : goal.returns-in_err-put_index
returns-in_err-put_index g c = puts_then c.in_ok-put_var.ensures (puts_then c.in_ok-put_count.ensures (puts_failed (search rules) c.in_err-put_index.ensures))
