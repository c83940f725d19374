-- What is put, one after another, and the part of it where a put failed.
use Rattle.std.proofs.Common.{rules, sym}
use Rattle.outside.proofs.PutsLemmas.{puts_first, puts_same, puts_then}
use Rattle.aif_cells.proofs.ListLemmas.{closes_apart, closes_more}
use Rattle.aif_cells.proofs.tree_text.put_closes.Goals as goal

pub returns-in_err-put : goal.returns-in_err-put
returns-in_err-put g c = puts_same (sym (closes_apart c.loop-at._at c.args.count (search rules))) (puts_first _ (search rules) (puts_then c.loop-at.invariant c.in_err-put.ensures))

pub loop-at-preserved : goal.loop-at-preserved
loop-at-preserved g c = puts_same (sym (closes_more c.loop-at._at)) (puts_then c.loop-at.invariant c.in_ok-put.ensures)
