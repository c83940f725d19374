-- The puts one after another, each with what was put before it.
use Rattle.std.proofs.Common.{rules}
use Rattle.outside.proofs.PutsLemmas.{puts_first, puts_then}
use Rattle.outside.proofs.status.put_fault.Goals as goal

pub returns-in_err-put_whole : goal.returns-in_err-put_whole
returns-in_err-put_whole g c = puts_first _ (search rules) c.in_err-put_whole.ensures

pub returns-in_err-put_whole-2 : goal.returns-in_err-put_whole-2
returns-in_err-put_whole-2 g c = puts_then c.in_ok-put_whole.ensures (puts_first _ (search rules) (rw c.kind_text.ensures at c.in_err-put_whole-2.ensures))

pub returns : goal.returns
returns g c = puts_then c.in_ok-put_whole.ensures (puts_then (rw c.kind_text.ensures at c.in_ok-put_whole-2.ensures) c.put_number_at.ensures)
