-- The puts one after another, each with what was put before it.
use Rattle.std.proofs.Common.{rules}
use Rattle.outside.proofs.PutsLemmas.{puts_first, puts_then}
use Rattle.outside.proofs.status.put_step.Goals as goal

pub returns-in_err-put_whole : goal.returns-in_err-put_whole
returns-in_err-put_whole g c = puts_first _ (search rules) c.in_err-put_whole.ensures

pub returns-in_err-put_number : goal.returns-in_err-put_number
returns-in_err-put_number g c = puts_then c.in_ok-put_whole.ensures (puts_first _ (search rules) c.in_err-put_number.ensures)

pub returns : goal.returns
returns g c = puts_then c.in_ok-put_whole.ensures (puts_then c.in_ok-put_number.ensures c.put_whole-2.ensures)
