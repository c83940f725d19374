-- The puts one after another, each with what was put before it.
use Rattle.std.proofs.Common.{rules}
use Rattle.outside.proofs.PutsLemmas.{puts_first, puts_then}
use Rattle.command_texts.proofs.accepted.put_accepted.Goals as goal

pub returns-in_err-put_counted : goal.returns-in_err-put_counted
returns-in_err-put_counted g c = puts_first _ (search rules) c.in_err-put_counted.ensures

pub returns-in_err-put_counted-2 : goal.returns-in_err-put_counted-2
returns-in_err-put_counted-2 g c = puts_then c.in_ok-put_counted.ensures (puts_first _ (search rules) c.in_err-put_counted-2.ensures)

pub returns-in_err-put_counted-3 : goal.returns-in_err-put_counted-3
returns-in_err-put_counted-3 g c = puts_then c.in_ok-put_counted.ensures (puts_then c.in_ok-put_counted-2.ensures (puts_first _ (search rules) c.in_err-put_counted-3.ensures))

pub returns : goal.returns
returns g c = puts_then c.in_ok-put_counted.ensures (puts_then c.in_ok-put_counted-2.ensures (puts_then c.in_ok-put_counted-3.ensures c.put_whole.ensures))
