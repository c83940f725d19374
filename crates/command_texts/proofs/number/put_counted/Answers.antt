-- The puts one after another, each with what was put before it.
use Rattle.std.proofs.Common.{rules}
use Rattle.outside.proofs.PutsLemmas.{puts_first, puts_same, puts_then}
use Rattle.command_texts.proofs.number.put_counted.Goals as goal

pub returns-in_err-put_whole : goal.returns-in_err-put_whole
returns-in_err-put_whole g c = puts_first _ (search rules) c.in_err-put_whole.ensures

pub returns : goal.returns
returns g c = puts_then c.in_ok-put_whole.ensures ((puts_same (search rules) c.put_whole-2.ensures))
