-- What is put, one after another, and the part of it where a put failed.
use Rattle.std.proofs.Common.{rules, ap}
use Rattle.outside.proofs.PutsLemmas.{puts_same}
use Rattle.aif_cells.proofs.PutLemmas.{puts_more, puts_part}
use Rattle.aif_cells.specs.Text.{local_line}
use Rattle.aif_cells.proofs.text.put_locals.Goals as goal

pub returns-in_err-put_local : goal.returns-in_err-put_local
returns-in_err-put_local g c = puts_part local_line c.args.vars.now c.loop-number.number c.index-vars-number.result (search rules) (search rules) c.loop-number.invariant (puts_same (ap (local_line c.loop-number.number) c.index-vars-number.is) c.in_err-put_local.ensures)

pub loop-number-preserved : goal.loop-number-preserved
loop-number-preserved g c = puts_more local_line c.args.vars.now c.loop-number.number c.index-vars-number.result (search rules) c.loop-number.invariant (puts_same (ap (local_line c.loop-number.number) c.index-vars-number.is) c.in_ok-put_local.ensures)
