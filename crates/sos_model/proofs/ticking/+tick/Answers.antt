use Rattle.std.proofs.Common.{rules}
use Rattle.sos_model.proofs.FormLemmas.{ticked_seq, ticked_par}
use Rattle.sos_model.proofs.ticking.+tick.Goals as goal

pub tick_form-returns-in_ok-tick_forms-in-Seq : goal.tick_form-returns-in_ok-tick_forms-in-Seq
tick_form-returns-in_ok-tick_forms-in-Seq t c = rw c.in-Seq.is (ticked_seq c.args.vars.now c.in-Seq.parts _ (search rules))

pub tick_form-returns-in_ok-tick_forms-in-Par : goal.tick_form-returns-in_ok-tick_forms-in-Par
tick_form-returns-in_ok-tick_forms-in-Par t c = rw c.in-Par.is (ticked_par c.args.vars.now c.in-Par.parts _ (search rules))
