use Rattle.std.proofs.Common.{rules}
use Rattle.sos_model.proofs.FormLemmas.{started_seq, started_par}
use Rattle.sos_model.proofs.starting.+start.Goals as goal

pub start_form-returns-in_ok-start_forms-in-Seq : goal.start_form-returns-in_ok-start_forms-in-Seq
start_form-returns-in_ok-start_forms-in-Seq t c = rw c.in-Seq.is (started_seq c.in-Seq.parts _ (search rules))

pub start_form-returns-in_ok-start_forms-in-Par : goal.start_form-returns-in_ok-start_forms-in-Par
start_form-returns-in_ok-start_forms-in-Par t c = rw c.in-Par.is (started_par c.in-Par.parts _ (search rules))
