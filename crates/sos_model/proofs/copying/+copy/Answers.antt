use Rattle.std.proofs.Common.{rules}
use Rattle.sos_model.proofs.FormLemmas.{copied_seq, copied_par}
use Rattle.sos_model.proofs.copying.+copy.Goals as goal

pub copy_form-returns-in_ok-copied_all-in-Seq : goal.copy_form-returns-in_ok-copied_all-in-Seq
copy_form-returns-in_ok-copied_all-in-Seq t c = rw c.in-Seq.is (copied_seq c.in-Seq.parts _ (search rules))

pub copy_form-returns-in_ok-copied_all-in-Par : goal.copy_form-returns-in_ok-copied_all-in-Par
copy_form-returns-in_ok-copied_all-in-Par t c = rw c.in-Par.is (copied_par c.in-Par.parts _ (search rules))
