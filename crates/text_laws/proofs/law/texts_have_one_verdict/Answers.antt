use Rattle.text_laws.proofs.VerdictLemmas.{one_text_of_cells, one_verdict}
use Rattle.text_laws.proofs.law.texts_have_one_verdict.Goals as goal

pub returns : goal.returns
returns c = record { verdict = one_verdict; cells = one_text_of_cells }
