use Rattle.text_laws.proofs.ExistLemmas.{texts_have_a_verdict}
use Rattle.text_laws.proofs.law.texts_have_a_verdict.Goals as goal

pub returns : goal.returns
returns c = texts_have_a_verdict
