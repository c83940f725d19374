use Rattle.converted_laws.proofs.ConvertedLemmas as lemmas
use Rattle.converted_laws.proofs.law.converted_texts_say_the_same.Goals as goal

pub returns-clause-same : goal.returns-clause-same
returns-clause-same c = lemmas.converted_texts_say_the_same

pub returns-clause-runs : goal.returns-clause-runs
returns-clause-runs c = lemmas.converted_texts_run_the_same
