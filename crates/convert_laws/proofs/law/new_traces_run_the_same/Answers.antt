use Rattle.convert_laws.proofs.SameLemmas as same
use Rattle.convert_laws.proofs.law.new_traces_run_the_same.Goals as goal

pub returns : goal.returns
returns c = same.new_traces_run_the_same
