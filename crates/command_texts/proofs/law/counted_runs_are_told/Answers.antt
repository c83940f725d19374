use Rattle.command_texts.proofs.CountedLemmas.{counted_run_is_told}
use Rattle.command_texts.proofs.law.counted_runs_are_told.Goals as goal

pub returns : goal.returns
returns c = counted_run_is_told
