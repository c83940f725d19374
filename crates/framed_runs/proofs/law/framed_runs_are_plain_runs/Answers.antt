use Rattle.framed_runs.proofs.LawLemmas.{framed_are_plain, plain_are_framed}
use Rattle.framed_runs.proofs.law.framed_runs_are_plain_runs.Goals as goal

pub returns : goal.returns
returns c = record { forth = framed_are_plain; back = plain_are_framed }
