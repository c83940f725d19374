use Rattle.loose_runs.proofs.MeetLemmas.{clashing_never_meet}
use Rattle.loose_runs.proofs.law.clashing_actions_never_meet.Goals as goal

pub returns : goal.returns
returns c = record { never = clashing_never_meet }
