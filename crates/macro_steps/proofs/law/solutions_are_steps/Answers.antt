use Rattle.macro_steps.proofs.SoundLemmas.{initial_lie}
use Rattle.macro_steps.proofs.StatedLemmas.{soundness, values_lie}
use Rattle.macro_steps.proofs.law.solutions_are_steps.Goals as goal

pub returns : goal.returns
returns c = record { values = values_lie; start = initial_lie; step = soundness }
