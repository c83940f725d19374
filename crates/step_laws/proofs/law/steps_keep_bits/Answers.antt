use Rattle.step_laws.proofs.NextLemmas.{steps_keep}
use Rattle.step_laws.proofs.law.steps_keep_bits.Goals as goal

pub returns : goal.returns
returns c = steps_keep
