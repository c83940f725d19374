use Rattle.step_laws.proofs.OneLemmas.{step_is_one}
use Rattle.step_laws.proofs.law.macro_steps_are_one.Goals as goal

pub returns : goal.returns
returns c = step_is_one
