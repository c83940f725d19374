-- The law of one step.
use Rattle.pipe_laws.proofs.slots_hold_solutions.Goals as goal
use Rattle.pipe_laws.proofs.SlotLemmas.{one_step}

pub returns : goal.returns
returns c = one_step
