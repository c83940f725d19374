-- The law of states.
use Rattle.pipe_laws.proofs.events_keep_states.Goals as goal
use Rattle.pipe_laws.proofs.Kept.{kept}

pub returns : goal.returns
returns c = kept
