-- The law that some actor can move.
use Rattle.pipe_laws.proofs.some_actor_can_move.Goals as goal
use Rattle.pipe_laws.proofs.Stuck.{never}

pub returns : goal.returns
returns c = never
