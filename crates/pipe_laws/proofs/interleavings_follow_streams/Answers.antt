-- Both laws at any items and memories.
use Rattle.pipe_laws.proofs.interleavings_follow_streams.Goals as goal
use Rattle.pipe_laws.proofs.PlayLemmas.{interleavings, some_can_step}

pub returns : goal.returns
returns g c = record { prefixes = interleavings _ _; moves = some_can_step _ _ }
