-- The law at any items and memories.
use Rattle.pipe_laws.proofs.events_keep_prefixes.Goals as goal
use Rattle.pipe_laws.proofs.WorldLemmas.{worlds}

pub returns : goal.returns
returns g c = worlds _ _
