-- The law at any items and memories.
use Rattle.pipe_laws.proofs.sent_lists_begin_streams.Goals as goal
use Rattle.pipe_laws.proofs.FlowLemmas.{streams_begin}

pub returns : goal.returns
returns g c = streams_begin _ _
