use Rattle.std.proofs.Common.{refl}
use Rattle.trace_io.proofs.CountLemmas.{ended_last}
use Rattle.trace_io.proofs.count.is_closed.Goals as goal

pub returns-in-len1-up : goal.returns-in-len1-up
returns-in-len1-up c = ended_last c.args.line.now _ c.in-len1-up.len_at_least refl
