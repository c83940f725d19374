use Rattle.std.proofs.Common.{Err, ap}
use Rattle.quartz_build.proofs.FrontLemmas.{types_refused}
use Rattle.quartz_build.proofs.judging.check_resolved.Goals as goal

pub returns-in-Err : goal.returns-in-Err
returns-in-Err c = rw c.from.ensures (types_refused c.args.resolved c.in-Err.fault (λ r p e. (c.in-Err.ensures.broken r p).0 (ap Err e)))
