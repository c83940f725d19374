use Rattle.std.proofs.Common.{Err, ap}
use Rattle.quartz_build.proofs.FrontLemmas.{tokens_refused}
use Rattle.quartz_build.proofs.judging.front.Goals as goal

pub returns-in-Err : goal.returns-in-Err
returns-in-Err c = rw c.from.ensures (tokens_refused c.args.text.now c.in-Err.fault (λ p e. c.in-Err.ensures.broken p (ap Err e)))
