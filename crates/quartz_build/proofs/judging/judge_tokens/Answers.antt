use Rattle.std.proofs.Common.{Err, map, ap}
use Rattle.quartz_tree.specs.Surfaces.{module_tree}
use Rattle.quartz_build.proofs.FrontLemmas.{front_as, grammar_refused}
use Rattle.quartz_build.proofs.judging.judge_tokens.Goals as goal

pub returns-in-Ok : goal.returns-in-Ok
returns-in-Ok c =
    front_as c.args.text.now c.args.tokens.now (map module_tree c.in-Ok.modules.items) c.judge_only-judged.result c.requires c.in-Ok.ensures.derived (rw c.deref.ensures.value at c.judge_only-judged.ensures)

pub returns-in-Err : goal.returns-in-Err
returns-in-Err c = rw c.from.ensures (grammar_refused c.args.text.now c.args.tokens.now c.in-Err.fault c.requires (λ p e. c.in-Err.ensures.broken p (ap Err e)))
