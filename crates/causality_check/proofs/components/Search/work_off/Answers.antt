use Rattle.std.proofs.lemmas.Bool.{MatchBool-at_false}
use Rattle.causality_check.specs.Search.{table}
use Rattle.causality_check.proofs.SearchLemmas.{none_is_open}
use Rattle.causality_check.proofs.components.Search.work_off.Goals as goal

pub returns-clause-none : goal.returns-clause-none
returns-clause-none c = none_is_open c.args.graph.now (table c.step.new.self) c.in_ok-step.ensures.stepped.holds (MatchBool-at_false _ _ c.if-branch.false c.in_ok-step.ensures.less)
