use Rattle.causality_check.specs.Search.{IsStepped, effort, table}
use Rattle.causality_check.proofs.components.Search.work_off.Given as goal

abbrev pub invariant-loop : goal.invariant-loop
invariant-loop l = IsStepped l.graph (table l.initial.self) (table l.self)

abbrev pub decreases-loop : goal.decreases-loop
decreases-loop l = effort l.graph (table l.self)
