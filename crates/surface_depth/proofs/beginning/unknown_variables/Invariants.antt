use Rattle.std.proofs.Common.{◌≡◌, replicate}
use Rattle.surface_depth.specs.Begins.{unknown}
use Rattle.surface_depth.proofs.beginning.unknown_variables.Given as goal

abbrev pub invariant-loop-variable : goal.invariant-loop-variable
invariant-loop-variable l = l.variables.items ≡ replicate l._variable unknown
