use Rattle.std.proofs.Common.{◌≡◌, drop}
use Rattle.quartz_tree.specs.Least.{least_place, lesser_place}
use Rattle.quartz_types.specs.Rules.{declared_bound_breaks}
use Rattle.quartz_types.proofs.bound.least_declared_break.Given as goal

abbrev pub invariant-loop-var : goal.invariant-loop-var
invariant-loop-var l = least_place (declared_bound_breaks l.vars) ≡ lesser_place l.least (least_place (declared_bound_breaks (drop l.var-index l.vars)))
