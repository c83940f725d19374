use Rattle.std.proofs.Common.{◌≡◌, drop}
use Rattle.quartz_tree.specs.Least.{least_place, lesser_place}
use Rattle.quartz_types.specs.Rules.{constant_kind_breaks}
use Rattle.quartz_types.proofs.kind.least_constant_break.Given as goal

abbrev pub invariant-loop-var : goal.invariant-loop-var
invariant-loop-var l = least_place (constant_kind_breaks l.vars) ≡ lesser_place l.least (least_place (constant_kind_breaks (drop l.var-index l.vars)))
