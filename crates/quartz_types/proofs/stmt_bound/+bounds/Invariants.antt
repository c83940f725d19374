use Rattle.std.proofs.Common.{◌≡◌, ◌+◌, ◌*◌, map, drop}
use Rattle.quartz_tree.specs.Kernel.{kernel, kernels}
use Rattle.quartz_tree.specs.Least.{least_place, lesser_place}
use Rattle.quartz_types.specs.Rules.{stmts_bound_breaks}
use Rattle.quartz_types.proofs.stmt_bound.+bounds.Given as goal

abbrev pub decreases-least_bound_break : goal.decreases-least_bound_break
decreases-least_bound_break l = 3 * goal.size-least_bound_break l + 1

abbrev pub decreases-least_inside : goal.decreases-least_inside
decreases-least_inside l = 3 * goal.size-least_inside l

abbrev pub decreases-least_in_parts : goal.decreases-least_in_parts
decreases-least_in_parts l = 3 * goal.size-least_in_parts l + 2

abbrev pub invariant-least_in_parts-loop-stmt : goal.invariant-least_in_parts-loop-stmt
invariant-least_in_parts-loop-stmt l = least_place (stmts_bound_breaks l.vars (kernels (map kernel l.stmts))) ≡ lesser_place l.least (least_place (stmts_bound_breaks l.vars (kernels (map kernel (drop l.stmt-index l.stmts)))))
