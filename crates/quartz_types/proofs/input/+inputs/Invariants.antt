use Rattle.std.proofs.Common.{◌≡◌, ◌+◌, ◌*◌, map, drop}
use Rattle.quartz_tree.specs.Kernel.{kernel, kernels}
use Rattle.quartz_tree.specs.Least.{least_place, lesser_place}
use Rattle.quartz_types.specs.Rules.{all_input_writes}
use Rattle.quartz_types.proofs.input.+inputs.Given as goal

abbrev pub decreases-least_input_write : goal.decreases-least_input_write
decreases-least_input_write l = 3 * goal.size-least_input_write l + 1

abbrev pub decreases-least_inside : goal.decreases-least_inside
decreases-least_inside l = 3 * goal.size-least_inside l

abbrev pub decreases-least_in_parts : goal.decreases-least_in_parts
decreases-least_in_parts l = 3 * goal.size-least_in_parts l + 2

abbrev pub invariant-least_in_parts-loop-stmt : goal.invariant-least_in_parts-loop-stmt
invariant-least_in_parts-loop-stmt l = least_place (all_input_writes l.vars (kernels (map kernel l.stmts))) ≡ lesser_place l.least (least_place (all_input_writes l.vars (kernels (map kernel (drop l.stmt-index l.stmts)))))
