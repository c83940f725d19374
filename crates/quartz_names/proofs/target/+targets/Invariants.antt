use Rattle.std.proofs.Common.{◌≡◌, ◌+◌, ◌*◌, ◌++◌, map, drop}
use Rattle.quartz_tree.specs.Kernel.{kernel, kernels}
use Rattle.quartz_names.specs.Targets.{all_next_targets}
use Rattle.quartz_names.proofs.target.+targets.Given as goal

abbrev pub decreases-add_targets : goal.decreases-add_targets
decreases-add_targets l = 3 * goal.size-add_targets l + 1

abbrev pub decreases-add_targets_inside : goal.decreases-add_targets_inside
decreases-add_targets_inside l = 3 * goal.size-add_targets_inside l

abbrev pub decreases-add_all_targets : goal.decreases-add_all_targets
decreases-add_all_targets l = 3 * goal.size-add_all_targets l + 2

abbrev pub invariant-add_all_targets-loop-stmt : goal.invariant-add_all_targets-loop-stmt
invariant-add_all_targets-loop-stmt l = l.initial.targets.items ++ all_next_targets (kernels (map kernel l.stmts)) ≡ l.targets.items ++ all_next_targets (kernels (map kernel (drop l.stmt-index l.stmts)))
