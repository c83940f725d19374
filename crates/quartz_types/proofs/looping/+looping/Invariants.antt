use Rattle.std.proofs.Common.{◌≡◌, ◌+◌, ◌*◌, ◌&&◌, map, drop}
use Rattle.quartz_expr.specs.Terms.{are_instant, terms_of}
use Rattle.quartz_tree.specs.Kernel.{kernel, kernels}
use Rattle.quartz_tree.specs.Least.{least_place, lesser_place}
use Rattle.quartz_types.specs.Rules.{all_instant_loops}
use Rattle.quartz_types.proofs.looping.+looping.Given as goal

abbrev pub decreases-looping : goal.decreases-looping
decreases-looping l = 3 * goal.size-looping l + 1

abbrev pub decreases-looping_inside : goal.decreases-looping_inside
decreases-looping_inside l = 3 * goal.size-looping_inside l

abbrev pub decreases-all_looping : goal.decreases-all_looping
decreases-all_looping l = 3 * goal.size-all_looping l + 2

abbrev pub invariant-all_looping-loop-stmt : goal.invariant-all_looping-loop-stmt
invariant-all_looping-loop-stmt l = record {
  instant : are_instant (terms_of (kernels (map kernel l.stmts))) ≡ (l.all.instant && are_instant (terms_of (kernels (map kernel (drop l.stmt-index l.stmts)))));
  broken : least_place (all_instant_loops (kernels (map kernel l.stmts))) ≡ lesser_place l.all.broken (least_place (all_instant_loops (kernels (map kernel (drop l.stmt-index l.stmts)))));
}
