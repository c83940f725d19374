use Rattle.std.proofs.Common.{◌≡◌, ◌+◌, ◌*◌, ◌++◌, map, drop}
use Rattle.quartz_tree.specs.Kernel.{kernel, kernels}
use Rattle.quartz_expr.specs.Terms.{terms_of}
use Rattle.statement_cells.specs.Whole.{paths_all}
use Rattle.surface_depth.specs.Ways.{steps_of}
use Rattle.surface_depth.proofs.paths.+paths.Given as goal

abbrev pub decreases-push_paths : goal.decreases-push_paths
decreases-push_paths l = 4 * goal.size-push_paths l + 1

abbrev pub decreases-push_inside : goal.decreases-push_inside
decreases-push_inside l = 4 * goal.size-push_inside l

abbrev pub decreases-push_part : goal.decreases-push_part
decreases-push_part l = 4 * goal.size-push_part l + 2

abbrev pub decreases-push_parts : goal.decreases-push_parts
decreases-push_parts l = 4 * goal.size-push_parts l + 3

abbrev pub invariant-push_parts-loop-number : goal.invariant-push_parts-loop-number
invariant-push_parts-loop-number l = record {
  front : l.front.items ≡ l.initial.front.items;
  paths : map steps_of l.found ++ paths_all l.initial.front.items l.parallel l.number (terms_of (kernels (map kernel (drop l.number l.parts)))) ≡ map steps_of l.initial.found ++ paths_all l.initial.front.items l.parallel 0 (terms_of (kernels (map kernel l.parts)));
}
