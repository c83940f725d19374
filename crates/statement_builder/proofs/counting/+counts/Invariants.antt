use Rattle.std.proofs.Common.{◌≡◌, ◌+◌, ◌*◌, map, drop}
use Rattle.quartz_tree.specs.Kernel.{kernel, kernels}
use Rattle.quartz_expr.specs.Terms.{terms_of}
use Rattle.statement_cells.specs.Labels.{labels_all, registers_all}
use Rattle.statement_builder.proofs.counting.+counts.Given as goal

abbrev pub decreases-count : goal.decreases-count
decreases-count l = 3 * goal.size-count l + 1

abbrev pub decreases-count_inside : goal.decreases-count_inside
decreases-count_inside l = 3 * goal.size-count_inside l

abbrev pub decreases-count_parts : goal.decreases-count_parts
decreases-count_parts l = 3 * goal.size-count_parts l + 2

abbrev pub invariant-count_parts-loop-part : goal.invariant-count_parts-loop-part
invariant-count_parts-loop-part l = record {
  labels : l.sum.labels + labels_all (terms_of (kernels (map kernel (drop l.part-index l.parts)))) ≡ labels_all (terms_of (kernels (map kernel l.parts)));
  registers : l.sum.registers + registers_all l.vars (terms_of (kernels (map kernel (drop l.part-index l.parts)))) ≡ registers_all l.vars (terms_of (kernels (map kernel l.parts)));
}
