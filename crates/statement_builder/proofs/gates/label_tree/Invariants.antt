use Rattle.std.proofs.Common.{◌≡◌, ◌-◌, map}
use Rattle.aif_cells.specs.Tree.{any, tree}
use Rattle.statement_cells.specs.Builder.{labels_tree}
use Rattle.statement_builder.proofs.gates.label_tree.Given as goal

abbrev pub invariant-loop-label : goal.invariant-loop-label
invariant-loop-label l = any (map tree l.items.items) (labels_tree l.label (l.last - l.label)) ≡ labels_tree l.first l.more
