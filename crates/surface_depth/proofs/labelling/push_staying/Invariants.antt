use Rattle.std.proofs.Common.{◌≡◌, ◌++◌, map, drop}
use Rattle.aif_cells.specs.Built.{all_defined}
use Rattle.aif_cells.specs.Tree.{tree, value}
use Rattle.surface_depth.specs.Labelling.{staying_in}
use Rattle.surface_depth.proofs.labelling.push_staying.Given as goal

abbrev pub invariant-loop-under : goal.invariant-loop-under
invariant-loop-under l = record {
  trees : map tree l.trees.items ++ map value (staying_in l.label (drop l.under-index l.stays) (all_defined l.cells)).refs ≡ map tree l.initial.trees.items ++ map value (staying_in l.label l.stays (all_defined l.initial.cells)).refs;
  cells : (staying_in l.label (drop l.under-index l.stays) (all_defined l.cells)).cells ≡ (staying_in l.label l.stays (all_defined l.initial.cells)).cells;
}
