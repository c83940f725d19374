use Rattle.std.proofs.Common.{◌≡◌, map, take}
use Rattle.aif_cells.specs.Tree.{tree, value}
use Rattle.surface_depth.proofs.labelling.values.Given as goal

abbrev pub invariant-loop-reference : goal.invariant-loop-reference
invariant-loop-reference l = map tree l.trees.items ≡ map value (take l.reference-index l.refs)
