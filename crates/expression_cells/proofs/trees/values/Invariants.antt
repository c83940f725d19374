use Rattle.std.proofs.Common.{◌≡◌, map, take}
use Rattle.aif_cells.specs.Tree.{tree, value}
use Rattle.expression_cells.proofs.trees.values.Given as goal

abbrev pub invariant-loop-reference : goal.invariant-loop-reference
invariant-loop-reference l = map tree l.trees.items ≡ map value (take l.reference-index l.refs)
