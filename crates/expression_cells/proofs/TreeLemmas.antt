-- The plain tree of a selection among references.
use Rattle.std.proofs.Common.{◌≡◌, List, map, Vec, Box, Global, ap, ◌∙◌}
use Rattle.aif_cells.specs.declared.reference.Ref.{Ref}
use Rattle.aif_cells.specs.declared.tree.Tree.{Tree as Boxes}
use Rattle.aif_cells.specs.declared.tree.Tree.TheVariants.{Sel}
use Rattle.aif_cells.specs.Tree.{sel, tree, trees, value}
use Rattle.aif_cells.proofs.TreeLemmas.{tree_sel}

pub selects : (i : Box Boxes Global) (ts : Vec Boxes Global) (t : Boxes) (rs : List Ref) → i.value ≡ t → map tree ts.items ≡ map value rs → tree (Sel i ts) ≡ sel (tree t) (trees (map value rs))
selects i ts t rs e f = tree_sel i ts ∙ ap (λ x. sel (tree x) (trees (map tree ts.items))) e ∙ ap (λ l. sel (tree t) (trees l)) f
