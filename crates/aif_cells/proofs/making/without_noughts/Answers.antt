use Rattle.std.proofs.Common.{rules, ap, ◌∙◌, map}
use Rattle.std.proofs.lemmas.List.Elements.{filter_from_retain}
use Rattle.aif_cells.specs.Tree.{tree}
use Rattle.aif_cells.specs.Built.{is_not_nought}
use Rattle.aif_cells.proofs.MakingLemmas.{map-filter_tree}
use Rattle.aif_cells.proofs.making.without_noughts.Goals as goal

pub returns : goal.returns
returns c = ap (map tree) (filter_from_retain _ (λ t. is_not_nought (tree t)) (search rules) _ _ _ c.retain.ensures.filtered) ∙ map-filter_tree is_not_nought c.args.items.items
