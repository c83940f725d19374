use Rattle.std.proofs.Common.{◌≡◌, map, drop}
use Rattle.aif_cells.specs.Tree.{tree}
use Rattle.aif_cells.specs.Worth.{case_worth, listed, one_holds}
use Rattle.aif_cells.proofs.valuation.+worth.Given as goal

abbrev pub invariant-first_case-loop-cond : goal.invariant-first_case-loop-cond
invariant-first_case-loop-cond l =
    case_worth (listed l.inputs l.registers l.cells) (map (λ a. (tree a.0, tree a.1)) l.arms) ≡ case_worth (listed l.inputs l.registers l.cells) (map (λ a. (tree a.0, tree a.1)) (drop l.cond-index l.arms))

abbrev pub invariant-any_holds-loop-item : goal.invariant-any_holds-loop-item
invariant-any_holds-loop-item l =
    one_holds (listed l.inputs l.registers l.cells) (map tree l.items) ≡ one_holds (listed l.inputs l.registers l.cells) (map tree (drop l.item-index l.items))
