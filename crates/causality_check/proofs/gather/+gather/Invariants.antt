use Rattle.std.proofs.Common.{◌≡◌, ◌++◌, map, take}
use Rattle.aif_cells.specs.Tree.{tree}
use Rattle.causality_check.specs.Gather.{cells_in_arms, cells_in_each}
use Rattle.causality_check.proofs.gather.+gather.Given as goal

abbrev pub invariant-gather_each-loop-item : goal.invariant-gather_each-loop-item
invariant-gather_each-loop-item l = l.found ≡ l.initial.found ++ cells_in_each (map tree (take l.item-index l.items))

abbrev pub invariant-gather_arms-loop-cond : goal.invariant-gather_arms-loop-cond
invariant-gather_arms-loop-cond l = l.found ≡ l.initial.found ++ cells_in_arms (map (λ a. (tree a.0, tree a.1)) (take l.cond-index l.arms))
