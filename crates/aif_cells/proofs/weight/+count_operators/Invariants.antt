use Rattle.std.proofs.Common.{◌≡◌, take}
use Rattle.std.specs.Prelude.{sum_by}
use Rattle.aif_cells.specs.Weight.{held, item_operators, arm_operators, alternative_operators}
use Rattle.aif_cells.proofs.weight.+count_operators.Given as goal

abbrev pub invariant-count_items-loop-item : goal.invariant-count_items-loop-item
invariant-count_items-loop-item l = l.count ≡ held (sum_by item_operators (take l.item-index l.items))

abbrev pub invariant-count_arms-loop-cond : goal.invariant-count_arms-loop-cond
invariant-count_arms-loop-cond l = l.count ≡ held (sum_by arm_operators (take l.cond-index l.arms))

abbrev pub invariant-count_alternatives-loop-item : goal.invariant-count_alternatives-loop-item
invariant-count_alternatives-loop-item l = l.count ≡ held (sum_by alternative_operators (take l.item-index l.items))
