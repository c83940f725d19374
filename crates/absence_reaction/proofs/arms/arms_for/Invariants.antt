use Rattle.std.proofs.Common.{◌≡◌, map, take}
use Rattle.aif_cells.specs.Tree.{tree}
use Rattle.absence_reaction.specs.Closing.{arms_for}
use Rattle.absence_reaction.proofs.arms.arms_for.Given as goal

abbrev pub invariant-loop-action : goal.invariant-loop-action
invariant-loop-action l = map (λ a. (tree a.0, tree a.1)) l.arms.items ≡ arms_for l.element (take l.action-index l.actions)
