use Rattle.std.proofs.Common.{◌≡◌, map, take}
use Rattle.aif_cells.specs.Tree.{tree}
use Rattle.absence_reaction.specs.Closing.{arms_for, disagrees}
use Rattle.absence_reaction.proofs.arms.disagreements_for.Given as goal

abbrev pub invariant-loop-action : goal.invariant-loop-action
invariant-loop-action l = map tree l.items.items ≡ map (disagrees l.other) (arms_for l.element (take l.action-index l.actions))
