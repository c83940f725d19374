use Rattle.std.proofs.Common.{◌≡◌, map, take}
use Rattle.aif_cells.specs.Tree.{tree}
use Rattle.reincarnation.specs.Carrying.{arm_of}
use Rattle.reincarnation.proofs.carrying.arms.Given as goal

abbrev pub invariant-loop-copy : goal.invariant-loop-copy
invariant-loop-copy l = map (λ a. (tree a.0, tree a.1)) l.arms.items ≡ map (arm_of l.element l.part) (take l.copy-index l.copies)
