use Rattle.std.proofs.Common.{rules, List}
use Rattle.aif_cells.specs.Tree.{Tree}
use Rattle.absence_reaction.proofs.ArmLemmas.{made_more, same-append}
use Rattle.absence_reaction.proofs.arms.arms_for.Goals as goal

pub loop-action-preserved : goal.loop-action-preserved
loop-action-preserved c = made_more (λ (xs : List (Tree × Tree)). xs) same-append c.args.element c.args.actions.now c.loop-action.action-index _ _ _ _ (search rules) c.loop-action.invariant c.in_ok-guard.ensures c.in_ok-push_arm.ensures
