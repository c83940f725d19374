use Rattle.std.proofs.Common.{rules, map}
use Rattle.absence_reaction.specs.Closing.{disagrees}
use Rattle.absence_reaction.proofs.ArmLemmas.{made_more, map-over_append}
use Rattle.absence_reaction.proofs.arms.disagreements_for.Goals as goal

pub loop-action-preserved : goal.loop-action-preserved
loop-action-preserved c = made_more (map (disagrees c.args.other)) (map-over_append (disagrees c.args.other)) c.args.element c.args.actions.now c.loop-action.action-index _ _ _ _ (search rules) c.loop-action.invariant c.in_ok-guard.ensures c.in_ok-push_disagreement.ensures
