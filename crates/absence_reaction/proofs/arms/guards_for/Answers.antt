use Rattle.std.proofs.Common.{rules, map}
use Rattle.aif_cells.specs.Tree.{Tree}
use Rattle.absence_reaction.proofs.ArmLemmas.{made_more, map-over_append}
use Rattle.absence_reaction.proofs.arms.guards_for.Goals as goal

pub loop-action-preserved : goal.loop-action-preserved
loop-action-preserved c = made_more (map (λ (a : Tree × Tree). a.0)) (map-over_append (λ a. a.0)) c.args.element c.args.actions.now c.loop-action.action-index _ _ _ _ (search rules) c.loop-action.invariant c.in_ok-guard.ensures c.in_ok-push_guard.ensures
