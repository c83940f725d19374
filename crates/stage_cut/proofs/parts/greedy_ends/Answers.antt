use Rattle.stage_cut.proofs.GreedyLemmas.{reaches_more}
use Rattle.stage_cut.proofs.parts.greedy_ends.Goals as goal

pub loop-stage-preserved : goal.loop-stage-preserved
loop-stage-preserved c =
    rw c.in_ok-push.ensures.items (reaches_more _ _ _ _ _ _ c.loop-stage.invariant c.part_end-end.ensures)
