use Rattle.std.proofs.Common.{[], ◌∷◌, ◌++◌, arith}
use Rattle.stage_cut.proofs.GreedyLemmas.{reaches_more, feasible_test}
use Rattle.stage_cut.proofs.parts.is_feasible.Goals as goal

pub loop-stage-preserved : goal.loop-stage-preserved
loop-stage-preserved c =
    let so_far = c.loop-stage.invariant in
    (so_far.0 ++ c.part_end-end.result ∷ [], reaches_more _ _ _ _ _ _ so_far.1 c.part_end-end.ensures)

pub returns : goal.returns
returns c = feasible_test _ _ _ _ _ _ (omega arith) c.loop-stage.invariant.1
