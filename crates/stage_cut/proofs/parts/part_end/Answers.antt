use Rattle.std.proofs.Common.{arith}
use Rattle.stage_cut.proofs.WeightLemmas.{weight_between_more}
use Rattle.stage_cut.proofs.GreedyLemmas.{longest_before}
use Rattle.stage_cut.proofs.parts.part_end.Goals as goal

pub returns-then-weight-left : goal.returns-then-weight-left
returns-then-weight-left c =
    longest_before _ _ _ _ c.loop-end.left (omega arith) (omega arith) c.loop-end.invariant (omega (arith, c.from-weight.ensures))

pub loop-end-preserved : goal.loop-end-preserved
loop-end-preserved c =
    let more = weight_between_more c.args.weights.now c.args.from c.loop-end.end (omega arith) (omega arith) in
    omega (arith, c.from-weight.ensures)
