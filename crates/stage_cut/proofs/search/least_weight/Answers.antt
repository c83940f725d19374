use Rattle.std.proofs.Common.{arith}
use Rattle.stage_cut.proofs.DivisionLemmas.{feasible_total}
use Rattle.stage_cut.proofs.search.least_weight.Goals as goal

pub loop-low-init : goal.loop-low-init
loop-low-init c =
    record {
      ordered = omega arith;
      feasible = rw c.total_weight-high.ensures (feasible_total c.args.weights.now c.args.stages c.requires.some);
      infeasible = λ bound below. absurd (omega arith);
    }
