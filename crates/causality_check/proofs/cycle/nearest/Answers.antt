use Rattle.std.proofs.Common.{ℕ, List, take, refl, subst, sym, arith}
use Rattle.std.proofs.lemmas.List.{take_more, take_all}
use Rattle.causality_check.specs.Shortest.{NearestIs}
use Rattle.causality_check.proofs.GraphLemmas.{not_in_none}
use Rattle.causality_check.proofs.cycle.nearest.Goals as goal

pub loop-cell-init : goal.loop-cell-init
loop-cell-init c = λ d m. absurd (not_in_none d m)

pub loop-cell-preserved : goal.loop-cell-preserved
loop-cell-preserved c =
    subst (λ (xs : List ℕ). NearestIs c.args.distances.now xs c.nearer-best.result) (sym (take_more c.args.cells.now c.loop-cell.cell-index 0 (omega (arith, c.loop-cell-test.true))))
    (c.nearer-best.ensures c.args.distances.now (take c.loop-cell.cell-index c.args.cells.now) refl c.loop-cell.invariant)

pub returns : goal.returns
returns c = subst (λ (xs : List ℕ). NearestIs c.args.distances.now xs c.loop-cell.best) (take_all c.loop-cell.cell-index c.args.cells.now (omega (arith, c.loop-cell-test.false))) c.loop-cell.invariant
