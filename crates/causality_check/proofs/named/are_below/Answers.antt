use Rattle.std.proofs.Common.{◌<◌, All, subst, arith}
use Rattle.std.proofs.lemmas.List.{take_all}
use Rattle.std.proofs.lemmas.List.Elements.{All-more}
use Rattle.causality_check.proofs.named.are_below.Goals as goal

pub loop-cell-preserved : goal.loop-cell-preserved
loop-cell-preserved c = All-more (λ d. d < c.args.count) c.args.cells.now c.loop-cell.cell-index 0 (omega (arith, c.loop-cell-test.true)) c.loop-cell.invariant (omega (arith, c.if-cell-count.false))

pub returns : goal.returns
returns c = subst (All (λ d. d < c.args.count)) (take_all c.loop-cell.cell-index c.args.cells.now (omega (arith, c.loop-cell-test.false))) c.loop-cell.invariant
