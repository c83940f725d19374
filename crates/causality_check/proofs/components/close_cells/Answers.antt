use Rattle.std.proofs.Common.{ℕ, List, ◌<◌, length, Contains, get_or, subst, sym, arith}
use Rattle.std.proofs.lemmas.List.{take_all}
use Rattle.causality_check.proofs.SearchLemmas.{closed_more, kept_more}
use Rattle.causality_check.proofs.components.close_cells.Goals as goal

pub loop-cell-preserved : goal.loop-cell-preserved
loop-cell-preserved c =
    let lt : c.loop-cell.cell-index < length c.args.cells.now = omega (arith, c.loop-cell-test.true) in
    let h : get_or c.args.cells.now c.loop-cell.cell-index 0 < length c.args.marks.now = c.requires c.loop-cell.cell-index 0 lt in
    record {
      closed = closed_more c.loop-cell.marks c.args.cells.now c.loop-cell.cell-index c.args.component lt (omega (arith, h, c.loop-cell.auto.marks)) c.loop-cell.invariant.closed;
      kept = kept_more c.loop-cell.marks c.args.marks.now c.args.cells.now c.loop-cell.cell-index c.args.component lt c.loop-cell.invariant.kept;
    }

pub returns-clause-closed : goal.returns-clause-closed
returns-clause-closed c = λ a k. c.loop-cell.invariant.closed a (subst (λ (xs : List ℕ). Contains xs a) (sym (take_all c.loop-cell.cell-index c.args.cells.now (omega (arith, c.loop-cell-test.false)))) k)
