use Rattle.std.proofs.Common.{ℕ, List, [], ◌∷◌, take, get_or, subst, sym, arith}
use Rattle.std.proofs.lemmas.List.{take_more}
use Rattle.causality_check.specs.Shortest.{AreMarked}
use Rattle.causality_check.proofs.ShortestLemmas.{marked_none, marked_then}
use Rattle.causality_check.proofs.distance.mark.Goals as goal

pub loop-cell-init : goal.loop-cell-init
loop-cell-init c = marked_none c.args.level c.args.distances.now c.args.noted.now

pub mark_cell-requires : goal.mark_cell-requires
mark_cell-requires c = omega (arith, c.requires c.loop-cell.cell-index 0 (omega (arith, c.loop-cell-test.true)), c.loop-cell.auto.distances)

pub loop-cell-preserved : goal.loop-cell-preserved
loop-cell-preserved c =
    let i : ℕ = c.loop-cell.cell-index in
    let cells : List ℕ = c.args.cells.now in
    subst (λ (xs : List ℕ). AreMarked xs c.args.level c.args.distances.now c.mark_cell.new.distances c.args.noted.now c.mark_cell.new.noted) (sym (take_more cells i 0 (omega (arith, c.loop-cell-test.true))))
    (marked_then (take i cells) (get_or cells i 0 ∷ []) c.args.level c.args.distances.now c.loop-cell.distances c.mark_cell.new.distances c.args.noted.now c.loop-cell.noted c.mark_cell.new.noted c.loop-cell.invariant c.in_ok-mark_cell.ensures)
