use Rattle.std.proofs.Common.{ℕ, List, ◌∙◌, ◌<◌, [], length, take, Contains, get_or, subst, sym, ap, arith}
use Rattle.std.proofs.lemmas.List.{take_more, take_all}
use Rattle.std.proofs.lemmas.List.Elements.{Contains-get_or}
use Rattle.causality_check.specs.Graph.{row}
use Rattle.causality_check.specs.Shortest.{AreMarked, users_of}
use Rattle.causality_check.proofs.ShortestLemmas.{marked_none, marked_then, users_push}
use Rattle.causality_check.proofs.distance.spread.Goals as goal

pub loop-cell-init : goal.loop-cell-init
loop-cell-init c = subst (λ (xs : List ℕ). AreMarked [] c.args.level c.args.distances.now c.args.distances.now [] xs) (sym c.new-next.ensures) (marked_none c.args.level c.args.distances.now [])

pub mark-requires : goal.mark-requires
mark-requires c = λ k d lt.
    let xs : List ℕ = c.needed_by.result.now in
    let cell : ℕ = get_or c.args.front.now c.loop-cell.cell-index 0 in
    let h : get_or xs k d < length c.args.users.now = c.requires.closed cell (get_or xs k d) (subst (λ (ys : List ℕ). Contains ys (get_or xs k d)) c.needed_by.ensures (Contains-get_or xs k d lt)) in
    omega (arith, h, c.requires.count, c.loop-cell.auto.distances)

pub loop-cell-preserved : goal.loop-cell-preserved
loop-cell-preserved c =
    let i : ℕ = c.loop-cell.cell-index in
    let front : List ℕ = c.args.front.now in
    let users : List (List ℕ) = c.args.users.now in
    let x : ℕ = get_or front i 0 in
    let more : AreMarked (c.needed_by.result.now) c.args.level c.loop-cell.distances c.mark.new.distances c.loop-cell.next c.mark.new.noted = c.in_ok-mark.ensures in
    let row_more : AreMarked (row users x) c.args.level c.loop-cell.distances c.mark.new.distances c.loop-cell.next c.mark.new.noted = subst (λ (xs : List ℕ). AreMarked xs c.args.level c.loop-cell.distances c.mark.new.distances c.loop-cell.next c.mark.new.noted) c.needed_by.ensures more in
    subst (λ (xs : List ℕ). AreMarked xs c.args.level c.args.distances.now c.mark.new.distances [] c.mark.new.noted) (sym (ap (users_of users) (take_more front i 0 (omega (arith, c.loop-cell-test.true))) ∙ users_push users (take i front) x))
    (marked_then (users_of users (take i front)) (row users x) c.args.level c.args.distances.now c.loop-cell.distances c.mark.new.distances [] c.loop-cell.next c.mark.new.noted c.loop-cell.invariant row_more)

pub returns : goal.returns
returns c = subst (λ (xs : List ℕ). AreMarked (users_of c.args.users.now xs) c.args.level c.args.distances.now c.loop-cell.distances [] c.loop-cell.next) (take_all c.loop-cell.cell-index c.args.front.now (omega (arith, c.loop-cell-test.false))) c.loop-cell.invariant
