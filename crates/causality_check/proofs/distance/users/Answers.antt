use Rattle.std.proofs.Common.{ℕ, List, ◌<◌, length, Contains, get_or, subst, arith}
use Rattle.std.proofs.lemmas.List.Elements.{Contains-get_or}
use Rattle.causality_check.proofs.ShortestLemmas.{users_end, users_more, users_none}
use Rattle.causality_check.proofs.distance.users.Goals as goal

pub loop-cell-init : goal.loop-cell-init
loop-cell-init c = users_none c.args.graph.now c.in_ok-users.users.items c.in_ok-users.ensures

pub add_user-requires : goal.add_user-requires
add_user-requires c = λ k d lt.
    let xs : List ℕ = c.needed_by.result.now in
    let h : get_or xs k d < length c.args.graph.now = c.requires.closed c.loop-cell.cell (get_or xs k d) (subst (λ (ys : List ℕ). Contains ys (get_or xs k d)) c.needed_by.ensures (Contains-get_or xs k d lt)) in
    omega (arith, h, c.loop-cell.invariant.count)

pub loop-cell-preserved : goal.loop-cell-preserved
loop-cell-preserved c = users_more c.args.graph.now c.loop-cell.cell c.loop-cell.users.items c.add_user.new.users.items c.needed_by.result.now c.needed_by.ensures c.loop-cell.invariant c.in_ok-add_user.ensures

pub returns : goal.returns
returns c = users_end c.args.graph.now c.loop-cell.cell c.loop-cell.users.items (omega (arith, c.loop-cell-test.false)) c.loop-cell.invariant
