use Rattle.std.proofs.Common.{ℕ, List, None, ◌<◌, length, Contains, get_or, subst, arith}
use Rattle.std.proofs.lemmas.List.Elements.{Contains-get_or}
use Rattle.causality_check.specs.Graph.{row}
use Rattle.causality_check.specs.Shortest.{IsNearestAmong, NearestIs}
use Rattle.causality_check.proofs.ShortestLemmas.{nearest_is, some_nearest}
use Rattle.causality_check.proofs.cycle.next_on_way.Goals as goal

pub nearest-requires : goal.nearest-requires
nearest-requires c = λ k d lt.
    let xs : List ℕ = c.needed_by.result.now in
    let h : get_or xs k d < length c.args.graph.now = c.requires.closed c.args.cell (get_or xs k d) (subst (λ (ys : List ℕ). Contains ys (get_or xs k d)) c.needed_by.ensures (Contains-get_or xs k d lt)) in
    omega (arith, h, c.requires.distances.count)

pub unreachable-requires : goal.unreachable-requires
unreachable-requires c =
    some_nearest c.args.graph.now c.args.goal c.args.cell c.args.distances.now c.requires.closed c.requires.distances (subst (λ (xs : List ℕ). NearestIs c.args.distances.now xs None) c.needed_by.ensures c.in-None.ensures) c.requires.way.0 c.requires.way.1

pub returns : goal.returns
returns c =
    let p : IsNearestAmong c.args.distances.now (row c.args.graph.now c.args.cell) c.in-Some.field-0-0 c.in-Some.next = subst (λ (xs : List ℕ). IsNearestAmong c.args.distances.now xs c.in-Some.field-0-0 c.in-Some.next) c.needed_by.ensures c.in-Some.ensures in
    (c.in-Some.field-0-0, nearest_is c.args.graph.now c.args.goal c.args.cell c.in-Some.field-0-0 c.in-Some.next c.args.distances.now c.requires.closed c.requires.distances p, p.distance)
