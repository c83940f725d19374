use Rattle.std.proofs.Common.{ℕ, List, Option, ◌≡◌, ◌<◌, unwrap_or, sym, ap, subst, arith}
use Rattle.causality_check.specs.Shortest.{IsUnderway, distance_at}
use Rattle.causality_check.proofs.ShortestLemmas.{nearer_then, underway_end, underway_first, underway_more, way_on}
use Rattle.causality_check.proofs.cycle.path_around.Goals as goal

pub loop-next-init : goal.loop-next-init
loop-next-init c = (
  c.args.start,
  c.next_on_way-next.ensures.0,
  subst (λ (xs : List ℕ). IsUnderway c.args.graph.now c.args.distances.now c.args.start xs c.args.start c.next_on_way-next.ensures.0 c.next_on_way-next.result) (sym c.new-path.ensures)
      (underway_first c.args.graph.now c.args.distances.now c.args.start c.next_on_way-next.ensures.0 c.next_on_way-next.result c.next_on_way-next.ensures.1 c.next_on_way-next.ensures.2),
)

pub next_on_way-next-requires-in-loop-next-clause-way : goal.next_on_way-next-requires-in-loop-next-clause-way
next_on_way-next-requires-in-loop-next-clause-way c = way_on c.args.graph.now c.args.distances.now c.args.start c.loop-next.path c.loop-next.invariant.0 c.loop-next.invariant.1 c.loop-next.next c.loop-next-test.true c.loop-next.invariant.2

pub loop-next-smaller : goal.loop-next-smaller
loop-next-smaller c =
    let u : IsUnderway c.args.graph.now c.args.distances.now c.args.start c.loop-next.path c.loop-next.invariant.0 c.loop-next.invariant.1 c.loop-next.next = c.loop-next.invariant.2 in
    let m : ℕ = c.next_on_way-next-in-loop-next.ensures.0 in
    let lt : m < c.loop-next.invariant.1 = nearer_then c.args.graph.now c.args.distances.now c.args.start c.loop-next.path c.loop-next.invariant.0 c.loop-next.invariant.1 c.loop-next.next m c.next_on_way-next-in-loop-next.result c.loop-next-test.true u c.next_on_way-next-in-loop-next.ensures.1 in
    let a : unwrap_or (distance_at c.args.distances.now c.next_on_way-next-in-loop-next.result) 0 ≡ m = ap (λ (o : Option ℕ). unwrap_or o 0) c.next_on_way-next-in-loop-next.ensures.2 in
    let b : unwrap_or (distance_at c.args.distances.now c.loop-next.next) 0 ≡ c.loop-next.invariant.1 = ap (λ (o : Option ℕ). unwrap_or o 0) u.distance in
    omega (arith, lt, a, b)

pub loop-next-preserved : goal.loop-next-preserved
loop-next-preserved c =
    let m : ℕ = c.next_on_way-next-in-loop-next.ensures.0 in (
      c.loop-next.next,
      m,
      subst (λ (xs : List ℕ). IsUnderway c.args.graph.now c.args.distances.now c.args.start xs c.loop-next.next m c.next_on_way-next-in-loop-next.result) (sym c.in_ok-push.ensures.ok)
          (underway_more c.args.graph.now c.args.distances.now c.args.start c.loop-next.path c.loop-next.invariant.0 c.loop-next.invariant.1 c.loop-next.next m c.next_on_way-next-in-loop-next.result c.loop-next-test.true c.loop-next.invariant.2 c.next_on_way-next-in-loop-next.ensures.1 c.next_on_way-next-in-loop-next.ensures.2),
    )

pub returns : goal.returns
returns c = underway_end c.args.graph.now c.args.distances.now c.args.start c.loop-next.path c.loop-next.invariant.0 c.loop-next.invariant.1 c.loop-next.next c.loop-next-test.false c.loop-next.invariant.2
