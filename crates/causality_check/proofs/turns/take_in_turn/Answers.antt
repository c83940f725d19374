use Rattle.std.proofs.Common.{ℕ, List, ◌≡◌, ◌≤◌, ◌+◌, ◌-◌, [], length, Contains, subst, ◌∙◌, arith}
use Rattle.std.proofs.lemmas.Bool.{MatchBool-at_true, MatchBool-at_false}
use Rattle.causality_check.specs.Turns.{IsSound, counted, tables}
use Rattle.causality_check.proofs.GraphLemmas.{not_in_none}
use Rattle.causality_check.proofs.TurnLemmas.{counted_end, first_counted, held_up, order_short, some_is_left, started}
use Rattle.causality_check.proofs.turns.take_in_turn.Goals as goal

pub loop-cell-init : goal.loop-cell-init
loop-cell-init c = record {
  sound = started c.args.graph.now (tables c.in_ok-turns.turns) c.in_ok-turns.ensures.taken c.in_ok-turns.ensures.passed c.in_ok-turns.ensures.waiting c.in_ok-turns.ensures.ready c.in_ok-turns.ensures.order;
  none = c.in_ok-turns.ensures.order;
}

pub loop-cell-preserved : goal.loop-cell-preserved
loop-cell-preserved c = record {
  sound = c.in_ok-place.ensures.placed (counted (c.loop-cell.cell + 1) (length c.args.graph.now - (c.loop-cell.cell + 1))) (first_counted c.args.graph.now (tables c.loop-cell.turns) c.loop-cell.cell (omega (arith, c.loop-cell-test.true)) c.loop-cell.invariant.sound)
      (λ d. not_in_none c.loop-cell.cell (subst (λ (ys : List ℕ). Contains ys c.loop-cell.cell) c.loop-cell.invariant.none d));
  none = c.in_ok-place.ensures.order ∙ c.loop-cell.invariant.none;
}

pub loop-turns-init : goal.loop-turns-init
loop-turns-init c = subst (λ (xs : List ℕ). IsSound c.args.graph.now xs (tables c.loop-cell.turns)) (counted_end c.loop-cell.cell (length c.args.graph.now) (omega (arith, c.loop-cell-test.false))) c.loop-cell.invariant.sound

pub loop-turns-smaller : goal.loop-turns-smaller
loop-turns-smaller c =
    let more : length c.take_next.new.self.order ≡ length c.loop-turns.turns.order + 1 = MatchBool-at_true _ _ c.if-branch.true c.in_ok-take_next.ensures.more in
    let short : length c.take_next.new.self.order ≤ length c.args.graph.now = order_short c.args.graph.now [] (tables c.take_next.new.self) c.in_ok-take_next.ensures.sound in
    omega (arith, more, short)

pub returns-clause-held_up : goal.returns-clause-held_up
returns-clause-held_up c = held_up c.args.graph.now (tables c.take_next.new.self) c.in_ok-take_next.ensures.sound (MatchBool-at_false _ _ c.if-branch.false c.in_ok-take_next.ensures.more)

pub returns-clause-not_all : goal.returns-clause-not_all
returns-clause-not_all c = some_is_left c.args.graph.now [] (tables c.take_next.new.self) c.in_ok-take_next.ensures.sound
