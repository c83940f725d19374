use Rattle.std.proofs.Common.{ℕ, List, ◌<◌, ◌+◌, ◌++◌, [], ◌∷◌, true, length, Contains, get_or, set, drop, refl, sym, subst, ◌∙◌, arith}
use Rattle.std.proofs.lemmas.List.Elements.{Contains-get_or}
use Rattle.causality_check.specs.Graph.{row}
use Rattle.causality_check.specs.Turns.{IsSound, Tables, tables}
use Rattle.causality_check.proofs.TurnLemmas.{AreFreed, are_freed, first_left, next_is, sound_is, taken_next}
use Rattle.causality_check.proofs.turns.Turns.take_next.Goals as goal

pub returns-in_default-clause-sound : goal.returns-in_default-clause-sound
returns-in_default-clause-sound c = subst (λ (ks : List ℕ). IsSound c.args.graph.now [] (record { taken = c.args.self.now.taken.items; passed = c.args.self.now.passed.items; waiting = c.args.self.now.waiting.items; ready = ks; order = c.args.self.now.order })) (c.in_default.ensures.0 ∙ sym c.in_default.ensures.1) c.requires.sound

pub mark-requires-clause-taken : goal.mark-requires-clause-taken
mark-requires-clause-taken c = omega (arith, (next_is c.args.graph.now (tables c.args.self.now) c.in-Some.cell c.pop_least.new.ready.keys c.requires.sound c.in-Some.ensures).ready.is_cell, c.requires.sound.fit.taken)

pub mark-requires-clause-waiting : goal.mark-requires-clause-waiting
mark-requires-clause-waiting c = omega (arith, (next_is c.args.graph.now (tables c.args.self.now) c.in-Some.cell c.pop_least.new.ready.keys c.requires.sound c.in-Some.ensures).ready.is_cell, c.requires.sound.fit.waiting)

pub loop-next-init : goal.loop-next-init
loop-next-init c =
    let s : Tables = tables c.args.self.now in
    record {
      sound = sound_is c.args.graph.now (row s.waiting c.in-Some.cell) c.as_slice-next-items.result.now
          (record { taken = set s.taken c.in-Some.cell true; passed = s.passed; waiting = set s.waiting c.in-Some.cell []; ready = c.pop_least.new.ready.keys; order = s.order ++ c.in-Some.cell ∷ [] })
          (tables c.mark.new.self) c.mark.ensures.taken c.mark.ensures.passed c.in_ok-waited.ensures.waiting c.mark.ensures.ready c.in_ok-waited.ensures.order
          (c.as_slice-next-items.ensures ∙ c.in_ok-waited.ensures.waited)
          (taken_next c.args.graph.now s c.in-Some.cell c.pop_least.new.ready.keys c.requires.sound c.in-Some.ensures);
      order = refl;
    }

pub place-requires-clause-cell : goal.place-requires-clause-cell
place-requires-clause-cell c =
    let s : Tables = tables c.args.self.now in
    let xs : List ℕ = c.as_slice-next-items.result.now in
    (are_freed c.args.graph.now s c.in-Some.cell c.pop_least.new.ready.keys c.requires.sound c.in-Some.ensures).cells (get_or xs c.loop-next.next-index 0)
    (subst (λ (ys : List ℕ). Contains ys (get_or xs c.loop-next.next-index 0)) (c.as_slice-next-items.ensures ∙ c.in_ok-waited.ensures.waited) (Contains-get_or xs c.loop-next.next-index 0 (omega (arith, c.loop-next-test.true))))

pub loop-next-preserved : goal.loop-next-preserved
loop-next-preserved c =
    let s : Tables = tables c.args.self.now in
    let g : List (List ℕ) = c.args.graph.now in
    let xs : List ℕ = c.as_slice-next-items.result.now in
    let lt : c.loop-next.next-index < length xs = omega (arith, c.loop-next-test.true) in
    let freed : AreFreed g (s.order ++ c.in-Some.cell ∷ []) (row s.waiting c.in-Some.cell) = are_freed g s c.in-Some.cell c.pop_least.new.ready.keys c.requires.sound c.in-Some.ensures in
    let among : Contains (row s.waiting c.in-Some.cell) (get_or xs c.loop-next.next-index 0) = subst (λ (ys : List ℕ). Contains ys (get_or xs c.loop-next.next-index 0)) (c.as_slice-next-items.ensures ∙ c.in_ok-waited.ensures.waited) (Contains-get_or xs c.loop-next.next-index 0 lt) in
    record {
      sound = c.in_ok-place.ensures.placed (drop (c.loop-next.next-index + 1) xs) (first_left g (tables c.loop-next.self) xs c.loop-next.next-index lt c.loop-next.invariant.sound)
          (λ d. freed.left (get_or xs c.loop-next.next-index 0) among (subst (λ (ys : List ℕ). Contains ys (get_or xs c.loop-next.next-index 0)) (c.loop-next.invariant.order ∙ c.in_ok-waited.ensures.order) d));
      order = c.in_ok-place.ensures.order ∙ c.loop-next.invariant.order;
    }
