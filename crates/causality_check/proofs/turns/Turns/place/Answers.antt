use Rattle.std.proofs.Common.{List, ℕ, arith, length, Contains, get_or, subst, ap, ◌∙◌, ◌<◌, ◌≡◌, [], ◌∷◌, ◌++◌, Bool, true, false}
use Rattle.std.proofs.lemmas.List.{get_or_read}
use Rattle.std.proofs.lemmas.List.Elements.{Contains-get_or}
use Rattle.causality_check.specs.Turns.{tables}
use Rattle.causality_check.proofs.TurnLemmas.{place_waits, place_is_ready}
use Rattle.causality_check.proofs.turns.Turns.place.Goals as goal

pub next_left-at-requires-clause-cells : goal.next_left-at-requires-clause-cells
next_left-at-requires-clause-cells c = λ k d lt.
    let h : get_or c.needed_by-needed.result.now k d < length c.args.graph.now = c.requires.closed c.args.cell (get_or c.needed_by-needed.result.now k d) (subst (λ (xs : List ℕ). Contains xs (get_or c.needed_by-needed.result.now k d)) c.needed_by-needed.ensures (Contains-get_or c.needed_by-needed.result.now k d lt)) in
    let l : length c.as_slice.result.now ≡ length c.args.self.now.taken.items = ap length c.as_slice.ensures.value in
    omega (arith, h, l, c.requires.fit.taken)

pub index_mut-requires-then-at-needed : goal.index_mut-requires-then-at-needed
index_mut-requires-then-at-needed c =
    let h : get_or c.needed_by-needed.result.now c.next_left-at.result 0 < length c.args.graph.now = c.requires.closed c.args.cell (get_or c.needed_by-needed.result.now c.next_left-at.result 0) (subst (λ (xs : List ℕ). Contains xs (get_or c.needed_by-needed.result.now c.next_left-at.result 0)) c.needed_by-needed.ensures (Contains-get_or c.needed_by-needed.result.now c.next_left-at.result 0 c.if-at-needed.true)) in
    omega (arith, h, c.requires.fit.waiting, c.args.self.now.waiting.ok.0)

pub returns-in_ok-push-clause-placed : goal.returns-in_ok-push-clause-placed
returns-in_ok-push-clause-placed c = λ rest p nk.
    let at : ℕ = c.next_left-at.result in
    let needed : List ℕ = c.needed_by-needed.result.now in
    let h : get_or needed at 0 < length c.args.graph.now = c.requires.closed c.args.cell (get_or needed at 0) (subst (λ (xs : List ℕ). Contains xs (get_or needed at 0)) c.needed_by-needed.ensures (Contains-get_or needed at 0 c.if-at-needed.true)) in
    place_waits c.args.graph.now (tables c.args.self.now) c.args.cell at rest c.requires.closed c.requires.cell needed c.needed_by-needed.ensures
    c.index.result.now (get_or_read c.args.self.now.passed.items c.args.cell c.index.result.now (omega (arith, c.requires.cell, c.requires.fit.passed)) c.index.ensures 0)
    c.push.new.self (c.in_ok-push.ensures.ok ∙ ap (λ (xs : List ℕ). xs ++ c.args.cell ∷ []) (get_or_read c.args.self.now.waiting.items (get_or needed at 0) c.index_mut-then-at-needed.result.now (omega (arith, h, c.requires.fit.waiting)) c.index_mut-then-at-needed.ensures.value []))
    c.if-at-needed.true
    (λ i a b. subst (λ (bs : List Bool). get_or bs (get_or needed i 0) false ≡ true) c.as_slice.ensures.value (c.next_left-at.ensures.taken i a b))
    (subst (λ (bs : List Bool). get_or bs (get_or needed at 0) false ≡ false) c.as_slice.ensures.value (c.next_left-at.ensures.left c.if-at-needed.true))
    p

pub returns-in_ok-add-clause-placed : goal.returns-in_ok-add-clause-placed
returns-in_ok-add-clause-placed c = λ rest p nk.
    place_is_ready c.args.graph.now (tables c.args.self.now) c.args.cell c.next_left-at.result rest c.add.new.ready.keys c.requires.cell c.needed_by-needed.result.now c.needed_by-needed.ensures
    c.index.result.now (get_or_read c.args.self.now.passed.items c.args.cell c.index.result.now (omega (arith, c.requires.cell, c.requires.fit.passed)) c.index.ensures 0)
    c.next_left-at.ensures.within c.if-at-needed.false
    (λ i a b. subst (λ (bs : List Bool). get_or bs (get_or c.needed_by-needed.result.now i 0) false ≡ true) c.as_slice.ensures.value (c.next_left-at.ensures.taken i a b))
    c.in_ok-add.ensures p nk
