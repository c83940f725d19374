use Rattle.std.proofs.Common.{ℕ, List, ◌<◌, ◌+◌, inl, inr, length, Contains, get_or, subst, sym, arith}
use Rattle.std.proofs.lemmas.Bool.{MatchBool-at_true, MatchBool-at_false, cases_eq}
use Rattle.std.proofs.lemmas.List.Elements.{Contains-get_or}
use Rattle.causality_check.specs.Graph.{row}
use Rattle.causality_check.specs.Shortest.{NeedsOwn}
use Rattle.causality_check.proofs.ShortestLemmas.{least_is, ranks_fall}
use Rattle.causality_check.proofs.cycle.least_on_cycle.Goals as goal

below_more : (g : List (List ℕ)) (ranks : List ℕ) (k : ℕ) → (NeedsOwn ranks k (row g k) → ⊥) → ((j : ℕ) → j < k → NeedsOwn ranks j (row g j) → ⊥) → (j : ℕ) → j < k + 1 → NeedsOwn ranks j (row g j) → ⊥
below_more g ranks k none f j lt own = elim (cases_eq j k) [ inl e ↦ none (subst (λ (m : ℕ). NeedsOwn ranks m (row g m)) e own) | inr ne ↦ f j (omega (arith, lt, ne)) own ]

pub needs_own-requires-clause-needed : goal.needs_own-requires-clause-needed
needs_own-requires-clause-needed c = λ k d lt.
    let xs : List ℕ = c.needed_by.result.now in
    let h : get_or xs k d < length c.args.graph.now = c.requires.closed c.loop-cell.cell (get_or xs k d) (subst (λ (ys : List ℕ). Contains ys (get_or xs k d)) c.needed_by.ensures (Contains-get_or xs k d lt)) in
    omega (arith, h, c.requires.components.count)

pub returns-then-needs_own : goal.returns-then-needs_own
returns-then-needs_own c = least_is c.args.graph.now c.args.ranks.now c.loop-cell.cell c.requires.components (subst (NeedsOwn c.args.ranks.now c.loop-cell.cell) c.needed_by.ensures (MatchBool-at_true _ _ c.if-needs_own.true c.needs_own.ensures)) c.loop-cell.invariant

pub loop-cell-preserved : goal.loop-cell-preserved
loop-cell-preserved c = below_more c.args.graph.now c.args.ranks.now c.loop-cell.cell (λ own. MatchBool-at_false _ _ c.if-needs_own.false c.needs_own.ensures (subst (NeedsOwn c.args.ranks.now c.loop-cell.cell) (sym c.needed_by.ensures) own)) c.loop-cell.invariant

pub returns : goal.returns
returns c = ranks_fall c.args.graph.now c.args.ranks.now c.loop-cell.cell (omega (arith, c.loop-cell-test.false)) c.requires.components c.loop-cell.invariant
