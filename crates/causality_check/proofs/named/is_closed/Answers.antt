use Rattle.std.proofs.Common.{ℕ, List, ◌≡◌, ◌∙◌, ◌<◌, ◌+◌, [], inl, inr, All, length, get_or, subst, sym, arith}
use Rattle.std.proofs.lemmas.Bool.{MatchBool-at_true, MatchBool-at_false, cases_eq}
use Rattle.std.proofs.lemmas.List.{get_or_read}
use Rattle.causality_check.specs.Graph.{row}
use Rattle.causality_check.proofs.GraphLemmas.{closed_from, open_from}
use Rattle.causality_check.proofs.named.is_closed.Goals as goal

-- the row that was read
row_read : (g : List (List ℕ)) (i : ℕ) (x xs : List ℕ) → i < length g → x ≡ get_or g i x → xs ≡ x → xs ≡ row g i
row_read g i x xs lt e f = f ∙ get_or_read g i x lt e []

more : (g : List (List ℕ)) (i n : ℕ) → All (λ d. d < n) (row g i) → ((k : ℕ) → k < i → All (λ d. d < n) (row g k)) → (k : ℕ) → k < i + 1 → All (λ d. d < n) (row g k)
more g i n all f k lt = elim (cases_eq k i) [ inl e ↦ subst (λ (m : ℕ). All (λ d. d < n) (row g m)) (sym e) all | inr ne ↦ f k (omega (arith, lt, ne)) ]

pub returns-then-not-below : goal.returns-then-not-below
returns-then-not-below c = open_from c.args.graph.now c.loop-row.row-index (λ all. MatchBool-at_false _ _ c.if-not-below.true c.are_below-below.ensures
    (subst (All (λ d. d < length c.args.graph.now)) (sym (row_read c.args.graph.now c.loop-row.row-index c.row-item.result c.as_slice.result.now (omega (arith, c.loop-row-test.true)) c.row-item.is c.as_slice.ensures)) all))

pub loop-row-preserved : goal.loop-row-preserved
loop-row-preserved c = more c.args.graph.now c.loop-row.row-index (length c.args.graph.now)
    (subst (All (λ d. d < length c.args.graph.now)) (row_read c.args.graph.now c.loop-row.row-index c.row-item.result c.as_slice.result.now (omega (arith, c.loop-row-test.true)) c.row-item.is c.as_slice.ensures)
    (MatchBool-at_true _ _ c.if-not-below.false c.are_below-below.ensures))
    c.loop-row.invariant

pub returns : goal.returns
returns c = closed_from c.args.graph.now c.loop-row.row-index (omega (arith, c.loop-row-test.false)) c.loop-row.invariant
