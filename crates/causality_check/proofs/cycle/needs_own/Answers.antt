use Rattle.std.proofs.Common.{ℕ, List, ◌≡◌, ◌<◌, ◌+◌, inl, inr, length, take, Contains, get_or, subst, sym, ap, ◌∙◌, arith}
use Rattle.std.proofs.lemmas.List.{take_more, take_all}
use Rattle.std.proofs.lemmas.List.Elements.{Contains-push_cases}
use Rattle.causality_check.proofs.cycle.needs_own.Goals as goal

-- one more cell that isn't of the same component
more : (ranks needed : List ℕ) (k i : ℕ) → i < length needed → (get_or ranks (get_or needed i 0) 0 ≡ get_or ranks k 0 → ⊥)
    → ((d : ℕ) → Contains (take i needed) d → get_or ranks d 0 ≡ get_or ranks k 0 → ⊥)
    → (d : ℕ) → Contains (take (i + 1) needed) d → get_or ranks d 0 ≡ get_or ranks k 0 → ⊥
more ranks needed k i lt ne f d c e = elim (Contains-push_cases (take i needed) (get_or needed i 0) d (subst (λ (xs : List ℕ). Contains xs d) (take_more needed i 0 lt) c)) [
  | inl o ↦ f d o e
  | inr q ↦ ne (ap (λ (m : ℕ). get_or ranks m 0) q ∙ e)
]

pub loop-other-preserved : goal.loop-other-preserved
loop-other-preserved c = more c.args.ranks.now c.args.needed.now c.args.cell c.loop-other.other-index (omega (arith, c.loop-other-test.true)) c.if-ranks-other.false c.loop-other.invariant

pub returns : goal.returns
returns c = λ o. c.loop-other.invariant o.0 (subst (λ (xs : List ℕ). Contains xs o.0) (sym (take_all c.loop-other.other-index c.args.needed.now (omega (arith, c.loop-other-test.false)))) o.1) o.2
