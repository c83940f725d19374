use Rattle.std.proofs.Common.{◌≡◌, ◌≢◌, ◌∙◌, pos, neg_ℤ, ◌-ℤ◌, ap, ap₂, rules}
use Rattle.std.specs.Int.{int_max, int_min}
use Rattle.quartz_expr.specs.Intervals.{span}
use Rattle.quartz_types.proofs.EndLemmas.{remainder_is}
use Rattle.quartz_types.proofs.range.remainder.Goals as goal

pub returns : goal.returns
returns c =
    let made : span c.from_to-2.result.low c.from_to-2.result.high ≡ span (neg_ℤ c.clipped-low.result) c.clipped.result = search rules in
    let first : c.widened.result ≡ c.args.a.low = search rules in
    let second : c.opposite.result ≡ neg_ℤ c.widened.result = search rules in
    let third : c.clipped-low.result ≡ int_min (int_max (pos 0) c.opposite.result) c.one_less-most.result = search rules in
    let fourth : c.widened-2.result ≡ c.args.a.high = search rules in
    let fifth : c.clipped.result ≡ int_min (int_max (pos 0) c.widened-2.result) c.one_less-most.result = search rules in
    let most : c.one_less-most.result ≡ c.size-greatest.result -ℤ pos 1 = search rules in
    let below : c.clipped-low.result ≡ int_min (int_max (pos 0) (neg_ℤ c.args.a.low)) (c.size-greatest.result -ℤ pos 1) =
    third ∙ ap₂ (λ z m. int_min (int_max (pos 0) z) m) (second ∙ ap neg_ℤ first) most in
    let above : c.clipped.result ≡ int_min (int_max (pos 0) c.args.a.high) (c.size-greatest.result -ℤ pos 1) =
    fifth ∙ ap₂ (λ z m. int_min (int_max (pos 0) z) m) fourth most in
    let some : c.size-greatest.result ≢ pos 0 = search rules in
    made ∙ remainder_is (span c.args.a.low c.args.a.high) (span c.args.b.low c.args.b.high) c.size-greatest.result c.clipped-low.result c.clipped.result c.size-greatest.ensures.value some below above
