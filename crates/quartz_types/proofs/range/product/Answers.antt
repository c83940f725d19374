use Rattle.std.proofs.Common.{◌≡◌, ◌∙◌, ◌*ℤ◌, rules}
use Rattle.quartz_expr.specs.Intervals.{hull, only, span}
use Rattle.quartz_types.proofs.EndLemmas.{ends_are}
use Rattle.quartz_types.proofs.range.product.Goals as goal

pub returns : goal.returns
returns c =
    let made : span c.of_ends.result.low c.of_ends.result.high ≡ hull (hull (only c.product_of.result) (only c.product_of-2.result)) (hull (only c.product_of-3.result) (only c.product_of-4.result)) = search rules in
    let end-1 : c.product_of.result ≡ c.args.a.low *ℤ c.args.b.low = search rules in
    let end-2 : c.product_of-2.result ≡ c.args.a.low *ℤ c.args.b.high = search rules in
    let end-3 : c.product_of-3.result ≡ c.args.a.high *ℤ c.args.b.low = search rules in
    let end-4 : c.product_of-4.result ≡ c.args.a.high *ℤ c.args.b.high = search rules in
    made ∙ ends_are _ _ _ _ _ _ _ _ end-1 end-2 end-3 end-4
