use Rattle.std.proofs.Common.{◌≡◌, ◌∙◌, int_div, rules}
use Rattle.quartz_expr.specs.Intervals.{hull, only, span}
use Rattle.quartz_types.proofs.EndLemmas.{ends_are}
use Rattle.quartz_types.proofs.range.quotient_of_ends.Goals as goal

pub returns : goal.returns
returns c =
    let made : span c.of_ends.result.low c.of_ends.result.high ≡ hull (hull (only c.quotient_of.result) (only c.quotient_of-2.result)) (hull (only c.quotient_of-3.result) (only c.quotient_of-4.result)) = search rules in
    let end-1 : c.quotient_of.result ≡ int_div c.args.a.low c.args.b.low = search rules in
    let end-2 : c.quotient_of-2.result ≡ int_div c.args.a.low c.args.b.high = search rules in
    let end-3 : c.quotient_of-3.result ≡ int_div c.args.a.high c.args.b.low = search rules in
    let end-4 : c.quotient_of-4.result ≡ int_div c.args.a.high c.args.b.high = search rules in
    made ∙ ends_are _ _ _ _ _ _ _ _ end-1 end-2 end-3 end-4
