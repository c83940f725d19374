use Rattle.std.proofs.Common.{◌≡◌, ◌∙◌, ap₂, arith, rules}
use Rattle.std.proofs.lemmas.Int.{ints}
use Rattle.std.specs.Int.{int_max, int_min}
use Rattle.quartz_expr.specs.Intervals.{span}
use Rattle.quartz_types.proofs.range.of_ends.Goals as goal

pub from_to-requires : goal.from_to-requires
from_to-requires c = omega (arith, ints, c.lesser-3.ensures.left, c.lesser.ensures.left, c.greater.ensures.left, c.greater-3.ensures.left)

pub returns : goal.returns
returns c =
    let made : span c.from_to.result.low c.from_to.result.high ≡ span c.lesser-3.result c.greater-3.result = search rules in
    let low : c.lesser-3.result ≡ int_min c.lesser.result c.lesser-2.result = search rules in
    let high : c.greater-3.result ≡ int_max c.greater.result c.greater-2.result = search rules in
    let first : c.lesser.result ≡ int_min c.args.a c.args.b = search rules in
    let second : c.lesser-2.result ≡ int_min c.args.c c.args.d = search rules in
    let third : c.greater.result ≡ int_max c.args.a c.args.b = search rules in
    let fourth : c.greater-2.result ≡ int_max c.args.c c.args.d = search rules in
    made ∙ ap₂ span (low ∙ ap₂ int_min first second) (high ∙ ap₂ int_max third fourth)
