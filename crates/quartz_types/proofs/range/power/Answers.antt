use Rattle.std.proofs.Common.{◌≤◌, ◌^◌, arith}
use Rattle.std.proofs.Math.Nat.{pow-le-pow_right}
use Rattle.std.proofs.lemmas.Int.{ints}
use Rattle.quartz_types.proofs.range.power.Goals as goal

pub returns-clause-value : goal.returns-clause-value
returns-clause-value c =
    let h : 2 ^ c.args.width ≤ 2 ^ 62 = pow-le-pow_right (omega arith) c.requires in
    omega (arith, ints, h)

pub returns-clause-positive : goal.returns-clause-positive
returns-clause-positive c =
    let h : 2 ^ c.args.width ≤ 2 ^ 62 = pow-le-pow_right (omega arith) c.requires in
    let z : 0 ≤ c.args.width = omega arith in
    let k : 2 ^ 0 ≤ 2 ^ c.args.width = pow-le-pow_right (omega arith) z in
    omega (arith, ints, h, k)
