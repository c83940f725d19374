-- The interval holds the expression's values, since the interval of the definition does.
use Rattle.std.proofs.Common.{◌≡◌, subst, sym, rules}
use Rattle.std.specs.Prelude.{ℤ}
use mir.Val.{to_z, of_z}
use mir.Syntax.{w64}
use Rattle.quartz_expr.specs.Intervals.{interval, span}
use Rattle.quartz_tree.specs.Tree.{tree}
use Rattle.quartz_types.specs.Laws.{HoldsItsValues}
use Rattle.quartz_types.proofs.SoundLemmas.{interval_holds}
use Rattle.quartz_types.proofs.bounded.interval.Goals as goal

-- a number as a call passes it
abbrev passed : ℤ → ℤ
passed z = to_z w64 (of_z w64 z)

pub returns-clause-sound : goal.returns-clause-sound
returns-clause-sound c =
    let is : span (passed c.judge_bounds.result.bounds.low) (passed c.judge_bounds.result.bounds.high) ≡ interval c.args.vars.now (tree c.args.e.now) = search rules in
    subst (HoldsItsValues c.args.vars.now (tree c.args.e.now)) (sym is) (interval_holds c.args.vars.now (tree c.args.e.now))
