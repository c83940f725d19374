-- The value lies in the interval, since the value of each typed expression does.
use Rattle.std.proofs.Common.{rules}
use Rattle.std.proofs.lemmas.Int.{to_z-of_z}
use mir.Val.{SFits}
use mir.Syntax.{w64}
use Rattle.quartz_tree.specs.Tree.{tree}
use Rattle.quartz_expr.proofs.WithinLemmas.{within}
use Rattle.quartz_expr.proofs.evaluate.eval.Goals as goal

pub returns-clause-within : goal.returns-clause-within
returns-clause-within c =
    let fits : SFits w64 c.evaluated.result.value = search rules in
    rw (to_z-of_z w64 c.evaluated.result.value fits, c.evaluated.ensures.value) (within c.args.vars.now c.args.env.now.values (tree c.args.e.now) c.requires.sound c.requires.typed c.requires.fits)
