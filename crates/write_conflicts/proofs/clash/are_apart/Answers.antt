use Rattle.std.proofs.Common.{◌∙◌, sym, arith}
use Rattle.write_conflicts.proofs.ClashLemmas.{apart_short}
use Rattle.write_conflicts.proofs.clash.are_apart.Goals as goal

pub returns-then-at-other : goal.returns-then-at-other
returns-then-at-other c = sym (c.loop-at.invariant ∙ apart_short c.args.way.now c.args.other.now c.loop-at.at (omega (arith, c.if-at-other.true)))
