use Rattle.std.proofs.Common.{arith}
use Rattle.std.specs.Prelude.{length}
use Rattle.absence_reaction.proofs.CopyLemmas.{below_in}
use Rattle.absence_reaction.proofs.closing.close_all.Goals as goal

pub close_element-requires-clause-cell : goal.close_element-requires-clause-cell
close_element-requires-clause-cell c =
    omega (arith, c.loop-element.invariant.longer, below_in (length c.args.cells.now) c.args.copy.now.values c.as_slice-cell-items.result.now c.loop-element.element c.as_slice-cell-items.ensures c.requires.values c.loop-element-test.true)
