use Rattle.aif_cells.proofs.WorthLemmas.{stacks}
use Rattle.flat_steps.proofs.operators.stack.Goals as goal

pub returns : goal.returns
returns c = stacks c.args.width c.args.high c.args.low c.power.result c.ranges.high c.ranges.low (record { sfits = c.power.type_inv }) c.power.ensures
