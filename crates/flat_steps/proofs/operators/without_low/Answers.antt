use Rattle.aif_cells.proofs.WorthLemmas.{no_bits}
use Rattle.flat_steps.proofs.operators.without_low.Goals as goal

pub returns-else-low-lt64 : goal.returns-else-low-lt64
returns-else-low-lt64 c = no_bits c.args.bits c.args.low (c.ranges.bits).fits c.if-low-lt64.false
