use Rattle.aif_cells.proofs.WorthLemmas.{all_bits}
use Rattle.flat_steps.proofs.operators.lowest.Goals as goal

pub returns-else-more-lt63 : goal.returns-else-more-lt63
returns-else-more-lt63 c = all_bits c.args.bits c.args.more (c.ranges.bits).fits c.if-more-lt63.false
