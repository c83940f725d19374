use Rattle.std.proofs.Common.{rules}
use Rattle.aif_cells.proofs.WorthLemmas.{divided}
use Rattle.flat_steps.proofs.operators.divide.Goals as goal

pub returns-else-b-eq0 : goal.returns-else-b-eq0
returns-else-b-eq0 c = divided c.args.a c.args.b c.wrapping_div.result c.ranges.a c.ranges.b (record { sfits = c.wrapping_div.type_inv }) (search rules) c.wrapping_div.ensures
