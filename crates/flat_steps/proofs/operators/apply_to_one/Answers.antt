use Rattle.aif_cells.proofs.WorthLemmas.{negated}
use Rattle.flat_steps.proofs.operators.apply_to_one.Goals as goal

pub returns-in-Neg : goal.returns-in-Neg
returns-in-Neg c = rw c.in-Neg.is (negated c.args.a c.wrapping_neg.result c.ranges.a (record { sfits = c.wrapping_neg.type_inv }) c.wrapping_neg.ensures)
