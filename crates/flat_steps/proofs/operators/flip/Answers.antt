use Rattle.aif_cells.proofs.WorthLemmas.{flips}
use Rattle.flat_steps.proofs.operators.flip.Goals as goal

pub returns : goal.returns
returns c = flips c.args.width c.args.a c.power.result c.power.ensures
