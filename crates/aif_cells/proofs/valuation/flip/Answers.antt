use Rattle.aif_cells.proofs.WorthLemmas.{flips}
use Rattle.aif_cells.proofs.valuation.flip.Goals as goal

pub returns : goal.returns
returns c = flips c.args.width c.args.a c.power.result c.power.ensures
