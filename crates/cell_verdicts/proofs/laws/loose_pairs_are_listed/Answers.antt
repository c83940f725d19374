use Rattle.cell_verdicts.proofs.PairLemmas.{loose_pairs_are_listed}
use Rattle.cell_verdicts.proofs.laws.loose_pairs_are_listed.Goals as goal

pub returns : goal.returns
returns c = loose_pairs_are_listed
