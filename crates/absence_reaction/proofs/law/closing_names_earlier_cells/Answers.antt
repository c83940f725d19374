use Rattle.absence_reaction.proofs.EarlierLemmas.{closing_names_earlier}
use Rattle.absence_reaction.proofs.law.closing_names_earlier_cells.Goals as goal

pub returns : goal.returns
returns c = closing_names_earlier
