use Rattle.statement_cells.proofs.OpenWalkLemmas.{all_go_on, all_start}
use Rattle.statement_cells.proofs.law.open_walk.Goals as goal

pub returns : goal.returns
returns c = record { starts = all_start; goes_on = all_go_on }
