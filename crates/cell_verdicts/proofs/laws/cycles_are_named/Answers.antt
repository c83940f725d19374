use Rattle.cell_verdicts.proofs.CycleLemmas.{cycles_are_named}
use Rattle.cell_verdicts.proofs.ValueLemmas.{cycles_begin_at_value_cells}
use Rattle.cell_verdicts.proofs.laws.cycles_are_named.Goals as goal

pub returns-clause-named : goal.returns-clause-named
returns-clause-named c = cycles_are_named

pub returns-clause-first : goal.returns-clause-first
returns-clause-first c = cycles_begin_at_value_cells
