use Rattle.cell_run.proofs.ExecuteLemmas.{compiled_cells_execute}
use Rattle.cell_run.proofs.law.compiled_cells_execute.Goals as goal

pub returns : goal.returns
returns c = compiled_cells_execute
