use Rattle.statement_cells.proofs.NextLemmas.{solution_is_macro_step}
use Rattle.statement_cells.proofs.StartLemmas.{initial_registers_stand}
use Rattle.statement_cells.proofs.law.solutions_are_macro_steps.Goals as goal

pub returns : goal.returns
returns c = record { start = initial_registers_stand; step = solution_is_macro_step }
