use Rattle.macro_steps.proofs.AcyclicLemmas.{acyclic_has_order, ordered_is_acyclic}
use Rattle.macro_steps.proofs.StatedLemmas.{solution_is_one}
use Rattle.macro_steps.proofs.law.ordered_cells_are_acyclic.Goals as goal

pub returns : goal.returns
returns c = record { order = acyclic_has_order; acyclic = ordered_is_acyclic; solution = solution_is_one }
