use Rattle.aif_cells.proofs.SolutionLemmas.{bound_cells_are_met, extension_keeps, extensions_follow, freeing_keeps}
use Rattle.aif_cells.proofs.laws.extension_keeps_equations.Goals as goal

pub returns-clause-keeps : goal.returns-clause-keeps
returns-clause-keeps c = extension_keeps

pub returns-clause-follow : goal.returns-clause-follow
returns-clause-follow c = extensions_follow

pub returns-clause-freeing : goal.returns-clause-freeing
returns-clause-freeing c = freeing_keeps

pub returns-clause-bound : goal.returns-clause-bound
returns-clause-bound c = bound_cells_are_met
