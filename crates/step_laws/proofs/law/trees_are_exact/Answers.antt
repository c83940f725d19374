use Rattle.step_laws.proofs.NextLemmas.{trees_exact}
use Rattle.step_laws.proofs.law.trees_are_exact.Goals as goal

pub returns : goal.returns
returns c = trees_exact
