use Rattle.linked_trees.proofs.LawLemmas.{linked_has_same_runs}
use Rattle.linked_trees.proofs.law.linked_modules_have_the_same_runs.Goals as goal

pub returns : goal.returns
returns c = linked_has_same_runs
