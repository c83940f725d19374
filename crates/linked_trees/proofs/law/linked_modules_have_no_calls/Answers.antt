use Rattle.linked_trees.proofs.UncalledLemmas.{linked_has_no_call}
use Rattle.linked_trees.proofs.law.linked_modules_have_no_calls.Goals as goal

pub returns : goal.returns
returns c = linked_has_no_call
