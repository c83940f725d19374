use Rattle.linked_trees.proofs.LawLemmas.{uncalled_is_itself}
use Rattle.linked_trees.proofs.law.modules_without_calls_are_linked_to_themselves.Goals as goal

pub returns : goal.returns
returns c = uncalled_is_itself
