use Rattle.call_rules.proofs.SizeLemmas.{linked_has_size}
use Rattle.call_rules.proofs.law.linked_sizes_are_counted.Goals as goal

pub returns : goal.returns
returns c = linked_has_size
