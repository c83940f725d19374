use Rattle.module_link.proofs.MeaningLemmas.{means_the_same}
use Rattle.module_link.proofs.law.linked_modules_mean_the_same.Goals as goal

pub returns : goal.returns
returns c = means_the_same
