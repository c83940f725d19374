use Rattle.step_laws.proofs.ConditionLemmas.{typed_conditions}
use Rattle.step_laws.proofs.law.typed_conditions_are_truth_values.Goals as goal

pub returns : goal.returns
returns c = typed_conditions
