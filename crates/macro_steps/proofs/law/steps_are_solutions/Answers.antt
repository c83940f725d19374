use Rattle.macro_steps.proofs.StatedLemmas.{coherence, completeness, marks}
use Rattle.macro_steps.proofs.law.steps_are_solutions.Goals as goal

pub returns : goal.returns
returns c = record { complete = completeness; coherent = coherence; marks = marks }
