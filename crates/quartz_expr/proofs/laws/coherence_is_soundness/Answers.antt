-- Both directions, by the lemmas on single elements.
use Rattle.quartz_expr.proofs.CoherentLemmas.{coherent_steps, step_coheres}
use Rattle.quartz_expr.proofs.laws.coherence_is_soundness.Goals as goal

pub returns : goal.returns
returns c = λ vs s ins outs l. (coherent_steps vs s ins outs, λ m. step_coheres vs s ins outs m.0 l m.1)
