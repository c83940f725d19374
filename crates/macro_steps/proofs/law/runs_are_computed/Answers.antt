use Rattle.macro_steps.proofs.EvaluateLemmas.{order_forgets, order_solves}
use Rattle.macro_steps.proofs.RunLemmas.{computed_is_run, run_is_computed}
use Rattle.macro_steps.proofs.law.runs_are_computed.Goals as goal

pub returns : goal.returns
returns c = record { solves = order_solves; forgets = order_forgets; is_run = computed_is_run; only_run = run_is_computed }
