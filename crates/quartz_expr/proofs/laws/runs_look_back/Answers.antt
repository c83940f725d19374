-- A run starts from the initial state.
use Rattle.quartz_expr.specs.Steps.{initial}
use Rattle.quartz_expr.proofs.LawLemmas.{runs_cut}
use Rattle.quartz_expr.proofs.laws.runs_look_back.Goals as goal

pub returns : goal.returns
returns c = λ vs body. runs_cut vs (initial vs body)
