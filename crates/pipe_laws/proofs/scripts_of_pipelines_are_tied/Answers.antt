-- Both laws of a pipeline's scripts.
use Rattle.pipe_laws.proofs.scripts_of_pipelines_are_tied.Goals as goal
use Rattle.pipe_laws.proofs.Tied.{tied}
use Rattle.pipe_laws.proofs.Popping.{pops_tied}

pub returns : goal.returns
returns c = record { tied = tied; pops = pops_tied }
