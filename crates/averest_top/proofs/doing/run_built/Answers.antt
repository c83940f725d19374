use Rattle.std.proofs.Common.{inr}
use Rattle.averest_top.proofs.doing.run_built.Goals as goal

pub returns-in-Ok-clause-done : goal.returns-in-Ok-clause-done
returns-in-Ok-clause-done g c = λ vs body x. inr (c.in-Ok.ensures.read_fault, c.in-Ok.ensures.write_fault, c.in-Ok.ensures.told vs body x)
