use Rattle.std.proofs.Common.{arith}
use Rattle.statement_builder.proofs.GateLemmas.{in_none, in_one, in_several}
use Rattle.statement_builder.proofs.builder.Builder.in_of.Goals as goal

pub returns-then-labels-eq0 : goal.returns-then-labels-eq0
returns-then-labels-eq0 c = in_none c.args.self.now c.args.first c.args.labels (omega arith)

pub returns-then-labels-eq1 : goal.returns-then-labels-eq1
returns-then-labels-eq1 c = in_one c.args.self.now c.args.first c.args.labels (omega arith)

pub returns : goal.returns
returns c = in_several c.args.self.now c.add.new.self c.args.first c.args.labels c.in_ok-inside.inside _ (omega arith) c.in_ok-either.ensures c.in_ok-inside.ensures
