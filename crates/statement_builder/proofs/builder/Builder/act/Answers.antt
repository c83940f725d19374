use Rattle.statement_builder.proofs.NotingLemmas.{acted}
use Rattle.statement_builder.proofs.builder.Builder.act.Goals as goal

pub returns : goal.returns
returns c = acted c.args.self.now c.push.new.self c.write_to.new.variables c.args.action c.in_ok-write_to.ensures c.in_ok-push.ensures.ok
