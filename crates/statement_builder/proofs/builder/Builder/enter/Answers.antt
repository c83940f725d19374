use Rattle.statement_builder.proofs.NotingLemmas.{entered}
use Rattle.statement_builder.proofs.builder.Builder.enter.Goals as goal

pub returns : goal.returns
returns c = entered c.args.self.now c.push.new.self c.args.label c.args.under c.in_ok-push.ensures.ok
