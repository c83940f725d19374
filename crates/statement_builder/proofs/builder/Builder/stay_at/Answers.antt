use Rattle.statement_builder.proofs.NotingLemmas.{stayed}
use Rattle.statement_builder.proofs.builder.Builder.stay_at.Goals as goal

pub returns : goal.returns
returns c = stayed c.args.self.now c.push.new.self c.args.label c.args.under c.in_ok-push.ensures.ok
