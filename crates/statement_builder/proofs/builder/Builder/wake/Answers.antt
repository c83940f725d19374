use Rattle.statement_builder.proofs.GuardLemmas.{body_woken}
use Rattle.statement_builder.proofs.builder.Builder.wake.Goals as goal

pub returns : goal.returns
returns c = body_woken c.args.self.now c.stay_at.new.self c.and_of.new.self c.args.label c.args.go c.args.stay c.in_ok-made.made c.in_ok-stay_at.ensures c.in_ok-made.ensures
