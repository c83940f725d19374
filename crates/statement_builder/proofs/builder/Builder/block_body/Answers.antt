use Rattle.statement_builder.proofs.GuardLemmas.{blocked_strong, blocked_weak}
use Rattle.statement_builder.proofs.builder.Builder.block_body.Goals as goal

pub returns-then-weak : goal.returns-then-weak
returns-then-weak c = blocked_weak c.args.self.now c.and_of.new.self c.args.weak c.args.body.cond c.args.unless c.args.body.go c.args.body.step c.in_ok-step.step c.args.body.label c.if-weak.true c.in_ok-step.ensures

pub returns : goal.returns
returns c = blocked_strong c.args.self.now c.and_of-2.new.self c.args.weak c.args.body.cond c.args.unless c.args.body.go c.args.body.step c.in_ok-go.go c.args.body.label c.if-weak.false c.in_ok-go.ensures
