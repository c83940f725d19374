use Rattle.statement_builder.proofs.GuardLemmas.{strong_ended, weak_ended}
use Rattle.statement_builder.proofs.builder.Builder.end_suspend.Goals as goal

pub returns : goal.returns
returns c = strong_ended c.args.self.now c.args.weak c.args.cond c.args.end c.if-weak.false

pub returns-then-weak : goal.returns-then-weak
returns-then-weak c = weak_ended c.args.self.now c.not_of.new.self c.and_of.new.self c.args.weak c.args.cond c.args.end c.in_ok-unless.unless c.in_ok-made.made c.if-weak.true c.in_ok-unless.ensures c.in_ok-made.ensures
