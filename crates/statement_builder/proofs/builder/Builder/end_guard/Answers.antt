use Rattle.statement_builder.proofs.GuardLemmas.{delayed_ended, guard_ended}
use Rattle.statement_builder.proofs.builder.Builder.end_guard.Goals as goal

pub returns : goal.returns
returns c = delayed_ended c.args.self.now c.args.guard.abort c.args.guard.weak c.args.guard.immediate c.args.cond c.args.go c.args.end c.if-guard.false

pub returns-then-guard : goal.returns-then-guard
returns-then-guard c = guard_ended c.args.self.now c.end_immediate.new.self c.args.guard.abort c.args.guard.weak c.args.guard.immediate c.args.cond c.args.go c.args.end c.in_ok-ended.ended c.if-guard.true c.in_ok-ended.ensures
