use Rattle.statement_builder.proofs.GuardLemmas.{immediate_abort_ended, immediate_suspend_ended}
use Rattle.statement_builder.proofs.builder.Builder.end_immediate.Goals as goal

pub returns-then-guard : goal.returns-then-guard
returns-then-guard c = immediate_abort_ended c.args.self.now c.end_abort.new.self c.args.guard.abort c.args.guard.weak c.args.cond c.args.go c.args.end c.in_ok-aborted.aborted c.if-guard.true c.in_ok-aborted.ensures

pub returns : goal.returns
returns c = immediate_suspend_ended c.args.self.now c.end_suspend.new.self c.args.guard.abort c.args.guard.weak c.args.cond c.args.go c.args.end c.in_ok-ended.ended c.if-guard.false c.in_ok-ended.ensures
