use Rattle.quartz_tree.specs.Tree.{tree as plain}
use Rattle.statement_builder.proofs.GuardLemmas.{delayed_begun, guard_begun}
use Rattle.statement_builder.proofs.builder.Builder.begin_guard.Goals as goal

pub returns : goal.returns
returns c = delayed_begun c.args.self.now c.args.vars.now c.args.guard.abort c.args.guard.weak c.args.guard.immediate (plain c.args.cond.now) c.args.label c.args.go c.args.step c.if-guard.false

pub returns-then-guard : goal.returns-then-guard
returns-then-guard c = guard_begun c.args.self.now c.begin_immediate.new.self c.args.vars.now c.args.guard.abort c.args.guard.weak c.args.guard.immediate (plain c.args.cond.now) c.args.label c.args.go c.args.step c.in_ok-begun.begun c.if-guard.true c.in_ok-begun.ensures
