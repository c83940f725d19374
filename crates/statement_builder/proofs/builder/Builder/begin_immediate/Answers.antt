use Rattle.quartz_tree.specs.Tree.{tree as plain}
use Rattle.statement_builder.proofs.GuardLemmas.{immediate_begun}
use Rattle.statement_builder.proofs.builder.Builder.begin_immediate.Goals as goal

pub returns : goal.returns
returns c = immediate_begun c.args.self.now c.test_cond.new.self c.enter_wait.new.self c.not_of.new.self c.block_body.new.self c.args.vars.now c.args.guard.abort c.args.guard.weak (plain c.args.cond.now) c.args.label c.in_ok-label.label c.args.go c.args.step
    c.in_ok-cond.cond c.in_ok-unless.unless c.in_ok-begun.begun c.in_ok-cond.ensures c.in_ok-label.ensures c.in_ok-unless.ensures c.in_ok-begun.ensures
