use Rattle.quartz_tree.specs.Tree.{tree as plain}
use Rattle.statement_builder.proofs.GuardLemmas.{suspend_begun}
use Rattle.statement_builder.proofs.builder.Builder.begin_suspend.Goals as goal

pub returns : goal.returns
returns c = suspend_begun c.args.self.now c.suspend_labels.new.self c.not_of.new.self c.block_body.new.self c.args.vars.now c.args.weak (plain c.args.cond.now) c.args.label c.args.labels c.args.res c.args.step c.args.stay
    c.in_ok-cond.cond c.in_ok-cond.stay c.in_ok-unless.unless c.in_ok-body.body c.in_ok-cond.ensures c.in_ok-unless.ensures c.in_ok-body.ensures
