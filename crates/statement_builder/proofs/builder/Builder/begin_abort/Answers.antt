use Rattle.quartz_tree.specs.Tree.{tree as plain}
use Rattle.statement_builder.proofs.GuardLemmas.{abort_begun}
use Rattle.statement_builder.proofs.builder.Builder.begin_abort.Goals as goal

pub returns : goal.returns
returns c = abort_begun c.args.self.now c.in_of.new.self c.and_of.new.self c.test_cond.new.self c.not_of.new.self c.block_body.new.self c.args.vars.now c.args.weak (plain c.args.cond.now) c.args.label c.args.labels c.args.res c.args.step
    c.in_ok-within.within c.in_ok-inside.inside c.in_ok-cond.cond c.in_ok-unless.unless c.in_ok-body.body c.in_ok-within.ensures c.in_ok-inside.ensures c.in_ok-cond.ensures c.in_ok-unless.ensures c.in_ok-body.ensures
