use Rattle.quartz_tree.specs.Tree.{tree as plain}
use Rattle.statement_builder.proofs.GuardLemmas.{suspends}
use Rattle.statement_builder.proofs.builder.Builder.suspend_labels.Goals as goal

pub returns : goal.returns
returns c = suspends c.args.self.now c.in_of.new.self c.and_of.new.self c.test_cond.new.self c.and_of-2.new.self c.and_of-3.new.self c.or_of.new.self c.args.vars.now (plain c.args.cond.now) c.args.label c.args.labels c.args.res c.args.step c.args.stay
    c.in_ok-within.within c.in_ok-inside.inside c.in_ok-cond.cond c.in_ok-moves.moves c.in_ok-rests.rests c.in_ok-stays.stays
    c.in_ok-within.ensures c.in_ok-inside.ensures c.in_ok-cond.ensures c.in_ok-moves.ensures c.in_ok-rests.ensures c.in_ok-stays.ensures
