use Rattle.quartz_tree.specs.Tree.{tree as plain}
use Rattle.statement_builder.proofs.ResumeLemmas.{repeat_given}
use Rattle.statement_builder.proofs.builder.Builder.repeat.Goals as goal

pub returns : goal.returns
returns c = repeat_given c.args.self.now c.test_cond.new.self c.and_of.new.self c.args.vars.now (plain c.args.cond.now) c.args.end c.in_ok-cond.cond c.in_ok-go.go c.in_ok-cond.ensures c.in_ok-go.ensures
