use Rattle.quartz_tree.specs.Tree.{tree as plain}
use Rattle.statement_builder.proofs.TestLemmas.{both_tested}
use Rattle.statement_builder.proofs.builder.Builder.test_cond.Goals as goal

pub returns : goal.returns
returns c = both_tested c.args.self.now c.watch_faults.new.self c.cell_for.new.self c.args.vars.now (plain c.args.cond.now) c.args.guard c.in_ok-made.made c.in_ok-watch_faults.ensures c.in_ok-made.ensures
