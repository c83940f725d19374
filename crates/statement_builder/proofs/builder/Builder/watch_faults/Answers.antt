use Rattle.quartz_tree.specs.Tree.{tree as plain}
use Rattle.aif_cells.specs.Tree.{value}
use Rattle.statement_cells.specs.Expressions.{tests_of}
use Rattle.expression_cells.specs.Tests.{all_tests}
use Rattle.statement_builder.proofs.TestLemmas.{all_watched, not_watched, tests_alone, watch_of_copies}
use Rattle.statement_builder.proofs.builder.Builder.watch_faults.Goals as goal

pub returns-then-is_zero : goal.returns-then-is_zero
returns-then-is_zero c = not_watched c.args.self.now c.args.vars.now (plain c.args.e.now) c.args.guard c.if-is_zero.ensures

pub returns : goal.returns
returns c = all_watched c.args.self.now c.watch.new.self c.args.vars.now (plain c.args.e.now) c.args.guard c.if-is_zero.ensures
    (watch_of_copies c.args.self.now c.watch.new.self c.as_slice.result.now (all_tests c.push_tests.new.tests.items) (λ κ. tests_of c.args.vars.now κ (value c.args.guard) (plain c.args.e.now)) c.as_slice.ensures.value
    (tests_alone c.new-tests.result.items c.push_tests.new.tests.items _ c.new-tests.ensures.items c.in_ok-push_tests.ensures) c.in_ok-watch.ensures)
