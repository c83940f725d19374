use Rattle.std.specs.Prelude.{option_map, ◌++◌}
use Rattle.quartz_tree.specs.Tree.{tree as plain}
use Rattle.aif_cells.specs.Tree.{value}
use Rattle.statement_cells.specs.Expressions.{element_tests, range_tests}
use Rattle.expression_cells.specs.Tests.{all_tests}
use Rattle.statement_builder.proofs.TestLemmas.{tests_both, watch_of_copies}
use Rattle.statement_builder.proofs.builder.Builder.watch_write.Goals as goal

pub returns : goal.returns
returns c = watch_of_copies c.args.self.now c.watch.new.self c.as_slice-copies.result.now (all_tests c.push_range_tests.new.tests.items)
    (λ κ. element_tests c.args.vars.now κ (value c.args.go) c.args.write.var (option_map plain c.args.write.index.now) c.args.write.target_place ++ range_tests c.args.vars.now κ (value c.args.go) c.args.write.var (plain c.args.write.value.now) c.args.write.place) c.as_slice-copies.ensures.value
    (tests_both c.new-tests.result.items c.push_element_tests.new.tests.items c.push_range_tests.new.tests.items _ _ c.new-tests.ensures.items c.in_ok-push_element_tests.ensures c.in_ok-push_range_tests.ensures) c.in_ok-watch.ensures
