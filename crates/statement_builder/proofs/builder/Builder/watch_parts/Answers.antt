use Rattle.std.specs.Prelude.{option_map, ◌++◌}
use Rattle.quartz_tree.specs.Tree.{tree as plain}
use Rattle.aif_cells.specs.Tree.{value}
use Rattle.statement_cells.specs.Expressions.{target_tests, tests_of}
use Rattle.expression_cells.specs.Tests.{all_tests}
use Rattle.statement_builder.proofs.TestLemmas.{tests_both, watch_of_copies}
use Rattle.statement_builder.proofs.builder.Builder.watch_parts.Goals as goal

pub returns : goal.returns
returns c = watch_of_copies c.args.self.now c.watch.new.self c.as_slice-copies.result.now (all_tests c.push_tests.new.tests.items)
    (λ κ. target_tests c.args.vars.now κ (value c.args.go) (option_map plain c.args.write.index.now) ++ tests_of c.args.vars.now κ (value c.args.go) (plain c.args.write.value.now)) c.as_slice-copies.ensures.value
    (tests_both c.new-tests.result.items c.push_target_tests.new.tests.items c.push_tests.new.tests.items _ _ c.new-tests.ensures.items c.in_ok-push_target_tests.ensures c.in_ok-push_tests.ensures) c.in_ok-watch.ensures
