use Rattle.std.proofs.Common.{reverse, vec_len}
use Rattle.statement_cells.specs.Builder.{watch}
use Rattle.expression_cells.specs.Tests.{all_tests}
use Rattle.statement_builder.specs.declared.builder.Builder.{Builder}
use Rattle.statement_builder.specs.Built.{Does}
use Rattle.statement_builder.proofs.builder.Builder.watch.Given as goal

abbrev pub invariant-loop-test : goal.invariant-loop-test
invariant-loop-test l = (b : Builder) → Does l.self b (λ κ. watch (all_tests (reverse l.tests.items))) → Does l.initial.self b (λ κ. watch (all_tests (reverse l.initial.tests.items)))

abbrev pub decreases-loop-test : goal.decreases-loop-test
decreases-loop-test l = vec_len l.tests
