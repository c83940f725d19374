-- Tests with plain trees.
use Rattle.std.specs.Prelude.{List, map}
use Rattle.aif_cells.specs.Tree.{tree}
use Rattle.statement_cells.specs.Expressions.{Test}
use Rattle.expression_cells.specs.declared.fault_test.Test.{Test as Boxed}

-- a test with its plain tree
abbrev pub test_of : Boxed → Test
test_of t = record { tree = tree t.tree; kind = t.kind; place = t.place }

abbrev pub all_tests : List Boxed → List Test
all_tests ts = map test_of ts
