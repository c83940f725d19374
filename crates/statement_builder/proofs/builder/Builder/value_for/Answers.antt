use Rattle.quartz_tree.specs.Tree.{tree as plain}
use Rattle.aif_cells.specs.Tree.{tree}
use Rattle.statement_cells.specs.Expressions.{fitted_tree}
use Rattle.statement_builder.proofs.TestLemmas.{cell_of_copies}
use Rattle.statement_builder.proofs.builder.Builder.value_for.Goals as goal

pub returns : goal.returns
returns c = cell_of_copies c.args.self.now c.cell_of.new.self c.in_ok-made.made c.as_slice.result.now (tree c.in_ok-computed.computed) (λ κ. fitted_tree c.args.vars.now κ c.args.var (plain c.args.value.now)) c.as_slice.ensures.value c.in_ok-computed.ensures c.in_ok-made.ensures
