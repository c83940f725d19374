use Rattle.aif_cells.specs.Tree.{tree}
use Rattle.statement_builder.proofs.GateLemmas.{added}
use Rattle.statement_builder.proofs.builder.Builder.add.Goals as goal

pub returns : goal.returns
returns c = added c.args.self.now c.add_cell.new.cells (tree c.args.computed) c.in_ok-made.made c.in_ok-made.ensures
