use Rattle.aif_cells.specs.Tree.{tree}
use Rattle.statement_builder.proofs.GateLemmas.{cell_alone, cell_made}
use Rattle.statement_builder.proofs.builder.Builder.cell_of.Goals as goal

pub returns-in-Some : goal.returns-in-Some
returns-in-Some c = cell_alone c.args.self.now (tree c.args.computed) c.in-Some.reference c.in-Some.ensures

pub returns-in_ok-made-in-None : goal.returns-in_ok-made-in-None
returns-in_ok-made-in-None c = cell_made c.args.self.now c.add.new.self (tree c.args.computed) c.in_ok-made-in-None.made c.in-None.ensures c.in_ok-made-in-None.ensures
