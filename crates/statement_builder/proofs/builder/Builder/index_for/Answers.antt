use Rattle.statement_builder.proofs.TestLemmas.{no_index, one_index}
use Rattle.statement_builder.proofs.builder.Builder.index_for.Goals as goal

pub returns-in-None : goal.returns-in-None
returns-in-None c = no_index c.args.self.now c.args.vars.now c.args.index.now c.in-None.is

pub returns-in_ok-made-in-Some : goal.returns-in_ok-made-in-Some
returns-in_ok-made-in-Some c = one_index c.args.self.now c.cell_for.new.self c.in_ok-made-in-Some.made c.args.vars.now c.args.index.now c.in-Some.index c.in-Some.is c.in_ok-made-in-Some.ensures
