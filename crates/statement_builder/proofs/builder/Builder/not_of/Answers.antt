use Rattle.aif_cells.specs.declared.tree.TreeOne.TheVariants.{Not}
use Rattle.aif_cells.specs.Tree.{one, value}
use Rattle.statement_builder.proofs.GateLemmas.{made_of_tree, not_literal, not_other}
use Rattle.statement_builder.proofs.builder.Builder.not_of.Goals as goal

pub returns-in-Some : goal.returns-in-Some
returns-in-Some c = not_literal c.args.self.now c.args.a c.in-Some.literal c.in-Some.ensures

pub returns-in_ok-made-in-None : goal.returns-in_ok-made-in-None
returns-in_ok-made-in-None c = not_other c.args.self.now c.add.new.self c.args.a c.in_ok-made-in-None.made c.in-None.ensures
    (made_of_tree c.args.self.now c.add.new.self c.in_ok-made-in-None.made _ (one Not (value c.args.a)) c.in_ok-opposite-in-None.ensures c.in_ok-made-in-None.ensures)
