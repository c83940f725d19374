use Rattle.aif_cells.specs.declared.tree.TreeTwo.TheVariants.{And}
use Rattle.aif_cells.specs.Tree.{two, value}
use Rattle.statement_builder.proofs.GateLemmas.{and_both, and_first, and_second, made_of_tree}
use Rattle.statement_builder.proofs.builder.Builder.and_of.Goals as goal

pub returns-in-First : goal.returns-in-First
returns-in-First c = and_first c.args.self.now c.args.a c.args.b c.in-First.ensures

pub returns-in-Second : goal.returns-in-Second
returns-in-Second c = and_second c.args.self.now c.args.a c.args.b c.in-Second.ensures

pub returns-in_ok-joined-in-Both : goal.returns-in_ok-joined-in-Both
returns-in_ok-joined-in-Both c = and_both c.args.self.now c.add.new.self c.args.a c.args.b c.in_ok-joined-in-Both.joined c.in-Both.ensures
    (made_of_tree c.args.self.now c.add.new.self c.in_ok-joined-in-Both.joined _ (two And (value c.args.a) (value c.args.b)) c.in_ok-both-in-Both.ensures c.in_ok-joined-in-Both.ensures)
