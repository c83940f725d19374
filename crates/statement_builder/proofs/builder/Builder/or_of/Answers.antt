use Rattle.aif_cells.specs.declared.tree.TreeTwo.TheVariants.{Or}
use Rattle.aif_cells.specs.Tree.{two, value}
use Rattle.statement_builder.proofs.GateLemmas.{or_both, or_first, or_second, made_of_tree}
use Rattle.statement_builder.proofs.builder.Builder.or_of.Goals as goal

pub returns-in-First : goal.returns-in-First
returns-in-First c = or_first c.args.self.now c.args.a c.args.b c.in-First.ensures

pub returns-in-Second : goal.returns-in-Second
returns-in-Second c = or_second c.args.self.now c.args.a c.args.b c.in-Second.ensures

pub returns-in_ok-joined-in-Both : goal.returns-in_ok-joined-in-Both
returns-in_ok-joined-in-Both c = or_both c.args.self.now c.add.new.self c.args.a c.args.b c.in_ok-joined-in-Both.joined c.in-Both.ensures
    (made_of_tree c.args.self.now c.add.new.self c.in_ok-joined-in-Both.joined _ (two Or (value c.args.a) (value c.args.b)) c.in_ok-either-in-Both.ensures c.in_ok-joined-in-Both.ensures)
