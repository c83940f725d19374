use Rattle.std.proofs.Common.{rules}
use Rattle.expression_cells.proofs.TreeLemmas.{selects}
use Rattle.expression_cells.proofs.trees.select.Goals as goal

pub returns : goal.returns
returns c = selects c.in_ok-index.index c.in_ok-elements.elements c.args.index c.args.refs.now (search rules) (search rules)
