-- What is put, one after another, and the part of it where a put failed.
use Rattle.std.proofs.Common.{rules, ◌++◌}
use Rattle.std.specs.Prelude.{codes}
use Rattle.aif_cells.specs.Tree.{tree}
use Rattle.aif_cells.specs.Text.{tree_text}
use Rattle.outside.proofs.PutsLemmas.{puts_failed, puts_first, puts_then}
use Rattle.aif_cells.proofs.text.put_cell.Goals as goal

pub returns-in_err-put_head : goal.returns-in_err-put_head
returns-in_err-put_head g c = puts_first ((tree_text (tree c.args.cell.now.tree)) ++ (codes "\n")) (search rules) c.in_err-put_head.ensures

pub returns-in_err-put_tree : goal.returns-in_err-put_tree
returns-in_err-put_tree g c = puts_then c.in_ok-put_head.ensures (puts_first (codes "\n") (search rules) c.in_err-put_tree.ensures)

pub returns-in_err-put : goal.returns-in_err-put
returns-in_err-put g c = puts_then c.in_ok-put_head.ensures (puts_then c.in_ok-put_tree.ensures (puts_failed (search rules) c.in_err-put.ensures))
