-- What is put, one after another, and the part of it where a put failed.
use Rattle.std.proofs.Common.{rules, sym}
use Rattle.std.specs.Prelude.{codes}
use Rattle.outside.proofs.PutsLemmas.{puts_first, puts_same, puts_then}
use Rattle.aif_cells.proofs.ListLemmas.{counted_apart, counted_more}
use Rattle.aif_cells.proofs.text.put_counted.Goals as goal

pub returns-in_err-put_numbered : goal.returns-in_err-put_numbered
returns-in_err-put_numbered g c = puts_same (sym (counted_apart (codes " i") c.args.first c.loop-at.at c.args.count (search rules))) (puts_first _ (search rules) (puts_then c.loop-at.invariant c.in_err-put_numbered.ensures))

pub loop-at-preserved : goal.loop-at-preserved
loop-at-preserved g c = puts_same (sym (counted_more (codes " i") c.args.first c.loop-at.at)) (puts_then c.loop-at.invariant c.in_ok-put_numbered.ensures)
