-- What is put, one after another, and the part of it where a put failed.
use Rattle.std.proofs.Common.{rules}
use Rattle.std.specs.Prelude.{decimal}
use Rattle.outside.proofs.PutsLemmas.{puts_failed, puts_first, puts_then}
use Rattle.aif_cells.proofs.piece.put_lettered.Goals as goal

pub returns-in_err-put : goal.returns-in_err-put
returns-in_err-put g c = puts_first (decimal c.args.at) (search rules) c.in_err-put.ensures

pub returns-in_err-put_count : goal.returns-in_err-put_count
returns-in_err-put_count g c = puts_then c.in_ok-put.ensures (puts_failed (search rules) c.in_err-put_count.ensures)
