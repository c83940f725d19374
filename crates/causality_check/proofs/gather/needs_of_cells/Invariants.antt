use Rattle.std.proofs.Common.{◌≡◌, take}
use Rattle.aif_cells.specs.Built.{all_defined}
use Rattle.causality_check.specs.Gather.{needs_of}
use Rattle.causality_check.proofs.gather.needs_of_cells.Given as goal

abbrev pub invariant-loop-cell : goal.invariant-loop-cell
invariant-loop-cell l = l.rows.items ≡ needs_of (all_defined (take l.cell-index l.cells))
