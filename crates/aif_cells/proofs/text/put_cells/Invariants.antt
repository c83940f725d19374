use Rattle.std.proofs.Common.{Ok, take}
use Rattle.outside.specs.Puts.{Puts}
use Rattle.aif_cells.specs.Text.{texts, cell_line}
use Rattle.aif_cells.proofs.text.put_cells.Given as goal

abbrev pub invariant-loop-number : goal.invariant-loop-number
invariant-loop-number g l = Puts g.O.Sink.stands g.O.Sink.faults (Ok tt) l.initial.out l.out (texts cell_line 0 (take l.number l.cells))
