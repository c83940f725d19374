use Rattle.std.proofs.Common.{Ok, take}
use Rattle.std.specs.Prelude.{codes}
use Rattle.outside.specs.Puts.{Puts}
use Rattle.aif_cells.specs.Text.{texts, number_text}
use Rattle.aif_cells.proofs.text.put_value_cells.Given as goal

abbrev pub invariant-loop-cell : goal.invariant-loop-cell
invariant-loop-cell g l = Puts g.O.Sink.stands g.O.Sink.faults (Ok tt) l.initial.out l.out (texts (number_text (codes " c")) 0 (take l.cell-index l.cells))
