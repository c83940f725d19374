use Rattle.std.proofs.Common.{Ok}
use Rattle.std.specs.Prelude.{codes}
use Rattle.outside.specs.Puts.{Puts}
use Rattle.aif_cells.specs.Text.{counted_from, number_text, texts}
use Rattle.aif_cells.proofs.text.put_counted.Given as goal

abbrev pub invariant-loop-at : goal.invariant-loop-at
invariant-loop-at g l = Puts g.O.Sink.stands g.O.Sink.faults (Ok tt) l.initial.out l.out (texts (number_text (codes " i")) 0 (counted_from l.first l.at))
