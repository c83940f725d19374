use Rattle.std.proofs.Common.{Ok}
use Rattle.outside.specs.Puts.{Puts}
use Rattle.aif_cells.specs.Put.{closes}
use Rattle.aif_cells.proofs.tree_text.put_closes.Given as goal

abbrev pub invariant-loop-at : goal.invariant-loop-at
invariant-loop-at g l = Puts g.O.Sink.stands g.O.Sink.faults (Ok tt) l.initial.out l.out (closes l._at)
