use Rattle.std.proofs.Common.{Ok, take}
use Rattle.outside.specs.Puts.{Puts}
use Rattle.aif_cells.specs.Text.{texts, local_line}
use Rattle.aif_cells.proofs.text.put_locals.Given as goal

abbrev pub invariant-loop-number : goal.invariant-loop-number
invariant-loop-number g l = Puts g.O.Sink.stands g.O.Sink.faults (Ok tt) l.initial.out l.out (texts local_line 0 (take l.number l.vars))
