use Rattle.std.proofs.Common.{Ok, take}
use Rattle.outside.specs.Puts.{Puts}
use Rattle.aif_cells.specs.Text.{texts, action_line}
use Rattle.aif_cells.proofs.text.put_actions.Given as goal

abbrev pub invariant-loop-action : goal.invariant-loop-action
invariant-loop-action g l = Puts g.O.Sink.stands g.O.Sink.faults (Ok tt) l.initial.out l.out (texts action_line 0 (take l.action-index l.actions))
