use Rattle.std.proofs.Common.{Ok, take}
use Rattle.outside.specs.Puts.{Puts}
use Rattle.aif_cells.specs.Text.{texts, monitor_line}
use Rattle.aif_cells.proofs.text.put_monitors.Given as goal

abbrev pub invariant-loop-monitor : goal.invariant-loop-monitor
invariant-loop-monitor g l = Puts g.O.Sink.stands g.O.Sink.faults (Ok tt) l.initial.out l.out (texts monitor_line 0 (take l.monitor-index l.monitors))
