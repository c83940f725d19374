-- What is put, one after another, and the part of it where a put failed.
use Rattle.std.proofs.Common.{rules}
use Rattle.aif_cells.proofs.PutLemmas.{puts_more, puts_part}
use Rattle.aif_cells.specs.Text.{monitor_line}
use Rattle.aif_cells.proofs.text.put_monitors.Goals as goal

pub returns-in_err-put_monitor : goal.returns-in_err-put_monitor
returns-in_err-put_monitor g c = puts_part monitor_line c.args.monitors.now c.loop-monitor.monitor-index _ (search rules) (search rules) c.loop-monitor.invariant c.in_err-put_monitor.ensures

pub loop-monitor-preserved : goal.loop-monitor-preserved
loop-monitor-preserved g c = puts_more monitor_line c.args.monitors.now c.loop-monitor.monitor-index _ (search rules) c.loop-monitor.invariant c.in_ok-put_monitor.ensures
