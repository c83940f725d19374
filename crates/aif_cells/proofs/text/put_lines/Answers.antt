-- What is put, one after another, and the part of it where a put failed.
use Rattle.std.proofs.Common.{rules, ◌++◌}
use Rattle.aif_cells.specs.Text.{action_line, cell_line, monitor_line, texts}
use Rattle.outside.proofs.PutsLemmas.{puts_failed, puts_first, puts_then}
use Rattle.aif_cells.proofs.text.put_lines.Goals as goal

pub returns-in_err-put_register_lines : goal.returns-in_err-put_register_lines
returns-in_err-put_register_lines g c = puts_first ((texts cell_line 0 c.args.aif.now.cells) ++ ((texts action_line 0 c.args.aif.now.actions) ++ (texts monitor_line 0 c.args.aif.now.monitors))) (search rules) c.in_err-put_register_lines.ensures

pub returns-in_err-put_cell_lines : goal.returns-in_err-put_cell_lines
returns-in_err-put_cell_lines g c = puts_then c.in_ok-put_register_lines.ensures (puts_first ((texts action_line 0 c.args.aif.now.actions) ++ (texts monitor_line 0 c.args.aif.now.monitors)) (search rules) c.in_err-put_cell_lines.ensures)

pub returns-in_err-put_action_lines : goal.returns-in_err-put_action_lines
returns-in_err-put_action_lines g c = puts_then c.in_ok-put_register_lines.ensures (puts_then c.in_ok-put_cell_lines.ensures (puts_first (texts monitor_line 0 c.args.aif.now.monitors) (search rules) c.in_err-put_action_lines.ensures))

pub returns-in_err-put_monitor_lines : goal.returns-in_err-put_monitor_lines
returns-in_err-put_monitor_lines g c = puts_then c.in_ok-put_register_lines.ensures (puts_then c.in_ok-put_cell_lines.ensures (puts_then c.in_ok-put_action_lines.ensures (puts_failed (search rules) c.in_err-put_monitor_lines.ensures)))
