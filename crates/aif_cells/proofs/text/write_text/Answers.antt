-- What is put, one after another, and the part of it where a put failed.
use Rattle.std.proofs.Common.{rules, ◌++◌}
use Rattle.aif_cells.specs.Text.{lines_text, vars_text}
use Rattle.outside.proofs.PutsLemmas.{puts_failed, puts_first, puts_then}
use Rattle.aif_cells.proofs.text.write_text.Goals as goal

pub returns-in_err-put_module : goal.returns-in_err-put_module
returns-in_err-put_module g c = puts_first ((vars_text c.args.aif.now) ++ (lines_text c.args.aif.now)) (search rules) c.in_err-put_module.ensures

pub returns-in_err-put_vars : goal.returns-in_err-put_vars
returns-in_err-put_vars g c = puts_then c.in_ok-put_module.ensures (puts_first (lines_text c.args.aif.now) (search rules) c.in_err-put_vars.ensures)

pub returns-in_err-put_lines : goal.returns-in_err-put_lines
returns-in_err-put_lines g c = puts_then c.in_ok-put_module.ensures (puts_then c.in_ok-put_vars.ensures (puts_failed (search rules) c.in_err-put_lines.ensures))
