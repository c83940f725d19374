-- What is put, one after another, and the part of it where a put failed.
use Rattle.std.proofs.Common.{rules, ◌++◌}
use Rattle.aif_cells.specs.Text.{local_line, output_lines, texts}
use Rattle.outside.proofs.PutsLemmas.{puts_failed, puts_first, puts_then}
use Rattle.aif_cells.proofs.text.put_vars.Goals as goal

pub returns-in_err-put_input_lines : goal.returns-in_err-put_input_lines
returns-in_err-put_input_lines g c = puts_first ((output_lines 0 c.args.aif.now.outputs c.args.aif.now.vars) ++ (texts local_line 0 c.args.aif.now.vars)) (search rules) c.in_err-put_input_lines.ensures

pub returns-in_err-put_output_lines : goal.returns-in_err-put_output_lines
returns-in_err-put_output_lines g c = puts_then c.in_ok-put_input_lines.ensures (puts_first (texts local_line 0 c.args.aif.now.vars) (search rules) c.in_err-put_output_lines.ensures)

pub returns-in_err-put_local_lines : goal.returns-in_err-put_local_lines
returns-in_err-put_local_lines g c = puts_then c.in_ok-put_input_lines.ensures (puts_then c.in_ok-put_output_lines.ensures (puts_failed (search rules) c.in_err-put_local_lines.ensures))
