-- What is put, one after another, and the part of it where a put failed.
use Rattle.std.proofs.Common.{rules, ◌++◌}
use Rattle.std.specs.Prelude.{codes}
use Rattle.aif_cells.specs.Text.{ref_text, target_text}
use Rattle.outside.proofs.PutsLemmas.{puts_failed, puts_first, puts_then}
use Rattle.aif_cells.proofs.text.put_action.Goals as goal

pub returns-in_err-put_guard : goal.returns-in_err-put_guard
returns-in_err-put_guard g c = puts_first ((target_text c.args.action.now.delayed c.args.action.now) ++ (codes " = " ++ (ref_text c.args.action.now.value ++ codes "\n"))) (search rules) c.in_err-put_guard.ensures

pub returns-in_err-put_target : goal.returns-in_err-put_target
returns-in_err-put_target g c = puts_then c.in_ok-put_guard.ensures (puts_first (codes " = " ++ (ref_text c.args.action.now.value ++ codes "\n")) (search rules) c.in_err-put_target.ensures)

pub returns-in_err-put_value : goal.returns-in_err-put_value
returns-in_err-put_value g c = puts_then c.in_ok-put_guard.ensures (puts_then c.in_ok-put_target.ensures (puts_failed (search rules) c.in_err-put_value.ensures))
