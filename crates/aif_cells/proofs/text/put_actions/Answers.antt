-- What is put, one after another, and the part of it where a put failed.
use Rattle.std.proofs.Common.{rules}
use Rattle.aif_cells.proofs.PutLemmas.{puts_more, puts_part}
use Rattle.aif_cells.specs.Text.{action_line}
use Rattle.aif_cells.proofs.text.put_actions.Goals as goal

pub returns-in_err-put_action : goal.returns-in_err-put_action
returns-in_err-put_action g c = puts_part action_line c.args.actions.now c.loop-action.action-index _ (search rules) (search rules) c.loop-action.invariant c.in_err-put_action.ensures

pub loop-action-preserved : goal.loop-action-preserved
loop-action-preserved g c = puts_more action_line c.args.actions.now c.loop-action.action-index _ (search rules) c.loop-action.invariant c.in_ok-put_action.ensures
