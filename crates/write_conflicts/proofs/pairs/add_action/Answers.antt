use Rattle.std.proofs.Common.{◌∙◌, length}
use Rattle.write_conflicts.proofs.TallyLemmas.{row_here, rows_here}
use Rattle.write_conflicts.proofs.pairs.add_action.Goals as goal

pub add_pairs_with-requires-clause-earlier : goal.add_pairs_with-requires-clause-earlier
add_pairs_with-requires-clause-earlier c = row_here c.args.aif.now.actions (length c.args.aif.now.vars) c.args.second c.args.rows.now.items c.requires.rows c.as_slice.result.now c.as_slice.ensures c.len.result c.len.ensures _ c.requires.within c.row_of-row.result c.row_of-row.ensures c.as_slice-2.result.now c.index.result.now (c.as_slice-2.ensures ∙ c.index.ensures)

pub returns-clause-rows : goal.returns-clause-rows
returns-clause-rows c = rows_here c.args.aif.now.actions (length c.args.aif.now.vars) c.args.second c.args.rows.now.items c.requires.rows c.as_slice.result.now c.as_slice.ensures c.len.result c.len.ensures _ c.requires.within c.row_of-row.result c.row_of-row.ensures c.index_mut.result.now c.push.new.self c.index_mut.ensures.value c.in_ok-push.ensures.ok
