use Rattle.std.proofs.Common.{rules, ◌≡◌, ◌∙◌, arith}
use Rattle.std.specs.Prelude.{slice_index_or}
use Rattle.write_conflicts.specs.Blocks.{silent}
use Rattle.write_conflicts.proofs.ClaimLemmas.{in_column, no_column}
use Rattle.write_conflicts.proofs.claims.said_at.Goals as goal

pub returns-then-place-columns : goal.returns-then-place-columns
returns-then-place-columns c = no_column c.args.columns.now c.args.place c.args.action (omega arith)

pub returns : goal.returns
returns c =
    let e : c.unwrap_or.result ≡ slice_index_or c.as_slice-column.result.now c.args.action silent = search rules in
    in_column c.args.columns.now c.args.place c.args.action c.index-columns-place.result c.as_slice-column.result.now c.unwrap_or.result (omega arith) (c.as_slice-column.ensures ∙ c.index-columns-place.is) e
