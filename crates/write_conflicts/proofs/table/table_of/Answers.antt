use Rattle.std.proofs.Common.{rules, ◌≡◌, ◌<◌, ℕ, List, length, get_or, subst, arith}
use Rattle.aif_cells.specs.Built.{all_defined, defined}
use Rattle.aif_cells.specs.Tree.{tree}
use Rattle.write_conflicts.specs.Blocks.{said}
use Rattle.write_conflicts.specs.Tables.{IsTableFor}
use Rattle.std.proofs.lemmas.List.{length-map, take_all}
use Rattle.write_conflicts.proofs.OrderLemmas.{is_less}
use Rattle.write_conflicts.proofs.TableLemmas.{defined_at, table_all, table_more}
use Rattle.write_conflicts.proofs.table.table_of.Goals as goal
use Rattle.aif_cells.proofs.ItemLemmas.{at_place}

pub returns : goal.returns
returns c = table_all (all_defined c.args.cells.now) c.args.block c.args.order.now c.requires c.loop-cell.table.items
    (subst (λ (xs : List ℕ). IsTableFor (all_defined c.args.cells.now) c.args.block xs c.loop-cell.table.items) (take_all c.loop-cell.cell-index c.args.order.now (omega (arith, c.loop-cell-test.false))) c.loop-cell.invariant)

pub loop-cell-preserved : goal.loop-cell-preserved
loop-cell-preserved c =
    let lt : c.loop-cell.cell-index < length c.args.order.now = omega (arith, c.loop-cell-test.true) in
    let within : get_or c.args.order.now c.loop-cell.cell-index 0 < length c.args.cells.now = omega (arith, is_less (all_defined c.args.cells.now) c.args.order.now c.requires c.loop-cell.cell-index lt, length-map c.args.cells.now defined) in
    let e : c.said_in-said.result ≡ said c.args.block c.loop-cell.table.items (tree c.index-cells-cell.result.tree) = search rules in
    table_more (all_defined c.args.cells.now) c.args.block c.args.order.now c.requires c.loop-cell.table.items c.loop-cell.cell-index (get_or c.args.order.now c.loop-cell.cell-index 0) (defined c.index-cells-cell.result) c.said_in-said.result
    (at_place c.args.order.now c.loop-cell.cell-index 0 lt) c.loop-cell.invariant (defined_at c.args.cells.now (get_or c.args.order.now c.loop-cell.cell-index 0) c.index-cells-cell.result within c.index-cells-cell.is) e
