use Rattle.std.proofs.Common.{rules, ◌≡◌, ◌+◌, length, arith}
use Rattle.aif_cells.specs.Built.{all_defined}
use Rattle.write_conflicts.proofs.TableLemmas.{columns_all, columns_at}
use Rattle.write_conflicts.proofs.table.columns.Goals as goal

pub loop-block-preserved : goal.loop-block-preserved
loop-block-preserved c =
    let size : length c.push.new.self.items ≡ c.loop-block.block-index + 1 = search rules in
    record {
      size = size;
      tells = columns_at (all_defined c.args.cells.now) c.args.blocks.now c.args.actions.now c.loop-block.columns.items c.push.new.self.items c.loop-block.block-index _ c.in_ok-table.table.items c.as_slice.result.now c.in_ok-column.field-0 c.in_ok-push.ensures.items
          c.loop-block.invariant.size (omega (arith, c.loop-block-test.true)) c.in_ok-table.ensures c.as_slice.ensures.value c.in_ok-column.ensures c.loop-block.invariant.tells;
    }

pub returns : goal.returns
returns c = columns_all (all_defined c.args.cells.now) c.args.blocks.now c.args.actions.now c.loop-block.columns.items c.loop-block.block-index c.loop-block.invariant.size (omega (arith, c.loop-block-test.false, c.loop-block.auto)) c.loop-block.invariant.tells
