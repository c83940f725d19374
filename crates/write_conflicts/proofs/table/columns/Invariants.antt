use Rattle.std.proofs.Common.{◌≡◌, ℕ, ◌<◌, Some, length}
use Rattle.std.specs.Prelude.{slice_get}
use Rattle.aif_cells.specs.declared.cells.Action.{Action}
use Rattle.aif_cells.specs.Built.{all_defined}
use Rattle.write_conflicts.specs.declared.block.Block.{Block}
use Rattle.write_conflicts.specs.Tables.{Tells, said_at}
use Rattle.write_conflicts.proofs.table.columns.Given as goal

abbrev pub invariant-loop-block : goal.invariant-loop-block
invariant-loop-block l = record {
  size : length l.columns.items ≡ l.block-index;
  tells : (p i : ℕ) (b : Block) (a : Action) → p < l.block-index → slice_get l.blocks p ≡ Some b → slice_get l.actions i ≡ Some a → Tells (all_defined l.cells) b a.guard (said_at l.columns.items p i);
}
