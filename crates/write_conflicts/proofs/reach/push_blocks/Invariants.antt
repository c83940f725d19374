use Rattle.std.proofs.Common.{ℕ, ◌<◌, Contains}
use Rattle.write_conflicts.specs.declared.block.Block.{Block}
use Rattle.write_conflicts.proofs.reach.push_blocks.Given as goal

abbrev pub invariant-loop-at : goal.invariant-loop-at
invariant-loop-at l = record {
  kept : (b : Block) → Contains l.fn.blocks.items b → Contains l.blocks.items b;
  added : (n : ℕ) → n < l.at → Contains l.blocks.items (record { group = l.group; at = n });
}
