use Rattle.std.proofs.Common.{◌≡◌, map, drop, length, ◌≤◌}
use Rattle.aif_cells.specs.Tree.{tree}
use Rattle.write_conflicts.specs.Blocks.{disjoin_all, said}
use Rattle.write_conflicts.proofs.block.+said.Given as goal

abbrev pub invariant-said_in_any-loop-at : goal.invariant-said_in_any-loop-at
invariant-said_in_any-loop-at l = record {
  within : l.at ≤ length l.items;
  joined : l.all ≡ disjoin_all (map (λ t. said l.block l.table (tree t)) (drop l.at l.items)) l.fn.last;
}

abbrev pub decreases-said_in_any-loop-at : goal.decreases-said_in_any-loop-at
decreases-said_in_any-loop-at l = l.at
