use Rattle.std.proofs.Common.{◌≡◌, map, drop, length, ◌≤◌}
use Rattle.aif_cells.specs.Tree.{tree}
use Rattle.write_conflicts.specs.Tables.{greatest_in, greatest_of_all}
use Rattle.write_conflicts.proofs.reach.+reach.Given as goal

abbrev pub invariant-greatest_in_any-loop-at : goal.invariant-greatest_in_any-loop-at
invariant-greatest_in_any-loop-at l = record {
  within : l.at ≤ length l.items;
  joined : l.greatest ≡ greatest_of_all (map (λ t. greatest_in l.group (tree t)) (drop l.at l.items)) l.fn.last;
}

abbrev pub decreases-greatest_in_any-loop-at : goal.decreases-greatest_in_any-loop-at
decreases-greatest_in_any-loop-at l = l.at
