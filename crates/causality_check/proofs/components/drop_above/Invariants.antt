use Rattle.std.proofs.Common.{◌≤◌, ℕ, length, Contains}
use Rattle.causality_check.specs.Search.{Ascends}
use Rattle.causality_check.proofs.components.drop_above.Given as goal

abbrev pub invariant-loop-number : goal.invariant-loop-number
invariant-loop-number l = record {
  up : Ascends l.numbers.items;
  from : (s : ℕ) → Contains l.numbers.items s → Contains l.initial.numbers.items s;
  kept : (s : ℕ) → Contains l.initial.numbers.items s → s ≤ l.bound → Contains l.numbers.items s;
}

abbrev pub decreases-loop-number : goal.decreases-loop-number
decreases-loop-number l = length l.numbers.items
