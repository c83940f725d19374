use Rattle.std.proofs.Common.{◌≡◌, ◌-◌, [], length}
use Rattle.causality_check.specs.Turns.{IsSound, counted, tables}
use Rattle.causality_check.proofs.turns.take_in_turn.Given as goal

abbrev pub invariant-loop-cell : goal.invariant-loop-cell
invariant-loop-cell l = record {
  sound : IsSound l.graph (counted l.cell (length l.graph - l.cell)) (tables l.turns);
  none : l.turns.order ≡ [];
}

abbrev pub invariant-loop-turns : goal.invariant-loop-turns
invariant-loop-turns l = IsSound l.graph [] (tables l.turns)

abbrev pub decreases-loop-turns : goal.decreases-loop-turns
decreases-loop-turns l = length l.graph - length l.turns.order
