use Rattle.std.proofs.Common.{◌≡◌, drop}
use Rattle.causality_check.specs.Turns.{IsSound, tables}
use Rattle.causality_check.proofs.turns.Turns.take_next.Given as goal

abbrev pub invariant-loop-next : goal.invariant-loop-next
invariant-loop-next l = record {
  sound : IsSound l.graph (drop l.next-index l.next-items) (tables l.self);
  order : l.self.order ≡ l.initial.self.order;
}
