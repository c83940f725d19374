use Rattle.std.proofs.Common.{◌+◌, ◌*◌, ◌++◌, List, drop}
use Rattle.aif_cells.specs.declared.reference.Ref.{Ref}
use Rattle.statement_cells.specs.Sound.{AreSound}
use Rattle.statement_cells.specs.Surface.{start_each, start_in_turn}
use Rattle.statement_builder.specs.declared.builder.Builder.{Builder}
use Rattle.statement_builder.specs.Built.{IsOver, Makes, MakesAll}
use Rattle.statement_builder.proofs.JoinLemmas.{terms}
use Rattle.statement_builder.proofs.builder.Builder.+surface.Given as goal

abbrev pub decreases-surface : goal.decreases-surface
decreases-surface l = 3 * goal.size-surface l + 1

abbrev pub decreases-start : goal.decreases-start
decreases-start l = 3 * goal.size-start l

abbrev pub decreases-start_in_turn : goal.decreases-start_in_turn
decreases-start_in_turn l = 3 * goal.size-start_in_turn l + 2

abbrev pub decreases-start_each : goal.decreases-start_each
decreases-start_each l = 3 * goal.size-start_each l + 2

abbrev pub invariant-start_in_turn-loop-part : goal.invariant-start_in_turn-loop-part
invariant-start_in_turn-loop-part l = record {
  over : IsOver l.vars l.self;
  sound : AreSound l.vars (terms (drop l.part-index l.parts));
  made : (b : Builder) (r : Ref) → Makes l.self b r (λ κ. start_in_turn l.vars κ l.at.label l.at.register (terms (drop l.part-index l.parts)) l.end l.step)
      → Makes l.initial.self b r (λ κ. start_in_turn l.vars κ l.initial.at.label l.initial.at.register (terms l.parts) l.initial.end l.step);
}

abbrev pub invariant-start_each-loop-part : goal.invariant-start_each-loop-part
invariant-start_each-loop-part l = record {
  over : IsOver l.vars l.self;
  sound : AreSound l.vars (terms (drop l.part-index l.parts));
  made : (b : Builder) (rs : List Ref) → MakesAll l.self b rs (λ κ. start_each l.vars κ l.at.label l.at.register (terms (drop l.part-index l.parts)) l.go l.step)
      → MakesAll l.initial.self b (l.ends ++ rs) (λ κ. start_each l.vars κ l.initial.at.label l.initial.at.register (terms l.parts) l.go l.step);
}
