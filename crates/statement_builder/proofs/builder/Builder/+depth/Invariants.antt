use Rattle.std.proofs.Common.{◌≡◌, ◌+◌, ◌*◌, ◌++◌, List, drop, length}
use Rattle.aif_cells.specs.declared.reference.Ref.{Ref}
use Rattle.statement_cells.specs.Sound.{AreSound}
use Rattle.statement_cells.specs.Surface.{resume_each, resume_in_turn}
use Rattle.statement_builder.specs.declared.builder.Builder.{Builder}
use Rattle.statement_builder.specs.Built.{IsOver, Makes, MakesAll}
use Rattle.statement_builder.proofs.JoinLemmas.{terms}
use Rattle.statement_builder.proofs.builder.Builder.+depth.Given as goal

abbrev pub decreases-depth : goal.decreases-depth
decreases-depth l = 6 * goal.size-depth l + 1

abbrev pub decreases-resume : goal.decreases-resume
decreases-resume l = 6 * goal.size-resume l

abbrev pub decreases-resume_in_turn : goal.decreases-resume_in_turn
decreases-resume_in_turn l = 6 * goal.size-resume_in_turn l + 2

abbrev pub decreases-resume_each : goal.decreases-resume_each
decreases-resume_each l = 6 * goal.size-resume_each l + 2

abbrev pub invariant-resume_in_turn-loop-part : goal.invariant-resume_in_turn-loop-part
invariant-resume_in_turn-loop-part l = record {
  over : IsOver l.vars l.self;
  sound : AreSound l.vars (terms (drop l.part-index l.parts));
  made : (b : Builder) (r : Ref) → Makes l.self b r (λ κ. resume_in_turn l.vars κ l.at.label l.at.register (terms (drop l.part-index l.parts)) l.end l.res l.step l.stay)
      → Makes l.initial.self b r (λ κ. resume_in_turn l.vars κ l.initial.at.label l.initial.at.register (terms l.parts) l.initial.end l.res l.step l.stay);
}

abbrev pub invariant-resume_each-loop-part : goal.invariant-resume_each-loop-part
invariant-resume_each-loop-part l = record {
  over : IsOver l.vars l.self;
  sound : AreSound l.vars (terms (drop l.part-index l.parts));
  count : length l.ends ≡ l.part-index;
  made : (b : Builder) (rs : List Ref) → MakesAll l.self b rs (λ κ. resume_each l.vars κ l.at.label l.at.register (terms (drop l.part-index l.parts)) l.res l.step l.stay)
      → MakesAll l.initial.self b (l.ends ++ rs) (λ κ. resume_each l.vars κ l.initial.at.label l.initial.at.register (terms l.parts) l.res l.step l.stay);
}

abbrev pub decreases-resume_guard : goal.decreases-resume_guard
decreases-resume_guard l = 6 * goal.size-resume_guard l + 3

abbrev pub decreases-resume_suspend : goal.decreases-resume_suspend
decreases-resume_suspend l = 6 * goal.size-resume_suspend l + 2
