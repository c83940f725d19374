use Rattle.std.proofs.Common.{◌≤◌, All, take}
use Rattle.write_conflicts.specs.Tables.{greatest_number}
use Rattle.write_conflicts.proofs.reach.greatest_in_guards.Given as goal

abbrev pub invariant-loop-action : goal.invariant-loop-action
invariant-loop-action l = All (λ a. greatest_number l.group a.guard ≤ l.greatest) (take l.action-index l.actions)
