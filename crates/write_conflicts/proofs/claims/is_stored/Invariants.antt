use Rattle.std.proofs.Common.{◌≡◌, drop}
use Rattle.write_conflicts.specs.Loose.{is_stored}
use Rattle.write_conflicts.proofs.claims.is_stored.Given as goal

abbrev pub invariant-loop-other : goal.invariant-loop-other
invariant-loop-other l = is_stored l.made l.var l.fn.copy ≡ is_stored (drop l.other-index l.made) l.var l.before
