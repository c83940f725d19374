use Rattle.std.proofs.Common.{ℕ, Contains}
use Rattle.std.specs.Prelude.{◌↔◌}
use Rattle.write_conflicts.specs.Claims.{IsDenied}
use Rattle.write_conflicts.proofs.claims.no_of.Given as goal

abbrev pub invariant-loop-place : goal.invariant-loop-place
invariant-loop-place l = (p w : ℕ) → Contains l.words (p, w) ↔ IsDenied l.columns l.action l.place p w
