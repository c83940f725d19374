use Rattle.std.proofs.Common.{ℕ, Contains}
use Rattle.std.specs.Prelude.{◌↔◌}
use Rattle.write_conflicts.specs.Claims.{SaysRegister}
use Rattle.write_conflicts.proofs.claims.registers_of.Given as goal

abbrev pub invariant-loop-place : goal.invariant-loop-place
invariant-loop-place l = (r : ℕ) → Contains l.registers r ↔ SaysRegister l.blocks l.columns l.action l.place r
