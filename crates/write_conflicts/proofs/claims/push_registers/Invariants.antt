use Rattle.std.proofs.Common.{ℕ, Contains}
use Rattle.std.specs.Prelude.{◌↔◌, ◌⊎◌}
use Rattle.write_conflicts.specs.Claims.{IsNumber}
use Rattle.write_conflicts.proofs.claims.push_registers.Given as goal

abbrev pub invariant-loop-bit : goal.invariant-loop-bit
invariant-loop-bit l = (n : ℕ) → Contains l.numbers n ↔ (Contains l.fn.numbers n ⊎ IsNumber l.word l.block.at l.bit n)
