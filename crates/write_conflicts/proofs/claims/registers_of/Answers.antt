use Rattle.std.proofs.Common.{◌≡◌, ℕ, Contains, length, subst, arith}
use Rattle.std.specs.Prelude.{◌↔◌}
use Rattle.write_conflicts.specs.Claims.{SaysRegister}
use Rattle.write_conflicts.proofs.ClaimLemmas.{says_at}
use Rattle.write_conflicts.proofs.claims.registers_of.Goals as goal

pub loop-place-preserved : goal.loop-place-preserved
loop-place-preserved c = says_at c.args.columns.now c.args.action c.args.blocks.now c.loop-place.registers c.push_registers.new.numbers c.loop-place.place _ c.said_at.result (omega arith) c.said_at.ensures c.loop-place.invariant c.in_ok-push_registers.ensures

pub returns : goal.returns
returns c =
    let e : c.loop-place.place ≡ length c.args.blocks.now = omega arith in
    subst (λ (n : ℕ). (l : ℕ) → Contains c.loop-place.registers l ↔ SaysRegister c.args.blocks.now c.args.columns.now c.args.action n l) e c.loop-place.invariant
