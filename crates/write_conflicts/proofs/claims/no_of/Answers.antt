use Rattle.std.proofs.Common.{◌≡◌, ℕ, Contains, length, subst, arith}
use Rattle.std.specs.Prelude.{◌↔◌}
use Rattle.write_conflicts.specs.Claims.{IsDenied}
use Rattle.write_conflicts.proofs.ClaimLemmas.{denied_by}
use Rattle.write_conflicts.proofs.claims.no_of.Goals as goal

pub loop-place-preserved : goal.loop-place-preserved
loop-place-preserved c = denied_by c.args.columns.now c.args.action c.loop-place.words c.push_denied.new.words c.loop-place.place c.said_at.result c.said_at.ensures c.loop-place.invariant c.in_ok-push_denied.ensures

pub returns : goal.returns
returns c =
    let e : c.loop-place.place ≡ length c.args.columns.now = omega arith in
    subst (λ (n : ℕ). (p w : ℕ) → Contains c.loop-place.words (p, w) ↔ IsDenied c.args.columns.now c.args.action n p w) e c.loop-place.invariant
