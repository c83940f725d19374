use Rattle.std.proofs.Common.{rules, ◌≡◌, ℕ, get_or, subst, arith}
use Rattle.std.specs.Prelude.{slice_index_or}
use Rattle.write_conflicts.specs.Claims.{HaveCommon}
use Rattle.write_conflicts.proofs.ClashLemmas.{meets_more, meets_none}
use Rattle.write_conflicts.proofs.clash.meets.Goals as goal

pub loop-place-preserved : goal.loop-place-preserved
loop-place-preserved c =
    let e : c.unwrap_or-other.result ≡ slice_index_or c.args.yes.now (get_or c.args.no.now c.loop-place.place-index (0, 0)).0 0 = search rules in
    meets_more c.args.no.now c.args.yes.now c.loop-place.place-index (0, 0) (omega (arith, c.loop-place-test.true)) c.loop-place.invariant
    (subst (λ (v : ℕ). HaveCommon (get_or c.args.no.now c.loop-place.place-index (0, 0)).1 v → ⊥) e c.if-have_common.ensures)

pub returns : goal.returns
returns c = meets_none c.args.no.now c.args.yes.now c.loop-place.place-index (omega (arith, c.loop-place-test.false)) c.loop-place.invariant
