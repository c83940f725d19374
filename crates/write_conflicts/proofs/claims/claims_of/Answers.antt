use Rattle.std.proofs.Common.{rules, ◌≤◌, ◌<◌, List, length, subst}
use Rattle.write_conflicts.specs.declared.block.Block.{Block}
use Rattle.write_conflicts.specs.declared.block.Said.{Said}
use Rattle.write_conflicts.specs.Pairs.{scene}
use Rattle.write_conflicts.specs.Claims.{AreClaimsFrom}
use Rattle.write_conflicts.proofs.ClaimLemmas.{claims_filled_at, claims_whole}
use Rattle.write_conflicts.proofs.claims.claims_of.Goals as goal

pub loop-at-init : goal.loop-at-init
loop-at-init c =
    subst (λ (bs : List Block). AreClaimsFrom 0 (scene c.args.aif.now) bs c.in_ok-columns.columns.items c.args.aif.now.actions c.in_ok-claims.claims.items) c.as_slice-5.ensures.value
    (subst (λ (cols : List (List Said)). AreClaimsFrom 0 (scene c.args.aif.now) c.as_slice-5.result.now cols c.args.aif.now.actions c.in_ok-claims.claims.items) c.as_slice-6.ensures.value c.in_ok-claims.ensures)

pub loop-at-preserved : goal.loop-at-preserved
loop-at-preserved c =
    let lt : c.loop-at.at < length c.loop-at.claims.items = search rules in
    claims_filled_at (scene c.args.aif.now) c.in_ok-blocks.blocks.items c.in_ok-columns.columns.items c.args.aif.now.actions c.loop-at.claims.items c.loop-at.at c.loop-at.invariant c.index_mut.result.now c.as_slice-in-loop-at.result.now c.in_ok-claims-2.field-0 c.index_mut.ensures.value lt c.as_slice-in-loop-at.ensures.value c.in_ok-claims-2.ensures.words

pub returns : goal.returns
returns c =
    let le : length c.args.aif.now.actions ≤ c.loop-at.at = search rules in
    claims_whole (scene c.args.aif.now) c.in_ok-blocks.blocks.items c.in_ok-columns.columns.items c.args.aif.now.actions c.loop-at.claims.items c.loop-at.at c.loop-at.invariant le
