use Rattle.std.proofs.Common.{rules, ◌≡◌, ◌+◌, length, arith}
use Rattle.write_conflicts.specs.Pairs.{scene}
use Rattle.write_conflicts.proofs.ClaimLemmas.{claims_at}
use Rattle.write_conflicts.proofs.claims.claims_but_yes.Goals as goal

pub loop-at-preserved : goal.loop-at-preserved
loop-at-preserved c =
    let size : length c.push.new.self.items ≡ c.loop-at.at + 1 = search rules in
    record {
      size = size;
      each = claims_at (scene c.args.aif.now) c.args.blocks.now c.args.columns.now c.args.aif.now.actions c.loop-at.claims.items c.push.new.self.items c.loop-at.at c.in_ok-claims_of_action.field-0 c.in_ok-push.ensures.items c.loop-at.invariant.size c.in_ok-claims_of_action.ensures c.loop-at.invariant.each;
    }

pub returns : goal.returns
returns c =
    let size : length c.loop-at.claims.items ≡ length c.args.aif.now.actions = search rules in
    record { size = size; before = λ i a x lt e h. absurd (omega (arith, lt)); behind = λ i a x le e h. c.loop-at.invariant.each i a x e h }
