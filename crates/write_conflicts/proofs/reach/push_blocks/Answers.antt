use Rattle.write_conflicts.proofs.ReachLemmas.{added_more, kept_more}
use Rattle.write_conflicts.proofs.reach.push_blocks.Goals as goal

pub loop-at-preserved : goal.loop-at-preserved
loop-at-preserved c = record {
  kept = λ b m. kept_more c.loop-at.blocks.items c.push.new.self.items (record { group = c.args.group; at = c.loop-at.at }) b c.in_ok-push.ensures.items (c.loop-at.invariant.kept b m);
  added = added_more c.loop-at.blocks.items c.push.new.self.items c.args.group c.loop-at.at c.in_ok-push.ensures.items c.loop-at.invariant.added;
}
