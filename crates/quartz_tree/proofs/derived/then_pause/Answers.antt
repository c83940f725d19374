use Rattle.quartz_tree.proofs.SurfaceLemmas.{written_block, written_pause}
use Rattle.quartz_tree.proofs.derived.then_pause.Goals as goal

pub returns : goal.returns
returns c = rw (written_block _ _) (simp (c.new.ensures.items, c.in_ok-push-3.ensures.items, c.new-branches.ensures.items, c.in_ok-push-2.ensures.items, c.in_ok-push.ensures.items, c.new-stmts.ensures.items, written_pause))
