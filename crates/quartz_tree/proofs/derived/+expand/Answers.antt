use Rattle.std.proofs.Common.{◌≡◌, take, arith, ◌∙◌}
use Rattle.std.proofs.lemmas.Grind.{common_steps}
use Rattle.quartz_tree.proofs.ExpandLemmas.{expanded_block}
use Rattle.quartz_tree.proofs.derived.+expand.Goals as goal

pub expand-returns-in_ok-copied_items-in-Block : goal.expand-returns-in_ok-copied_items-in-Block
expand-returns-in_ok-copied_items-in-Block t c =
    let whole : take c.loop-stmts.stmts-index c.deref-stmts-items.result.now ≡ c.deref-stmts-items.result.now = grind (arith, common_steps) in
    rw c.in-Block.is (expanded_block c.in-Block.decls _ c.in-Block.branches _ (c.in_ok-copied_items-in-Block.ensures ∙ c.deref-in-Block.ensures.value) (rw (← c.deref-stmts-items.ensures.value, ← whole) c.loop-stmts.invariant))
