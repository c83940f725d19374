use Rattle.std.proofs.Common.{◌∙◌, ap, sym, map, drop, arith}
use Rattle.std.proofs.lemmas.List.{drop_all}
use Rattle.quartz_tree.specs.Surfaces.{branch, written}
use Rattle.quartz_names.specs.Resolving.{branch_has_call}
use Rattle.quartz_names.proofs.CallLemmas.{any_call, block_call, first_calls}
use Rattle.quartz_names.proofs.WalkLemmas.{left_from}
use Rattle.quartz_names.proofs.call.+calls.Goals as goal

pub has_call-returns-then-branch_has_call : goal.has_call-returns-then-branch_has_call
has_call-returns-then-branch_has_call t c =
    sym (block_call c.args.stmt.now c.in-Block.decls c.in-Block.branches c.deref-stmts-items.result.now (drop c.loop-stmts.stmts-index c.deref-stmts-items.result.now) c.in-Block.is c.deref-stmts-items.ensures.value c.loop-stmts.invariant
    ∙ first_calls _ _ c.stmts-item.result (left_from c.deref-stmts-items.result.now c.loop-stmts.stmts-index c.stmts-item.result (omega arith) c.stmts-item.is)
    (ap (λ l. branch_has_call (branch (map written l))) (sym c.deref.ensures.value) ∙ sym c.branch_has_call.ensures ∙ c.if-branch_has_call.true))

pub has_call-returns-after-loop-stmts : goal.has_call-returns-after-loop-stmts
has_call-returns-after-loop-stmts t c =
    sym (block_call c.args.stmt.now c.in-Block.decls c.in-Block.branches c.deref-stmts-items.result.now (drop c.loop-stmts.stmts-index c.deref-stmts-items.result.now) c.in-Block.is c.deref-stmts-items.ensures.value c.loop-stmts.invariant
    ∙ ap any_call (drop_all c.loop-stmts.stmts-index c.deref-stmts-items.result.now (omega arith)))
