use Rattle.std.proofs.Common.{◌≡◌, ◌∙◌, inl, inr, ap, ap₂, refl, sym, [], None, Some, drop, map, ◌+◌, arith}
use Rattle.std.proofs.lemmas.Grind.{common_steps}
use Rattle.quartz_tree.specs.declared.surface.Surface.TheVariants.{If}
use Rattle.quartz_tree.specs.Kernel as plain
use Rattle.quartz_tree.specs.Kernel.{kernel}
use Rattle.quartz_tree.specs.Surfaces.{block, branch, branches_of, goal_of, written}
use Rattle.quartz_tree.specs.Tree.{tree}
use Rattle.quartz_tree.proofs.SurfaceLemmas.{written_always, written_await, written_block, written_call, written_do, written_emit, written_empty, written_guard, written_halt, written_if_none, written_if_some, written_loop, written_pause, written_while, written_write}
use Rattle.quartz_names.specs.Numbering.{around}
use Rattle.quartz_names.proofs.KernelLemmas.{kernel_nothing, kernel_pause}
use Rattle.quartz_names.proofs.WalkLemmas.{branch_start, branch_step, branch_done, branches_start, branches_step, branches_done, count_rises, left_from, walks_as, walks_block, walks_choose, walks_choose_one, walks_do_while, walks_guard, walks_nothing, walks_still}
use Rattle.quartz_names.proofs.walk.Walk.+walk.Goals as goal

pub branch-loop-stmt-init : goal.branch-loop-stmt-init
branch-loop-stmt-init t c = rw c.new-parts.ensures.items (branch_start c.args.self.now c.args.stmts.now)

pub branch-loop-stmt-preserved : goal.branch-loop-stmt-preserved
branch-loop-stmt-preserved t c =
    rw c.in_ok-push.ensures.items
    (branch_step c.args.self.now c.loop-stmt.self c.stmt.new.self c.args.stmts.now _ _ c.stmt-item.result c.loop-stmt.parts.items c.in_ok-stmt.field-0
    (left_from c.args.stmts.now c.loop-stmt.stmt-index c.stmt-item.result (omega arith) c.stmt-item.is) c.in_ok-stmt.ensures c.loop-stmt.invariant)

pub branch-returns : goal.branch-returns
branch-returns t c =
    let none_left : drop c.loop-stmt.stmt-index c.args.stmts.now ≡ [] = grind (arith, common_steps) in
    branch_done c.args.self.now c.loop-stmt.self c.args.stmts.now _ c.loop-stmt.parts.items none_left c.loop-stmt.invariant

pub stmt-loop-stmts-init : goal.stmt-loop-stmts-init
stmt-loop-stmts-init t c = rw c.new-parts.ensures.items (branches_start c.open.new.self c.deref-stmts-items.result.now)

pub stmt-loop-stmts-preserved : goal.stmt-loop-stmts-preserved
stmt-loop-stmts-preserved t c =
    rw c.in_ok-push-in-Block.ensures.items
    (branches_step c.open.new.self c.loop-stmts.self c.branch-self.new.self c.deref-stmts-items.result.now _ _ c.stmts-item.result c.loop-stmts.parts.items c.in_ok-branch-in-Block.field-0
    (left_from c.deref-stmts-items.result.now c.loop-stmts.stmts-index c.stmts-item.result (omega arith) c.stmts-item.is) (rw c.deref-in-loop-stmts.ensures.value at c.in_ok-branch-in-Block.ensures) c.loop-stmts.invariant)

pub stmt-around-requires : goal.stmt-around-requires
stmt-around-requires t c = count_rises c.args.self.now c.open.new.self _ _ _ c.in_ok-hidden-in-Block.ensures.decls c.in_ok-first-in-Block.ensures c.in_ok-end-in-Block.ensures

pub stmt-returns-in-Pause : goal.stmt-returns-in-Pause
stmt-returns-in-Pause t c = walks_as _ _ _ _ _ _ (ap written c.in-Pause.is ∙ written_pause) kernel_pause (walks_still _ _ _ refl refl refl)

pub stmt-returns-in-Empty : goal.stmt-returns-in-Empty
stmt-returns-in-Empty t c = elim c.in-Empty.is [
  | inl e ↦ walks_nothing _ _ _ (ap written e ∙ written_empty) refl refl refl
  | inr f ↦ elim f [
    | inl e ↦ walks_nothing _ _ _ (ap written e.1 ∙ written_halt e.0) refl refl refl
    | inr f ↦ elim f [
      | inl e ↦ walks_nothing _ _ _ (ap written e.3 ∙ written_await e.0 e.1 e.2) refl refl refl
      | inr f ↦ elim f [
        | inl e ↦ walks_nothing _ _ _ (ap written e.3 ∙ written_emit e.0 e.1 e.2) refl refl refl
        | inr f ↦ elim f [
          | inl e ↦ walks_nothing _ _ _ (ap written e.2 ∙ written_loop e.0 e.1) refl refl refl
          | inr f ↦ elim f [
            | inl e ↦ walks_nothing _ _ _ (ap written e.2 ∙ written_always e.0 e.1) refl refl refl
            | inr f ↦ elim f [
              | inl e ↦ walks_nothing _ _ _ (ap written e.3 ∙ written_while e.0 e.1 e.2) refl refl refl
              | inr e ↦ walks_nothing _ _ _ (ap written e.3 ∙ written_call e.0 e.1 e.2) refl refl refl
            ]
          ]
        ]
      ]
    ]
  ]
]

pub stmt-returns-in_ok-write-in-Write : goal.stmt-returns-in_ok-write-in-Write
stmt-returns-in_ok-write-in-Write t c =
    walks_as _ _ _ _ _ _ (ap written c.in-Write.is ∙ written_write c.in-Write.delayed c.in-Write.target c.in-Write.value c.in-Write.place) refl c.in_ok-write-in-Write.ensures

pub stmt-returns-in_ok-scoped-in-Block : goal.stmt-returns-in_ok-scoped-in-Block
stmt-returns-in_ok-scoped-in-Block t c =
    let none_left : drop c.loop-stmts.stmts-index c.deref-stmts-items.result.now ≡ [] = grind (arith, common_steps) in
    let form : written c.args.stmt.now ≡ block c.deref.result.now (branches_of (map (λ b. branch (map written b.items)) c.deref-stmts-items.result.now)) =
    ap written c.in-Block.is ∙ written_block c.in-Block.decls c.in-Block.branches
    ∙ ap₂ (λ ds l. block ds (branches_of (map (λ b. branch (map written b.items)) l))) (sym c.deref.ensures.value) (sym c.deref-stmts-items.ensures.value) in
    walks_as _ _ _ _ _ _ form refl
    (walks_block c.args.self.now c.open.new.self c.loop-stmts.self c.close.new.self c.deref.result.now _ c.in_ok-hidden-in-Block.hidden.items (map kernel c.loop-stmts.parts.items) _ c.in_ok-first-in-Block.first c.in_ok-end-in-Block.end
    c.in_ok-hidden-in-Block.ensures.hidden c.in_ok-hidden-in-Block.ensures.names c.in_ok-hidden-in-Block.ensures.decls c.in_ok-hidden-in-Block.ensures.broken
    (branches_done c.open.new.self c.loop-stmts.self c.deref-stmts-items.result.now _ c.loop-stmts.parts.items none_left c.loop-stmts.invariant)
    c.in_ok-close-in-Block.ensures.names c.close.ensures.decls c.close.ensures.broken
    c.in_ok-first-in-Block.ensures c.in_ok-end-in-Block.ensures
    (c.in_ok-scoped-in-Block.ensures ∙ ap (around c.in_ok-first-in-Block.first _) c.joined.ensures))

pub stmt-returns-in_ok-one-in-None : goal.stmt-returns-in_ok-one-in-None
stmt-returns-in_ok-one-in-None t c =
    walks_as _ _ _ _ _ _ (ap written (c.in-If.is ∙ ap (If c.in-If.cond c.in-If.yes) c.in-None.is) ∙ written_if_none c.in-If.cond c.in-If.yes)
    (c.in_ok-one-in-None.ensures ∙ ap (plain.choose (tree c.in_ok-cond-in-If.cond) (kernel c.in_ok-yes-in-If.yes)) kernel_nothing)
    (walks_choose_one c.args.self.now c.read.new.self c.stmt.new.self (tree c.in-If.cond) _ _ _ c.in_ok-cond-in-If.ensures.read c.in_ok-cond-in-If.ensures.notes (rw c.deref-in-If.ensures at c.in_ok-yes-in-If.ensures))

pub stmt-returns-in_ok-both-in-Some : goal.stmt-returns-in_ok-both-in-Some
stmt-returns-in_ok-both-in-Some t c =
    walks_as _ _ _ _ _ _ (ap written (c.in-If.is ∙ ap (If c.in-If.cond c.in-If.yes) c.in-Some.is) ∙ written_if_some c.in-If.cond c.in-If.yes c.in-Some.no)
    c.in_ok-both-in-Some.ensures
    (walks_choose c.args.self.now c.read.new.self c.stmt.new.self c.stmt-in-Some.new.self (tree c.in-If.cond) _ _ _ _ _ c.in_ok-cond-in-If.ensures.read c.in_ok-cond-in-If.ensures.notes
    (rw c.deref-in-If.ensures at c.in_ok-yes-in-If.ensures) (rw c.deref-in-Some.ensures at c.in_ok-no-in-Some.ensures))

pub stmt-returns-in_ok-again-in-Do : goal.stmt-returns-in_ok-again-in-Do
stmt-returns-in_ok-again-in-Do t c =
    walks_as _ _ _ _ _ _ (ap written c.in-Do.is ∙ written_do c.in-Do.body c.in-Do.cond c.in-Do.place)
    c.in_ok-again-in-Do.ensures
    (walks_do_while c.args.self.now c.stmt-in-Do.new.self c.read-in-Do.new.self (tree c.in-Do.cond) _ _ _ c.in-Do.place (rw c.deref-in-Do.ensures at c.in_ok-body-in-Do.ensures) c.in_ok-cond-in-Do.ensures.read c.in_ok-cond-in-Do.ensures.notes)

pub stmt-returns-in_ok-guard-in-Guard : goal.stmt-returns-in_ok-guard-in-Guard
stmt-returns-in_ok-guard-in-Guard t c =
    walks_as _ _ _ _ _ _ (ap written c.in-Guard.is ∙ written_guard c.in-Guard.abort c.in-Guard.weak c.in-Guard.immediate c.in-Guard.body c.in-Guard.cond)
    c.in_ok-guard-in-Guard.ensures
    (walks_guard c.args.self.now c.stmt-in-Guard.new.self c.read-in-Guard.new.self (tree c.in-Guard.cond) _ _ _ c.in-Guard.abort c.in-Guard.weak c.in-Guard.immediate (rw c.deref-in-Guard.ensures at c.in_ok-body-in-Guard.ensures) c.in_ok-cond-in-Guard.ensures.read c.in_ok-cond-in-Guard.ensures.notes)
