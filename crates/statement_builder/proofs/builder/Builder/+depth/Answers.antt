use Rattle.std.proofs.Common.{◌≡◌, ◌∙◌, ◌+◌, ◌++◌, List, [], ◌∷◌, append_assoc, append-nil, ap, arith, drop, length, option_map, reverse, rules, subst, sym}
use Rattle.std.proofs.lemmas.List.{length-append}
use Rattle.std.proofs.Math.ListN.{drop_of_length-le}
use Rattle.aif_cells.specs.declared.reference.Ref.{Ref}
use Rattle.quartz_tree.specs.Tree.{tree}
use Rattle.quartz_tree.specs.Kernel.{Kernel, kernel}
use Rattle.quartz_expr.specs.Terms.{Term, abort, guard_of, suspend, term_of}
use Rattle.quartz_names.proofs.WalkLemmas.{left_from}
use Rattle.statement_cells.specs.Sound.{IsSound}
use Rattle.statement_cells.specs.Labels.{labels, registers}
use Rattle.quartz_tree.specs.declared.stmt.Stmt.{Stmt}
use Rattle.statement_cells.specs.Surface.{resume, resume_each, surface}
use Rattle.statement_builder.specs.Joins.{joined}
use Rattle.statement_builder.specs.Built.{Makes, MakesAll}
use Rattle.statement_builder.specs.Chains.{is_scope}
use Rattle.statement_builder.proofs.ChainLemmas.{labels_unscoped, no_scope_inside}
use Rattle.statement_builder.proofs.JoinLemmas.{terms}
use Rattle.statement_builder.proofs.VariantLemmas.{choose_is, guard_is, guard_smaller, loop_is, nothing_is, par_is, part_smaller, pause_is, seq_is, sound_guard, sound_inside, sound_next, write_is}
use Rattle.statement_builder.proofs.ResumeLemmas.{abort_resumed, choose_resumed, delayed_resumed, depth_alone, depth_scoped, each_resumed_more, each_resumed_none, immediate_resumed, loop_resumed, no_depth, nothing_resumed, par_resumed, pause_resumed, seq_resumed, turn_resumed_more, turn_resumed_none, write_resumed}
use Rattle.statement_builder.proofs.builder.Builder.+depth.Goals as goal

pub resume-returns-in-Nothing : goal.resume-returns-in-Nothing
resume-returns-in-Nothing t c = nothing_resumed c.args.vars.now c.args.self.now c.args.first.label c.args.first.register (term_of (kernel c.args.stmt.now)) c.args.res c.args.step c.args.stay (nothing_is c.args.stmt.now c.in-Nothing.is)

pub resume-returns-in_ok-end-in-Pause : goal.resume-returns-in_ok-end-in-Pause
resume-returns-in_ok-end-in-Pause t c = pause_resumed c.args.vars.now c.args.self.now c.resume_pause.new.self c.args.first.label c.args.first.register (term_of (kernel c.args.stmt.now)) c.args.res c.args.step c.args.stay c.in_ok-end-in-Pause.end
    (pause_is c.args.stmt.now c.in-Pause.is) c.in_ok-end-in-Pause.ensures

pub resume-returns-in-Write : goal.resume-returns-in-Write
resume-returns-in-Write t c = write_resumed c.args.vars.now c.args.self.now c.args.first.label c.args.first.register c.in-Write.var (option_map tree c.in-Write.index) (tree c.in-Write.value) c.in-Write.delayed c.in-Write.place c.in-Write.target_place
    (term_of (kernel c.args.stmt.now)) c.args.res c.args.step c.args.stay (write_is c.args.stmt.now c.in-Write.var c.in-Write.index c.in-Write.value c.in-Write.delayed c.in-Write.place c.in-Write.target_place c.in-Write.is)

pub resume-returns-in_ok-end-in-Choose : goal.resume-returns-in_ok-end-in-Choose
resume-returns-in_ok-end-in-Choose t c =
    let no : c.deref-in-Choose-2.result.now ≡ c.in-Choose.no.value = c.deref-in-Choose-2.ensures in
    let yes : c.deref.result.now ≡ c.in-Choose.yes.value = c.deref.ensures in
    let again : c.deref-in-Choose.result.now ≡ c.deref.result.now = c.deref-in-Choose.ensures ∙ sym yes in
    choose_resumed c.args.vars.now c.args.self.now c.depth.new.self c.depth-in-Choose.new.self c.or_of.new.self c.args.first.label c.args.first.register
    c.in_ok-second-in-Choose.second.label c.in_ok-second-in-Choose.second.register (tree c.in-Choose.cond) (term_of (kernel c.deref.result.now)) (term_of (kernel c.deref-in-Choose-2.result.now)) (term_of (kernel c.args.stmt.now)) c.args.res c.args.step c.args.stay
    c.in_ok-yes_end-in-Choose.yes_end c.in_ok-no_end-in-Choose.no_end c.in_ok-end-in-Choose.end
    (choose_is c.args.stmt.now c.in-Choose.cond c.in-Choose.yes c.in-Choose.no c.deref.result.now c.deref-in-Choose-2.result.now c.in-Choose.is yes no)
    (c.in_ok-second-in-Choose.ensures.label ∙ ap (λ s. c.args.first.label + labels (term_of (kernel s))) again) (c.in_ok-second-in-Choose.ensures.register ∙ ap (λ s. c.args.first.register + registers c.args.vars.now (term_of (kernel s))) again)
    c.in_ok-yes_end-in-Choose.ensures c.in_ok-no_end-in-Choose.ensures c.in_ok-end-in-Choose.ensures

pub resume-returns-in_ok-end-in-Seq : goal.resume-returns-in_ok-end-in-Seq
resume-returns-in_ok-end-in-Seq t c = seq_resumed c.args.vars.now c.args.self.now c.resume_in_turn.new.self c.args.first.label c.args.first.register (terms c.deref-in-Seq.result.now) (term_of (kernel c.args.stmt.now)) c.args.res c.args.step c.args.stay c.in_ok-end-in-Seq.end
    (seq_is c.args.stmt.now c.in-Seq.parts c.deref-in-Seq.result.now c.in-Seq.is c.deref-in-Seq.ensures.value) c.in_ok-end-in-Seq.ensures

pub resume-returns-in_ok-end-in-Par : goal.resume-returns-in_ok-end-in-Par
resume-returns-in_ok-end-in-Par t c =
    let again : c.deref-in-Par-2.result.now ≡ c.deref-in-Par.result.now = c.deref-in-Par-2.ensures.value ∙ sym c.deref-in-Par.ensures.value in
    par_resumed c.args.vars.now c.args.self.now c.resume_each.new.self c.end_parallel.new.self c.args.first.label c.args.first.register (terms c.deref-in-Par.result.now) (term_of (kernel c.args.stmt.now)) c.args.res c.args.step c.args.stay c.in_ok-end-in-Par.end
    c.in_ok-ends-in-Par.ends c.as_slice.result.now (par_is c.args.stmt.now c.in-Par.parts c.deref-in-Par.result.now c.in-Par.is c.deref-in-Par.ensures.value) c.as_slice.ensures c.in_ok-ends-in-Par.ensures.made
    (subst (λ (ss : List Stmt). Makes c.resume_each.new.self c.end_parallel.new.self c.in_ok-end-in-Par.end (λ κ. joined c.args.vars.now c.args.first.label (terms ss) c.as_slice.result.now c.args.res)) again c.in_ok-end-in-Par.ensures)

pub resume-returns-in_ok-end-in-Loop : goal.resume-returns-in_ok-end-in-Loop
resume-returns-in_ok-end-in-Loop t c =
    let again : c.deref-in-Loop-2.result.now ≡ c.deref-in-Loop.result.now = c.deref-in-Loop-2.ensures ∙ sym c.deref-in-Loop.ensures in
    loop_resumed c.args.vars.now c.args.self.now c.depth-in-Loop.new.self c.repeat.new.self c.surface.new.self c.other_side.new.self c.args.first.label c.args.first.register (term_of (kernel c.deref-in-Loop.result.now)) (term_of (kernel c.args.stmt.now)) (tree c.in-Loop.cond)
    c.args.res c.args.step c.args.stay c.in_ok-body_end-in-Loop.body_end c.in_ok-surface-in-Loop.field-0 c.in_ok-end-in-Loop.end c.in_ok-side-in-Loop.side
    (loop_is c.args.stmt.now c.in-Loop.body c.in-Loop.cond c.in-Loop.place c.deref-in-Loop.result.now c.in-Loop.is c.deref-in-Loop.ensures) c.in_ok-body_end-in-Loop.ensures c.in_ok-side-in-Loop.ensures
    (subst (λ (x : Stmt). Makes c.repeat.new.self c.surface.new.self c.in_ok-surface-in-Loop.field-0 (λ κ. surface c.args.vars.now κ c.args.first.label c.args.first.register (term_of (kernel x)) c.in_ok-side-in-Loop.side.go c.args.step)) again c.in_ok-surface-in-Loop.ensures) c.in_ok-end-in-Loop.ensures

pub resume-returns-in_ok-end-in-Guard : goal.resume-returns-in_ok-end-in-Guard
resume-returns-in_ok-end-in-Guard t c =
    let is = guard_is c.args.stmt.now c.in-Guard.abort c.in-Guard.weak c.in-Guard.immediate c.in-Guard.body c.in-Guard.cond c.deref-in-Guard.result.now c.in-Guard.is c.deref-in-Guard.ensures in
    subst (λ (x : Term). Makes c.args.self.now c.resume_guard.new.self c.in_ok-end-in-Guard.end (λ κ. resume c.args.vars.now κ c.args.first.label c.args.first.register x c.args.res c.args.step c.args.stay)) (sym is) c.in_ok-end-in-Guard.ensures

pub resume-resume_guard-requires : goal.resume-resume_guard-requires
resume-resume_guard-requires t c =
    let is = guard_is c.args.stmt.now c.in-Guard.abort c.in-Guard.weak c.in-Guard.immediate c.in-Guard.body c.in-Guard.cond c.deref-in-Guard.result.now c.in-Guard.is c.deref-in-Guard.ensures in
    let sound = sound_guard c.args.vars.now c.in-Guard.abort c.in-Guard.weak c.in-Guard.immediate (term_of (kernel c.deref-in-Guard.result.now)) (tree c.in-Guard.cond) (subst (λ (x : Term). IsSound c.args.vars.now x) is c.requires.sound) in
    let smaller = guard_smaller c.args.stmt.now c.in-Guard.abort c.in-Guard.weak c.in-Guard.immediate c.in-Guard.body c.in-Guard.cond c.deref-in-Guard.result.now c.in-Guard.is c.deref-in-Guard.ensures in
    (omega (arith, c.decreases, smaller), (c.requires.types, (c.requires.over, (sound.0, (sound.1, c.requires.labels ∙ ap labels is)))))

pub resume_guard-returns-then-guard : goal.resume_guard-returns-then-guard
resume_guard-returns-then-guard t c =
    let is : guard_of c.args.guard.abort c.args.guard.weak c.args.guard.immediate (term_of (kernel c.args.body.now)) (tree c.args.cond.now) ≡ abort c.args.guard.weak c.args.guard.immediate (term_of (kernel c.args.body.now)) (tree c.args.cond.now) =
    ap (λ a. guard_of a c.args.guard.weak c.args.guard.immediate (term_of (kernel c.args.body.now)) (tree c.args.cond.now)) c.if-guard.true in
    abort_resumed c.args.vars.now c.args.self.now c.begin_abort.new.self c.depth.new.self c.end_abort.new.self c.args.guard.weak c.args.guard.immediate c.args.first.label c.args.first.register c.args.labels (term_of (kernel c.args.body.now))
    (guard_of c.args.guard.abort c.args.guard.weak c.args.guard.immediate (term_of (kernel c.args.body.now)) (tree c.args.cond.now)) (tree c.args.cond.now) c.args.res c.args.step c.args.stay c.in_ok-begun.begun c.in_ok-body_end.body_end c.in_ok-end.end
    is c.requires.labels c.in_ok-begun.ensures c.in_ok-body_end.ensures c.in_ok-end.ensures

pub resume_guard-resume_suspend-requires : goal.resume_guard-resume_suspend-requires
resume_guard-resume_suspend-requires t c =
    let labels_are = ap (λ a. labels (guard_of a c.args.guard.weak c.args.guard.immediate (term_of (kernel c.args.body.now)) (tree c.args.cond.now))) c.if-guard.false in
    (omega (arith, c.decreases), (c.requires.types, (c.requires.over, (c.requires.typed, (c.requires.sound, c.requires.labels ∙ labels_are)))))

pub resume_guard-returns : goal.resume_guard-returns
resume_guard-returns t c =
    let is : guard_of c.args.guard.abort c.args.guard.weak c.args.guard.immediate (term_of (kernel c.args.body.now)) (tree c.args.cond.now) ≡ suspend c.args.guard.weak c.args.guard.immediate (term_of (kernel c.args.body.now)) (tree c.args.cond.now) =
    ap (λ a. guard_of a c.args.guard.weak c.args.guard.immediate (term_of (kernel c.args.body.now)) (tree c.args.cond.now)) c.if-guard.false in
    subst (λ (x : Term). Makes c.args.self.now c.resume_suspend.new.self c.in_ok-end-2.end (λ κ. resume c.args.vars.now κ c.args.first.label c.args.first.register x c.args.res c.args.step c.args.stay)) (sym is) c.in_ok-end-2.ensures

pub resume_suspend-returns-then-guard : goal.resume_suspend-returns-then-guard
resume_suspend-returns-then-guard t c = immediate_resumed c.args.vars.now c.args.self.now c.begin_suspend.new.self c.wake_body.new.self c.depth.new.self c.or_of.new.self c.end_suspend.new.self c.args.guard.weak c.args.first.label c.args.first.register c.args.labels c.in_ok-plus.field-0
    (term_of (kernel c.args.body.now)) (suspend c.args.guard.weak c.args.guard.immediate (term_of (kernel c.args.body.now)) (tree c.args.cond.now)) (tree c.args.cond.now) c.args.res c.args.step c.args.stay
    c.in_ok-begun.begun c.in_ok-woken.woken c.in_ok-resumed.resumed c.in_ok-either.either c.in_ok-end.end
    (ap (λ i. suspend c.args.guard.weak i (term_of (kernel c.args.body.now)) (tree c.args.cond.now)) c.if-guard.true) c.requires.labels c.in_ok-plus.ensures
    c.in_ok-begun.ensures c.in_ok-woken.ensures c.in_ok-resumed.ensures c.in_ok-either.ensures c.in_ok-end.ensures

pub resume_suspend-returns : goal.resume_suspend-returns
resume_suspend-returns t c = delayed_resumed c.args.vars.now c.args.self.now c.begin_suspend.new.self c.depth-2.new.self c.end_suspend-2.new.self c.args.guard.weak c.args.first.label c.args.first.register c.args.labels
    (term_of (kernel c.args.body.now)) (suspend c.args.guard.weak c.args.guard.immediate (term_of (kernel c.args.body.now)) (tree c.args.cond.now)) (tree c.args.cond.now) c.args.res c.args.step c.args.stay
    c.in_ok-begun.begun c.in_ok-resumed-2.resumed c.in_ok-end-2.end
    (ap (λ i. suspend c.args.guard.weak i (term_of (kernel c.args.body.now)) (tree c.args.cond.now)) c.if-guard.false) c.requires.labels
    c.in_ok-begun.ensures c.in_ok-resumed-2.ensures c.in_ok-end-2.ensures

pub resume_in_turn-surface-requires : goal.resume_in_turn-surface-requires
resume_in_turn-surface-requires t c =
    let sound = sound_next c.args.vars.now (drop c.loop-part.part-index c.args.parts.now) (drop (c.loop-part.part-index + 1) c.args.parts.now) c.part-item.result
    (left_from c.args.parts.now c.loop-part.part-index c.part-item.result c.loop-part-test.true c.part-item.is) c.loop-part.invariant.sound in
    record { types = c.requires.types; over = c.loop-part.invariant.over; sound = sound.0 }

pub resume_in_turn-depth-requires : goal.resume_in_turn-depth-requires
resume_in_turn-depth-requires t c =
    let smaller = part_smaller c.args.parts.now c.loop-part.part-index c.part-item.result c.loop-part-test.true c.part-item.is in
    let sound = sound_next c.args.vars.now (drop c.loop-part.part-index c.args.parts.now) (drop (c.loop-part.part-index + 1) c.args.parts.now) c.part-item.result
    (left_from c.args.parts.now c.loop-part.part-index c.part-item.result c.loop-part-test.true c.part-item.is) c.loop-part.invariant.sound in
    (omega (arith, c.decreases, smaller), (c.requires.types, (c.in_ok-started.ensures.over c.args.vars.now c.loop-part.invariant.over, sound.0)))

pub resume_each-depth-requires : goal.resume_each-depth-requires
resume_each-depth-requires t c =
    let smaller = part_smaller c.args.parts.now c.loop-part.part-index c.part-item.result c.loop-part-test.true c.part-item.is in
    let sound = sound_next c.args.vars.now (drop c.loop-part.part-index c.args.parts.now) (drop (c.loop-part.part-index + 1) c.args.parts.now) c.part-item.result
    (left_from c.args.parts.now c.loop-part.part-index c.part-item.result c.loop-part-test.true c.part-item.is) c.loop-part.invariant.sound in
    (omega (arith, c.decreases, smaller), (c.requires.types, (c.loop-part.invariant.over, sound.0)))

pub resume_in_turn-loop-part-init : goal.resume_in_turn-loop-part-init
resume_in_turn-loop-part-init t c = record { over = c.requires.over; sound = c.requires.sound; made = λ b r h. h }

pub resume_in_turn-loop-part-preserved : goal.resume_in_turn-loop-part-preserved
resume_in_turn-loop-part-preserved t c =
    let next = left_from c.args.parts.now c.loop-part.part-index c.part-item.result c.loop-part-test.true c.part-item.is in
    let sound = sound_next c.args.vars.now (drop c.loop-part.part-index c.args.parts.now) (drop (c.loop-part.part-index + 1) c.args.parts.now) c.part-item.result next c.loop-part.invariant.sound in
    record {
      over = c.in_ok-end.ensures.over c.args.vars.now (c.in_ok-resumed.ensures.over c.args.vars.now (c.in_ok-started.ensures.over c.args.vars.now c.loop-part.invariant.over));
      sound = sound.1;
      made = λ b r h. c.loop-part.invariant.made b r (turn_resumed_more c.args.vars.now c.loop-part.self c.surface.new.self c.depth.new.self c.or_of.new.self b c.loop-part.at.label c.loop-part.at.register c.in_ok-at.at.label c.in_ok-at.at.register
          (drop (c.loop-part.part-index + 1) c.args.parts.now) (drop c.loop-part.part-index c.args.parts.now) c.part-item.result c.loop-part.end c.args.res c.args.step c.args.stay c.in_ok-started.started c.in_ok-resumed.resumed c.in_ok-end.end r
          next c.in_ok-at.ensures.label c.in_ok-at.ensures.register c.in_ok-started.ensures c.in_ok-resumed.ensures c.in_ok-end.ensures h);
    }

pub resume_in_turn-returns : goal.resume_in_turn-returns
resume_in_turn-returns t c = c.loop-part.invariant.made c.loop-part.self c.loop-part.end (turn_resumed_none c.args.vars.now c.loop-part.self c.loop-part.at.label c.loop-part.at.register (drop c.loop-part.part-index c.args.parts.now) c.loop-part.end c.args.res c.args.step c.args.stay
    (drop_of_length-le c.args.parts.now c.loop-part-test.false))

pub resume_each-loop-part-init : goal.resume_each-loop-part-init
resume_each-loop-part-init t c = record {
  over = c.requires.over;
  sound = c.requires.sound;
  count = ap length c.new-ends.ensures;
  made = λ b rs h. subst (λ (xs : List Ref). MakesAll c.args.self.now b xs (λ κ. resume_each c.args.vars.now κ c.args.first.label c.args.first.register (terms c.args.parts.now) c.args.res c.args.step c.args.stay)) (sym (ap (λ (xs : List Ref). xs ++ rs) c.new-ends.ensures)) h;
}

pub resume_each-loop-part-preserved : goal.resume_each-loop-part-preserved
resume_each-loop-part-preserved t c =
    let next = left_from c.args.parts.now c.loop-part.part-index c.part-item.result c.loop-part-test.true c.part-item.is in
    let sound = sound_next c.args.vars.now (drop c.loop-part.part-index c.args.parts.now) (drop (c.loop-part.part-index + 1) c.args.parts.now) c.part-item.result next c.loop-part.invariant.sound in
    record {
      over = c.in_ok-depth.ensures.over c.args.vars.now c.loop-part.invariant.over;
      sound = sound.1;
      count = ap length c.in_ok-push.ensures.ok ∙ (length-append c.loop-part.ends (c.in_ok-depth.field-0 ∷ []) ∙ ap (λ n. n + 1) c.loop-part.invariant.count);
      made = λ b rs h. subst (λ (xs : List Ref). MakesAll c.args.self.now b xs (λ κ. resume_each c.args.vars.now κ c.args.first.label c.args.first.register (terms c.args.parts.now) c.args.res c.args.step c.args.stay))
          (sym (ap (λ (xs : List Ref). xs ++ rs) c.in_ok-push.ensures.ok ∙ append_assoc c.loop-part.ends (c.in_ok-depth.field-0 ∷ []) rs))
          (c.loop-part.invariant.made b (c.in_ok-depth.field-0 ∷ rs) (each_resumed_more c.args.vars.now c.loop-part.self c.depth.new.self b c.loop-part.at.label c.loop-part.at.register c.in_ok-at.at.label c.in_ok-at.at.register
          (drop (c.loop-part.part-index + 1) c.args.parts.now) (drop c.loop-part.part-index c.args.parts.now) c.part-item.result c.args.res c.args.step c.args.stay c.in_ok-depth.field-0 rs next c.in_ok-at.ensures.label c.in_ok-at.ensures.register c.in_ok-depth.ensures h));
    }

pub resume_each-returns-clause-made : goal.resume_each-returns-clause-made
resume_each-returns-clause-made t c = subst (λ (xs : List Ref). MakesAll c.args.self.now c.loop-part.self xs (λ κ. resume_each c.args.vars.now κ c.args.first.label c.args.first.register (terms c.args.parts.now) c.args.res c.args.step c.args.stay)) (append-nil c.loop-part.ends)
    (c.loop-part.invariant.made c.loop-part.self [] (each_resumed_none c.args.vars.now c.loop-part.self c.loop-part.at.label c.loop-part.at.register (drop c.loop-part.part-index c.args.parts.now) c.args.res c.args.step c.args.stay
    (drop_of_length-le c.args.parts.now c.loop-part-test.false)))

pub depth-returns-then-labels-eq0 : goal.depth-returns-then-labels-eq0
depth-returns-then-labels-eq0 t c = no_depth c.args.vars.now c.args.self.now c.args.first.label c.args.first.register c.in_ok-labels.field-0.labels (term_of (kernel c.args.stmt.now)) c.args.res c.args.step c.args.stay c.in_ok-labels.ensures.labels (omega arith)

pub depth-resume-requires : goal.depth-resume-requires
depth-resume-requires t c =
    (omega (arith, c.decreases), (c.requires.types, (c.requires.over, (c.requires.sound, (search rules, c.in_ok-labels.ensures.labels)))))

pub depth-returns-then-not-is_scope : goal.depth-returns-then-not-is_scope
depth-returns-then-not-is_scope t c = depth_alone c.args.vars.now c.args.self.now c.resume.new.self c.args.first.label c.args.first.register c.in_ok-labels.field-0.labels (term_of (kernel c.args.stmt.now)) c.args.res c.args.step c.args.stay c.in_ok-end.end
    c.in_ok-labels.ensures.labels (λ e. omega arith) c.in_ok-end.ensures

pub depth-resume-requires-2 : goal.depth-resume-requires-2
depth-resume-requires-2 t c =
    let sound = subst (λ (k : Kernel). IsSound c.args.vars.now (term_of k)) (sym c.unscoped.ensures.inside) (sound_inside c.args.vars.now (kernel c.args.stmt.now) c.requires.sound) in
    let labels_are = c.in_ok-labels.ensures.labels ∙ sym (ap (λ (k : Kernel). labels (term_of k)) c.unscoped.ensures.inside ∙ labels_unscoped (kernel c.args.stmt.now)) in
    (omega (arith, c.decreases, c.unscoped.ensures.no_deeper), (c.requires.types, (c.in_ok-chain.ensures.over c.args.vars.now c.requires.over, (sound, (ap is_scope c.unscoped.ensures.inside ∙ no_scope_inside (kernel c.args.stmt.now), labels_are)))))

pub depth-returns : goal.depth-returns
depth-returns t c = depth_scoped c.args.vars.now c.args.self.now c.open_scopes.new.self c.resume-2.new.self c.end_all_resumed.new.self c.args.first.label c.args.first.register c.in_ok-chain.chain.register c.in_ok-labels.field-0.labels
    (kernel c.args.stmt.now) (kernel c.unscoped.result.now) (reverse c.in_ok-chain.chain.scopes.items) c.args.res c.args.step c.args.stay c.in_ok-end-2.end (λ e. omega arith) c.in_ok-labels.ensures.labels c.unscoped.ensures.inside
    c.in_ok-chain.ensures c.in_ok-end-2.ensures (c.in_ok-end_all_resumed.ensures c.args.res c.args.step c.args.stay)
