use Rattle.std.proofs.Common.{◌≡◌, ◌∙◌, ◌+◌, ◌++◌, List, [], ◌∷◌, append_assoc, append-nil, ap, arith, drop, option_map, reverse, subst, sym}
use Rattle.std.proofs.Math.ListN.{drop_of_length-le}
use Rattle.aif_cells.specs.declared.reference.Ref.{Ref}
use Rattle.quartz_tree.specs.Tree.{tree}
use Rattle.quartz_tree.specs.Kernel.{Kernel, kernel}
use Rattle.quartz_expr.specs.Terms.{term_of}
use Rattle.quartz_names.proofs.WalkLemmas.{left_from}
use Rattle.statement_cells.specs.Sound.{IsSound}
use Rattle.statement_cells.specs.Labels.{labels, registers}
use Rattle.statement_cells.specs.Surface.{start_each}
use Rattle.statement_builder.specs.Built.{MakesAll}
use Rattle.statement_builder.specs.Chains.{is_scope}
use Rattle.statement_builder.proofs.ChainLemmas.{no_scope_inside}
use Rattle.statement_builder.proofs.JoinLemmas.{terms}
use Rattle.statement_builder.proofs.VariantLemmas.{choose_is, guard_is, loop_is, nothing_is, par_is, part_smaller, pause_is, seq_is, sound_inside, sound_next, write_is}
use Rattle.statement_builder.proofs.StartLemmas.{choose_started, each_more, each_none, guard_started, loop_started, nothing_started, par_started, pause_started, seq_started, surface_alone, surface_scoped, turn_more, turn_none, write_started}
use Rattle.statement_builder.proofs.builder.Builder.+surface.Goals as goal

pub start-returns-in-Nothing : goal.start-returns-in-Nothing
start-returns-in-Nothing t c = nothing_started c.args.vars.now c.args.self.now c.args.first.label c.args.first.register (term_of (kernel c.args.stmt.now)) c.args.go c.args.step (nothing_is c.args.stmt.now c.in-Nothing.is)

pub start-returns-in_ok-end-in-Pause : goal.start-returns-in_ok-end-in-Pause
start-returns-in_ok-end-in-Pause t c = pause_started c.args.vars.now c.args.self.now c.start_pause.new.self c.args.first.label c.args.first.register (term_of (kernel c.args.stmt.now)) c.args.go c.args.step c.in_ok-end-in-Pause.end
    (pause_is c.args.stmt.now c.in-Pause.is) c.in_ok-end-in-Pause.ensures

pub start-returns-in_ok-write-in-Write : goal.start-returns-in_ok-write-in-Write
start-returns-in_ok-write-in-Write t c = write_started c.args.vars.now c.args.self.now c.write.new.self c.args.first.label c.args.first.register c.in-Write.var (option_map tree c.in-Write.index) (tree c.in-Write.value) c.in-Write.delayed c.in-Write.place c.in-Write.target_place
    (term_of (kernel c.args.stmt.now)) c.args.go c.args.step (write_is c.args.stmt.now c.in-Write.var c.in-Write.index c.in-Write.value c.in-Write.delayed c.in-Write.place c.in-Write.target_place c.in-Write.is) c.in_ok-write-in-Write.ensures

pub start-returns-in_ok-end-in-Choose : goal.start-returns-in_ok-end-in-Choose
start-returns-in_ok-end-in-Choose t c =
    let no : c.deref-in-Choose-2.result.now ≡ c.in-Choose.no.value = c.deref-in-Choose-2.ensures in
    let yes : c.deref.result.now ≡ c.in-Choose.yes.value = c.deref.ensures in
    let again : c.deref-in-Choose.result.now ≡ c.deref.result.now = c.deref-in-Choose.ensures ∙ sym yes in
    choose_started c.args.vars.now c.args.self.now c.first_side.new.self c.surface.new.self c.other_side.new.self c.surface-in-Choose.new.self c.or_of.new.self c.args.first.label c.args.first.register
    c.in_ok-second-in-Choose.second.label c.in_ok-second-in-Choose.second.register (tree c.in-Choose.cond) (term_of (kernel c.deref.result.now)) (term_of (kernel c.deref-in-Choose-2.result.now)) (term_of (kernel c.args.stmt.now)) c.args.go c.args.step
    c.in_ok-side-in-Choose.side c.in_ok-yes_end-in-Choose.yes_end c.in_ok-other-in-Choose.other c.in_ok-no_end-in-Choose.no_end c.in_ok-end-in-Choose.end
    (choose_is c.args.stmt.now c.in-Choose.cond c.in-Choose.yes c.in-Choose.no c.deref.result.now c.deref-in-Choose-2.result.now c.in-Choose.is yes no)
    (c.in_ok-second-in-Choose.ensures.label ∙ ap (λ s. c.args.first.label + labels (term_of (kernel s))) again) (c.in_ok-second-in-Choose.ensures.register ∙ ap (λ s. c.args.first.register + registers c.args.vars.now (term_of (kernel s))) again)
    c.in_ok-side-in-Choose.ensures c.in_ok-yes_end-in-Choose.ensures c.in_ok-other-in-Choose.ensures c.in_ok-no_end-in-Choose.ensures c.in_ok-end-in-Choose.ensures

pub start-returns-in_ok-end-in-Seq : goal.start-returns-in_ok-end-in-Seq
start-returns-in_ok-end-in-Seq t c = seq_started c.args.vars.now c.args.self.now c.start_in_turn.new.self c.args.first.label c.args.first.register (terms c.deref-in-Seq.result.now) (term_of (kernel c.args.stmt.now)) c.args.go c.args.step c.in_ok-end-in-Seq.end
    (seq_is c.args.stmt.now c.in-Seq.parts c.deref-in-Seq.result.now c.in-Seq.is c.deref-in-Seq.ensures.value) c.in_ok-end-in-Seq.ensures

pub start-returns-in_ok-end-in-Par : goal.start-returns-in_ok-end-in-Par
start-returns-in_ok-end-in-Par t c = par_started c.args.vars.now c.args.self.now c.start_each.new.self c.and_all.new.self c.args.first.label c.args.first.register (terms c.deref-in-Par.result.now) (term_of (kernel c.args.stmt.now)) c.args.go c.args.step c.in_ok-end-in-Par.end
    c.in_ok-ends-in-Par.ends c.as_slice.result.now (par_is c.args.stmt.now c.in-Par.parts c.deref-in-Par.result.now c.in-Par.is c.deref-in-Par.ensures.value) c.as_slice.ensures c.in_ok-ends-in-Par.ensures c.in_ok-end-in-Par.ensures

pub start-returns-in_ok-surface-in-Loop : goal.start-returns-in_ok-surface-in-Loop
start-returns-in_ok-surface-in-Loop t c = loop_started c.args.vars.now c.args.self.now c.surface-in-Loop.new.self c.args.first.label c.args.first.register (term_of (kernel c.deref-in-Loop.result.now)) (term_of (kernel c.args.stmt.now)) (tree c.in-Loop.cond) c.args.go c.args.step c.in_ok-surface-in-Loop.field-0
    (loop_is c.args.stmt.now c.in-Loop.body c.in-Loop.cond c.in-Loop.place c.deref-in-Loop.result.now c.in-Loop.is c.deref-in-Loop.ensures) c.in_ok-surface-in-Loop.ensures

pub start-returns-in_ok-end-in-Guard : goal.start-returns-in_ok-end-in-Guard
start-returns-in_ok-end-in-Guard t c = guard_started c.args.vars.now c.args.self.now c.begin_guard.new.self c.surface-in-Guard.new.self c.end_guard.new.self c.in-Guard.abort c.in-Guard.weak c.in-Guard.immediate c.args.first.label c.args.first.register
    (term_of (kernel c.deref-in-Guard.result.now)) (term_of (kernel c.args.stmt.now)) (tree c.in-Guard.cond) c.args.go c.args.step c.in_ok-begun-in-Guard.begun c.in_ok-body_end-in-Guard.body_end c.in_ok-end-in-Guard.end
    (guard_is c.args.stmt.now c.in-Guard.abort c.in-Guard.weak c.in-Guard.immediate c.in-Guard.body c.in-Guard.cond c.deref-in-Guard.result.now c.in-Guard.is c.deref-in-Guard.ensures)
    c.in_ok-begun-in-Guard.ensures c.in_ok-body_end-in-Guard.ensures c.in_ok-end-in-Guard.ensures

pub start_in_turn-surface-requires : goal.start_in_turn-surface-requires
start_in_turn-surface-requires t c =
    let smaller = part_smaller c.args.parts.now c.loop-part.part-index c.part-item.result c.loop-part-test.true c.part-item.is in
    let sound = sound_next c.args.vars.now (drop c.loop-part.part-index c.args.parts.now) (drop (c.loop-part.part-index + 1) c.args.parts.now) c.part-item.result
    (left_from c.args.parts.now c.loop-part.part-index c.part-item.result c.loop-part-test.true c.part-item.is) c.loop-part.invariant.sound in
    (omega (arith, c.decreases, smaller), (c.requires.types, (c.loop-part.invariant.over, sound.0)))

pub start_each-surface-requires : goal.start_each-surface-requires
start_each-surface-requires t c =
    let smaller = part_smaller c.args.parts.now c.loop-part.part-index c.part-item.result c.loop-part-test.true c.part-item.is in
    let sound = sound_next c.args.vars.now (drop c.loop-part.part-index c.args.parts.now) (drop (c.loop-part.part-index + 1) c.args.parts.now) c.part-item.result
    (left_from c.args.parts.now c.loop-part.part-index c.part-item.result c.loop-part-test.true c.part-item.is) c.loop-part.invariant.sound in
    (omega (arith, c.decreases, smaller), (c.requires.types, (c.loop-part.invariant.over, sound.0)))

pub start_in_turn-loop-part-init : goal.start_in_turn-loop-part-init
start_in_turn-loop-part-init t c = record { over = c.requires.over; sound = c.requires.sound; made = λ b r h. h }

pub start_in_turn-loop-part-preserved : goal.start_in_turn-loop-part-preserved
start_in_turn-loop-part-preserved t c =
    let next = left_from c.args.parts.now c.loop-part.part-index c.part-item.result c.loop-part-test.true c.part-item.is in
    let sound = sound_next c.args.vars.now (drop c.loop-part.part-index c.args.parts.now) (drop (c.loop-part.part-index + 1) c.args.parts.now) c.part-item.result next c.loop-part.invariant.sound in
    record {
      over = c.in_ok-end.ensures.over c.args.vars.now c.loop-part.invariant.over;
      sound = sound.1;
      made = λ b r h. c.loop-part.invariant.made b r (turn_more c.args.vars.now c.loop-part.self c.surface.new.self b c.loop-part.at.label c.loop-part.at.register c.in_ok-at.at.label c.in_ok-at.at.register
          (drop (c.loop-part.part-index + 1) c.args.parts.now) (drop c.loop-part.part-index c.args.parts.now) c.part-item.result c.loop-part.end c.args.step c.in_ok-end.end r next c.in_ok-at.ensures.label c.in_ok-at.ensures.register c.in_ok-end.ensures h);
    }

pub start_in_turn-returns : goal.start_in_turn-returns
start_in_turn-returns t c = c.loop-part.invariant.made c.loop-part.self c.loop-part.end (turn_none c.args.vars.now c.loop-part.self c.loop-part.at.label c.loop-part.at.register (drop c.loop-part.part-index c.args.parts.now) c.loop-part.end c.args.step
    (drop_of_length-le c.args.parts.now c.loop-part-test.false))

pub start_each-loop-part-init : goal.start_each-loop-part-init
start_each-loop-part-init t c = record {
  over = c.requires.over;
  sound = c.requires.sound;
  made = λ b rs h. subst (λ (xs : List Ref). MakesAll c.args.self.now b xs (λ κ. start_each c.args.vars.now κ c.args.first.label c.args.first.register (terms c.args.parts.now) c.args.go c.args.step)) (sym (ap (λ (xs : List Ref). xs ++ rs) c.new-ends.ensures)) h;
}

pub start_each-loop-part-preserved : goal.start_each-loop-part-preserved
start_each-loop-part-preserved t c =
    let next = left_from c.args.parts.now c.loop-part.part-index c.part-item.result c.loop-part-test.true c.part-item.is in
    let sound = sound_next c.args.vars.now (drop c.loop-part.part-index c.args.parts.now) (drop (c.loop-part.part-index + 1) c.args.parts.now) c.part-item.result next c.loop-part.invariant.sound in
    record {
      over = c.in_ok-surface.ensures.over c.args.vars.now c.loop-part.invariant.over;
      sound = sound.1;
      made = λ b rs h. subst (λ (xs : List Ref). MakesAll c.args.self.now b xs (λ κ. start_each c.args.vars.now κ c.args.first.label c.args.first.register (terms c.args.parts.now) c.args.go c.args.step))
          (sym (ap (λ (xs : List Ref). xs ++ rs) c.in_ok-push.ensures.ok ∙ append_assoc c.loop-part.ends (c.in_ok-surface.field-0 ∷ []) rs))
          (c.loop-part.invariant.made b (c.in_ok-surface.field-0 ∷ rs) (each_more c.args.vars.now c.loop-part.self c.surface.new.self b c.loop-part.at.label c.loop-part.at.register c.in_ok-at.at.label c.in_ok-at.at.register
          (drop (c.loop-part.part-index + 1) c.args.parts.now) (drop c.loop-part.part-index c.args.parts.now) c.part-item.result c.args.go c.args.step c.in_ok-surface.field-0 rs next c.in_ok-at.ensures.label c.in_ok-at.ensures.register c.in_ok-surface.ensures h));
    }

pub start_each-returns : goal.start_each-returns
start_each-returns t c = subst (λ (xs : List Ref). MakesAll c.args.self.now c.loop-part.self xs (λ κ. start_each c.args.vars.now κ c.args.first.label c.args.first.register (terms c.args.parts.now) c.args.go c.args.step)) (append-nil c.loop-part.ends)
    (c.loop-part.invariant.made c.loop-part.self [] (each_none c.args.vars.now c.loop-part.self c.loop-part.at.label c.loop-part.at.register (drop c.loop-part.part-index c.args.parts.now) c.args.go c.args.step
    (drop_of_length-le c.args.parts.now c.loop-part-test.false)))

pub surface-returns-then-not-is_scope : goal.surface-returns-then-not-is_scope
surface-returns-then-not-is_scope t c = surface_alone c.args.vars.now c.args.self.now c.start.new.self c.args.first.label c.args.first.register (term_of (kernel c.args.stmt.now)) c.args.go c.args.step c.in_ok-end.end c.if-is_zero.ensures c.in_ok-end.ensures

pub surface-start-requires-2 : goal.surface-start-requires-2
surface-start-requires-2 t c =
    let sound = subst (λ (k : Kernel). IsSound c.args.vars.now (term_of k)) (sym c.unscoped.ensures.inside) (sound_inside c.args.vars.now (kernel c.args.stmt.now) c.requires.sound) in
    (omega (arith, c.decreases, c.unscoped.ensures.no_deeper), (c.requires.types, (c.in_ok-chain.ensures.over c.args.vars.now c.requires.over, (sound, ap is_scope c.unscoped.ensures.inside ∙ no_scope_inside (kernel c.args.stmt.now)))))

pub surface-returns : goal.surface-returns
surface-returns t c = surface_scoped c.args.vars.now c.args.self.now c.open_scopes.new.self c.start-2.new.self c.end_all_started.new.self c.args.first.label c.args.first.register c.in_ok-chain.chain.register c.in_ok-labels.field-0.labels
    (kernel c.args.stmt.now) (kernel c.unscoped.result.now) (reverse c.in_ok-chain.chain.scopes.items) c.args.go c.args.step c.in_ok-end-2.end c.if-is_zero.ensures c.in_ok-labels.ensures.labels c.unscoped.ensures.inside
    c.in_ok-chain.ensures c.in_ok-end-2.ensures (c.in_ok-end_all_started.ensures c.args.first.label)
