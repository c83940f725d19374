use Rattle.std.proofs.Common.{◌≡◌, ◌∙◌, ap, sym, ℕ, ◌<◌, ◌≤◌, ◌||◌, ◌++◌, List, [], ◌∷◌, false, get_or, length, drop, replicate, ◌+◌, arith}
use Rattle.std.proofs.lemmas.List.{drop_all, drop_more, get_or-replicate}
use Rattle.std.proofs.lemmas.Grind.{common_steps}
use Rattle.quartz_tree.specs.Kernel.{kernel}
use Rattle.quartz_names.specs.Targets.{is_among, next_targets}
use Rattle.quartz_names.proofs.TargetLemmas.{mark_skip, mark_step, marks_done}
use Rattle.quartz_names.proofs.target.delayed_flags.Goals as goal
use Rattle.quartz_names.proofs.target.delayed_flags.Goals.{then-at-len, else-at-len}

pub loop-target-init : goal.loop-target-init
loop-target-init c = record {
  length = grind (arith, common_steps);
  flags = λ x h.
      let same : c.in_ok-vec.field-0.items ≡ replicate c.args.count false = c.in_ok-vec.ensures.items_if_clones_equal (λ y e. e) in
      ap (λ b. b || is_among c.deref-target-items.result.now x) (sym (ap (λ l. get_or l x false) (c.from_vec-flags.ensures ∙ same) ∙ get_or-replicate c.args.count x false false h));
}

pub loop-target-preserved : goal.loop-target-preserved
loop-target-preserved c = record {
  length = elim c.if-at-len.branch [ then-at-len w ↦ grind (arith, common_steps) | else-at-len w ↦ grind (arith, common_steps) ];
  flags = λ x h.
      let whole : List ℕ = c.deref-target-items.result.now in
      let rest : List ℕ = drop (c.loop-target.target-index + 1) whole in
      let t : ℕ = get_or whole c.loop-target.target-index 0 in
      let left : drop c.loop-target.target-index whole ≡ t ∷ rest = drop_more whole c.loop-target.target-index 0 c.loop-target-test.true in
      let inside : x < length c.loop-target.flags = omega (arith, h, c.loop-target.invariant.length) in
      c.loop-target.invariant.flags x h ∙ ap (λ l. get_or c.loop-target.flags x false || is_among l x) left
      ∙ elim c.if-at-len.branch [
        | then-at-len w ↦ mark_step c.loop-target.flags c.if-at-len.flags rest t x inside (w.flags-is ∙ w.set.ensures)
        | else-at-len w ↦ mark_skip c.loop-target.flags rest t x inside (omega (arith, w.if-at-len.false, c.len.ensures)) ∙ ap (λ f. get_or f x false || is_among rest x) (sym w.flags-is)
      ];
}

pub returns-clause-flags : goal.returns-clause-flags
returns-clause-flags c = λ x h.
    marks_done c.deref-target-items.result.now _ (get_or c.loop-target.flags x false) x (drop_all c.loop-target.target-index c.deref-target-items.result.now (omega arith)) (c.loop-target.invariant.flags x h)
    ∙ ap (λ l. is_among l x) (c.deref-target-items.ensures.value ∙ c.in_ok-add_targets.ensures ∙ ap (λ l. l ++ next_targets (kernel c.args.stmt.now)) c.new-targets.ensures.items)
