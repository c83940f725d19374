use Rattle.std.proofs.Common.{◌≡◌, ap, map, option_map, slice_set, true, refl, sym, subst, ◌∙◌, arith, rules}
use Rattle.quartz_tree.specs.Tree.{tree}
use Rattle.quartz_expr.specs.Terms.{choose, guard_of, loop, scope, write}
use Rattle.quartz_expr.specs.Typed.{Fits}
use Rattle.quartz_expr.specs.Values.{Values}
use Rattle.sos_model.specs.declared.form.Form.{Form}
use Rattle.sos_model.specs.FormTerms.{term, terms}
use Rattle.sos_model.specs.Sound.{is_sound}
use Rattle.sos_model.proofs.ArmLemmas.{sound_choice, sound_loop, sound_scope}
use Rattle.sos_model.proofs.EnvLemmas.{has_place}
use Rattle.sos_model.proofs.VariantLemmas.{body_smaller, guard_is, loop_is, no_smaller, part_smaller, scope_is, scope_smaller, term_if, term_loop, term_scope, term_write}
use Rattle.sos_model.proofs.WalkLemmas.{joins_on, passes_on, sound_part}
use Rattle.sos_model.proofs.WalkedLemmas.{back_to, few_kept, fits_entered, place_inside, values_inside, walked_is}
use Rattle.sos_model.proofs.walking.+walk.Goals as goal

pub walk-walk-inner-requires : goal.walk-walk-inner-requires
walk-walk-inner-requires t c =
    let no : c.deref.result.now ≡ c.in-If.no.value = search rules in
    let parts = sound_choice c.args.vars.now (term c.args.form.now) (tree c.in-If.cond) (term c.in-If.yes.value) (term c.in-If.no.value) (ap term c.in-If.is ∙ term_if _ _ _) c.requires.sound in
    let smaller = no_smaller c.args.form.now c.in-If.cond c.in-If.yes c.in-If.no c.deref.result.now c.in-If.is no in
    (omega (arith, c.decreases, smaller), (c.requires.vars, (subst (λ (f : Form). is_sound c.args.vars.now (term f) ≡ true) (sym no) parts.2, c.requires.fits)))

pub walk-walk-inner-requires-in-Loop : goal.walk-walk-inner-requires-in-Loop
walk-walk-inner-requires-in-Loop t c =
    let body : c.deref-in-Loop.result.now ≡ c.in-Loop.body.value = search rules in
    let sound = sound_loop c.args.vars.now (term c.args.form.now) (term c.in-Loop.body.value) (tree c.in-Loop.cond) (ap term c.in-Loop.is ∙ term_loop _ _) c.requires.sound in
    let smaller = body_smaller c.args.form.now c.in-Loop.body c.in-Loop.cond c.deref-in-Loop.result.now c.in-Loop.is body in
    (omega (arith, c.decreases, smaller), (c.requires.vars, (subst (λ (f : Form). is_sound c.args.vars.now (term f) ≡ true) (sym body) sound, c.requires.fits)))

pub walk-exchange-requires : goal.walk-exchange-requires
walk-exchange-requires t c =
    let parts = sound_scope c.args.vars.now (term c.args.form.now) c.in-Scope.var (option_map (λ v. v.items) c.in-Scope.store) (term c.in-Scope.body.value) (ap term c.in-Scope.is ∙ term_scope _ _ _) c.requires.sound in
    has_place c.args.vars.now c.args.env.now.values c.in-Scope.var c.requires.vars c.requires.fits parts.0

pub walk-walk-inner-requires-in-Scope : goal.walk-walk-inner-requires-in-Scope
walk-walk-inner-requires-in-Scope t c =
    let store = option_map (λ v. v.items) c.in-Scope.store in
    let parts = sound_scope c.args.vars.now (term c.args.form.now) c.in-Scope.var store (term c.in-Scope.body.value) (ap term c.in-Scope.is ∙ term_scope _ _ _) c.requires.sound in
    let place = has_place c.args.vars.now c.args.env.now.values c.in-Scope.var c.requires.vars c.requires.fits parts.0 in
    let body : c.deref-in-Scope-3.result.now ≡ c.in-Scope.body.value = search rules in
    let inside : c.exchange.new.env.values ≡ slice_set c.args.env.now.values c.in-Scope.var c.in_ok-entry-in-Scope.entry.read.items = search rules in
    let fits = fits_entered c.args.vars.now c.args.env.now.values c.exchange.new.env.values c.in-Scope.var store c.args.given.now c.in_ok-entry-in-Scope.entry.read.items c.in_ok-entry-in-Scope.entry.store.items
    c.requires.fits place parts.1 c.in_ok-entry-in-Scope.ensures.store c.in_ok-entry-in-Scope.ensures.enough c.in_ok-entry-in-Scope.ensures.read inside in
    let smaller = scope_smaller c.args.form.now c.in-Scope.var c.in-Scope.store c.in-Scope.body c.deref-in-Scope-3.result.now c.in-Scope.is body in
    (omega (arith, c.decreases, smaller), (c.requires.vars, (subst (λ (f : Form). is_sound c.args.vars.now (term f) ≡ true) (sym body) parts.2, fits)))

pub walk-scope_answer-requires-clause-place : goal.walk-scope_answer-requires-clause-place
walk-scope_answer-requires-clause-place t c =
    let parts = sound_scope c.args.vars.now (term c.args.form.now) c.in-Scope.var (option_map (λ v. v.items) c.in-Scope.store) (term c.in-Scope.body.value) (ap term c.in-Scope.is ∙ term_scope _ _ _) c.requires.sound in
    let place = has_place c.args.vars.now c.args.env.now.values c.in-Scope.var c.requires.vars c.requires.fits parts.0 in
    let inside : c.exchange.new.env.values ≡ slice_set c.args.env.now.values c.in-Scope.var c.in_ok-entry-in-Scope.entry.read.items = search rules in
    place_inside c.args.env.now.values c.walk-inner-in-Scope.new.env.values c.in-Scope.var c.in_ok-entry-in-Scope.entry.read.items (c.walk-inner-in-Scope.ensures.env ∙ inside) place

pub walk-scope_answer-requires-clause-few : goal.walk-scope_answer-requires-clause-few
walk-scope_answer-requires-clause-few t c =
    let store = option_map (λ v. v.items) c.in-Scope.store in
    let parts = sound_scope c.args.vars.now (term c.args.form.now) c.in-Scope.var store (term c.in-Scope.body.value) (ap term c.in-Scope.is ∙ term_scope _ _ _) c.requires.sound in
    few_kept c.args.vars.now c.in-Scope.var store c.in_ok-entry-in-Scope.entry.store.items c.requires.vars parts.1 c.in_ok-entry-in-Scope.ensures.store

pub walk-scope_answer-requires-clause-within : goal.walk-scope_answer-requires-clause-within
walk-scope_answer-requires-clause-within t c =
    let inside : c.exchange.new.env.values ≡ slice_set c.args.env.now.values c.in-Scope.var c.in_ok-entry-in-Scope.entry.read.items = search rules in
    values_inside c.args.env.now.values c.walk-inner-in-Scope.new.env.values c.in-Scope.var c.in_ok-entry-in-Scope.entry.read.items (c.walk-inner-in-Scope.ensures.env ∙ inside)

pub walk-returns-in-Write-clause-walked : goal.walk-returns-in-Write-clause-walked
walk-returns-in-Write-clause-walked t c =
    walked_is c.args.vars.now c.args.env.now.values c.args.env.now.values (term c.args.form.now)
    (write c.in-Write.var (option_map tree c.in-Write.index) (tree c.in-Write.value) c.in-Write.delayed c.in-Write.place c.in-Write.target_place) c.args.given.now c.write_answer.result
    refl (ap term c.in-Write.is ∙ term_write _ _ _ _ _ _) (c.write_answer.ensures c.args.given.now)

pub walk-returns-then-is_false-clause-walked : goal.walk-returns-then-is_false-clause-walked
walk-returns-then-is_false-clause-walked t c =
    let yes = term c.in-If.yes.value in
    let no = term c.in-If.no.value in
    walked_is c.args.vars.now c.args.env.now.values c.walk-inner.new.env.values (term c.args.form.now) (choose (tree c.in-If.cond) yes no) c.args.given.now c.no_answer.result
    (sym c.walk-inner.ensures.env) (ap term c.in-If.is ∙ term_if _ _ _)
    (c.no_answer.ensures yes no c.args.given.now
    (walked_is c.args.vars.now c.walk-inner.new.env.values c.args.env.now.values no (term c.deref.result.now) c.args.given.now c.walk-inner.result c.walk-inner.ensures.env (search rules) c.walk-inner.ensures.walked))

pub walk-returns-else-is_false-clause-walked : goal.walk-returns-else-is_false-clause-walked
walk-returns-else-is_false-clause-walked t c =
    let yes = term c.in-If.yes.value in
    let no = term c.in-If.no.value in
    walked_is c.args.vars.now c.args.env.now.values c.walk-inner-else-is_false.new.env.values (term c.args.form.now) (choose (tree c.in-If.cond) yes no) c.args.given.now c.yes_answer.result
    (sym c.walk-inner-else-is_false.ensures.env) (ap term c.in-If.is ∙ term_if _ _ _)
    (c.yes_answer.ensures yes no c.args.given.now
    (walked_is c.args.vars.now c.walk-inner-else-is_false.new.env.values c.args.env.now.values yes (term c.deref-else-is_false.result.now) c.args.given.now c.walk-inner-else-is_false.result
    c.walk-inner-else-is_false.ensures.env (search rules) c.walk-inner-else-is_false.ensures.walked))

pub walk-returns-in-Loop-clause-walked : goal.walk-returns-in-Loop-clause-walked
walk-returns-in-Loop-clause-walked t c =
    let body = term c.deref-in-Loop-2.result.now in
    walked_is c.args.vars.now c.args.env.now.values c.args.env.now.values (term c.args.form.now) (loop body (tree c.in-Loop.cond)) c.args.given.now c.loop_answer.result refl (loop_is c.args.form.now c.in-Loop.body c.in-Loop.cond c.deref-in-Loop-2.result.now c.in-Loop.is (search rules))
    (c.loop_answer.ensures c.args.vars.now c.args.env.now.values c.args.given.now
    (walked_is c.args.vars.now c.args.env.now.values c.args.env.now.values body (term c.deref-in-Loop.result.now) c.args.given.now c.walk-inner-in-Loop.result refl (search rules) c.walk-inner-in-Loop.ensures.walked))

pub walk-returns-then-stops-clause-walked : goal.walk-returns-then-stops-clause-walked
walk-returns-then-stops-clause-walked t c =
    walked_is c.args.vars.now c.args.env.now.values c.args.env.now.values (term c.args.form.now)
    (guard_of c.in-Guard.abort c.in-Guard.weak c.in-Guard.immediate (term c.deref-in-Guard.result.now) (tree c.in-Guard.cond)) c.args.given.now c.stop_answer.result
    refl (guard_is c.args.form.now c.in-Guard.abort c.in-Guard.weak c.in-Guard.immediate c.in-Guard.body c.in-Guard.cond c.deref-in-Guard.result.now c.in-Guard.is (search rules)) (c.stop_answer.ensures c.args.given.now)

pub walk-returns-else-stops-clause-walked : goal.walk-returns-else-stops-clause-walked
walk-returns-else-stops-clause-walked t c =
    let body = term c.deref-in-Guard.result.now in
    walked_is c.args.vars.now c.args.env.now.values c.walk-inner-else-stops.new.env.values (term c.args.form.now)
    (guard_of c.in-Guard.abort c.in-Guard.weak c.in-Guard.immediate body (tree c.in-Guard.cond)) c.args.given.now c.guard_answer.result
    (sym c.walk-inner-else-stops.ensures.env) (guard_is c.args.form.now c.in-Guard.abort c.in-Guard.weak c.in-Guard.immediate c.in-Guard.body c.in-Guard.cond c.deref-in-Guard.result.now c.in-Guard.is (search rules))
    (c.guard_answer.ensures c.args.given.now
    (walked_is c.args.vars.now c.walk-inner-else-stops.new.env.values c.args.env.now.values body (term c.deref-else-stops.result.now) c.args.given.now c.walk-inner-else-stops.result
    c.walk-inner-else-stops.ensures.env (search rules) c.walk-inner-else-stops.ensures.walked))

pub walk-returns-in_ok-before-in-Scope-clause-walked : goal.walk-returns-in_ok-before-in-Scope-clause-walked
walk-returns-in_ok-before-in-Scope-clause-walked t c =
    let inside : c.exchange.new.env.values ≡ slice_set c.args.env.now.values c.in-Scope.var c.in_ok-entry-in-Scope.entry.read.items = search rules in
    let back = back_to c.args.env.now.values c.walk-inner-in-Scope.new.env.values c.in-Scope.var c.in_ok-entry-in-Scope.entry.read.items c.in_ok-before-in-Scope.before (c.walk-inner-in-Scope.ensures.env ∙ inside) c.in_ok-before-in-Scope.ensures.before in
    walked_is c.args.vars.now c.args.env.now.values (slice_set c.walk-inner-in-Scope.new.env.values c.in-Scope.var c.in_ok-before-in-Scope.before) (term c.args.form.now)
    (scope c.in-Scope.var (option_map (λ v. v.items) c.in-Scope.store) (term c.deref-in-Scope.result.now)) c.args.given.now c.scope_answer.result back (scope_is c.args.form.now c.in-Scope.var c.in-Scope.store c.in-Scope.body c.deref-in-Scope.result.now c.in-Scope.is (search rules)) c.scope_answer.ensures.walked

pub walk-returns-in_ok-before-in-Scope-clause-env : goal.walk-returns-in_ok-before-in-Scope-clause-env
walk-returns-in_ok-before-in-Scope-clause-env t c =
    let inside : c.exchange.new.env.values ≡ slice_set c.args.env.now.values c.in-Scope.var c.in_ok-entry-in-Scope.entry.read.items = search rules in
    let back = back_to c.args.env.now.values c.walk-inner-in-Scope.new.env.values c.in-Scope.var c.in_ok-entry-in-Scope.entry.read.items c.in_ok-before-in-Scope.before (c.walk-inner-in-Scope.ensures.env ∙ inside) c.in_ok-before-in-Scope.ensures.before in
    c.scope_answer.ensures.env ∙ sym back

pub walk_beside-walk-requires : goal.walk_beside-walk-requires
walk_beside-walk-requires t c =
    let sound = sound_part c.args.vars.now c.args.parts.now c.loop-part.part-index c.part-item.result (omega arith) c.part-item.is c.requires.sound in
    let smaller = part_smaller c.args.parts.now c.loop-part.part-index c.part-item.result (omega arith) c.part-item.is in
    (omega (arith, c.decreases, smaller), (c.requires.vars, (sound, subst (λ (v : Values). Fits c.args.vars.now v) (sym c.loop-part.invariant.same) c.requires.fits)))

pub walk_beside-loop-part-preserved : goal.walk_beside-loop-part-preserved
walk_beside-loop-part-preserved t c = record {
  joins = joins_on c.args.vars.now c.args.env.now.values c.loop-part.env.values (terms (map term c.args.parts.now)) c.args.given.now c.args.parts.now c.loop-part.part-index c.part-item.result c.loop-part.all _ c.in_ok-found.found
      c.loop-part.invariant.joins c.in_ok-found.ensures.walked c.loop-part.invariant.same (omega arith) c.part-item.is c.in_ok-all.ensures.passed c.in_ok-all.ensures.used;
  same = search rules;
}

pub walk_in_order-walk-requires : goal.walk_in_order-walk-requires
walk_in_order-walk-requires t c =
    let sound = sound_part c.args.vars.now c.args.parts.now c.loop-at.at c.index-parts-at.result (omega arith) c.index-parts-at.is c.requires.sound in
    let smaller = part_smaller c.args.parts.now c.loop-at.at c.index-parts-at.result (omega arith) c.index-parts-at.is in
    (omega (arith, c.decreases, smaller), (c.requires.vars, (sound, subst (λ (v : Values). Fits c.args.vars.now v) (sym c.loop-at.invariant.same) c.requires.fits)))

pub walk_in_order-loop-at-preserved : goal.walk_in_order-loop-at-preserved
walk_in_order-loop-at-preserved t c = record {
  passes = passes_on c.args.vars.now c.args.env.now.values c.loop-at.env.values (terms (map term c.args.parts.now)) c.args.given.now c.args.parts.now c.loop-at.at c.index-parts-at.result c.loop-at.passed _ c.in_ok-found.found
      c.loop-at.invariant.passes c.in_ok-found.ensures.walked c.loop-at.invariant.same (omega arith) c.index-parts-at.is (search rules) c.in_ok-passed.ensures.passed c.in_ok-passed.ensures.used;
  same = search rules;
}
