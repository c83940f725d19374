use Rattle.std.proofs.Common.{◌≡◌, Bool, List, ◌+◌, ◌∙◌, Some, ap, sym, drop, is_some, arith}
use Rattle.quartz_expr.specs.Kinds.{place_if}
use Rattle.quartz_tree.specs.declared.declare.Decl.{Decl}
use Rattle.quartz_tree.specs.Surfaces.{Word}
use Rattle.quartz_tree.specs.Least.{least_place, lesser_place}
use Rattle.quartz_names.specs.NameRules.{repeated_after}
use Rattle.quartz_names.specs.Walks.{scope_of}
use Rattle.quartz_names.proofs.ScopeLemmas.{seen_after}
use Rattle.quartz_names.proofs.WalkLemmas.{left_from, repeated_step}
use Rattle.quartz_names.proofs.walk.least_repeated.Goals as goal

pub loop-decl-init : goal.loop-decl-init
loop-decl-init c = ap (λ s. least_place (repeated_after (λ y. is_some (s y)) c.args.decls.now)) (sym c.new-seen.ensures)

pub loop-decl-preserved : goal.loop-decl-preserved
loop-decl-preserved c =
    let s : Word → Bool = λ y. is_some (scope_of c.loop-decl.seen y) in
    let d : Decl = c.decl-item.result in
    let rest : List Decl = drop (c.loop-decl.decl-index + 1) c.args.decls.now in
    let new : c.lesser_place-least.result ≡ lesser_place c.loop-decl.least (least_place (place_if (s d.name) d.place)) =
    c.lesser_place-least.ensures ∙ ap (lesser_place c.loop-decl.least) (c.place_if.ensures ∙ ap (λ b. least_place (place_if b d.place)) (c.is_some-again.ensures ∙ ap is_some c.number.ensures)) in
    c.loop-decl.invariant
    ∙ ap (λ l. lesser_place c.loop-decl.least (least_place (repeated_after s l))) (left_from c.args.decls.now c.loop-decl.decl-index d (omega arith) c.decl-item.is)
    ∙ repeated_step s d rest c.loop-decl.least c.lesser_place-least.result new
    ∙ ap (λ f. lesser_place c.lesser_place-least.result (least_place (repeated_after f rest))) (seen_after (scope_of c.loop-decl.seen) (scope_of c.set.new.self) d.name c.in_ok-set.ensures)
