use Rattle.std.proofs.Common.{◌≡◌, ◌∙◌, ap, ap₂, sym, false, get_or, length, [], ◌∷◌, ◌++◌, drop, arith}
use Rattle.std.proofs.lemmas.List.{drop_all, append-nil}
use Rattle.quartz_tree.specs.Kernel.{kernel}
use Rattle.quartz_names.specs.Resolving.{variables_from}
use Rattle.quartz_names.specs.Targets.{is_among, next_targets}
use Rattle.quartz_names.proofs.TargetLemmas.{variables_step}
use Rattle.quartz_names.proofs.WalkLemmas.{left_from}
use Rattle.quartz_names.proofs.resolving.variables.Goals as goal

pub loop-number-preserved : goal.loop-number-preserved
loop-number-preserved c =
    let delayed : get_or c.as_slice-delayed.result.now c.loop-number.number false ≡ is_among (next_targets (kernel c.args.body.now)) c.loop-number.number =
    ap (λ l. get_or l c.loop-number.number false) c.as_slice-delayed.ensures ∙ c.in_ok-flags.ensures.flags c.loop-number.number (omega arith) in
    variables_step (next_targets (kernel c.args.body.now)) _ c.loop-number.vars c.push.new.self c.loop-number.number _ _ c.index-decls-number.result _
    (left_from c.args.decls.now c.loop-number.number c.index-decls-number.result (omega arith) c.index-decls-number.is) delayed
    (c.in_ok-push.ensures.ok ∙ ap (λ v. c.loop-number.vars ++ v ∷ []) c.in_ok-variable.ensures)
    c.loop-number.invariant

pub returns : goal.returns
returns c = sym (c.loop-number.invariant ∙ ap (λ l. c.loop-number.vars ++ variables_from (next_targets (kernel c.args.body.now)) c.loop-number.number l) (drop_all c.loop-number.number c.args.decls.now (omega arith)) ∙ append-nil c.loop-number.vars)
