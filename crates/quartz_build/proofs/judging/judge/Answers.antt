use Rattle.std.proofs.Common.{◌≡◌, Err, false, ap, rules}
use Rattle.quartz_tree.specs.Surfaces.{module_tree, written}
use Rattle.quartz_names.specs.Resolving.{has_call}
use Rattle.quartz_build.proofs.FrontLemmas.{badly_named, checked_module}
use Rattle.quartz_build.proofs.judging.judge.Goals as goal

pub returns-in-Ok : goal.returns-in-Ok
returns-in-Ok c =
    let none : has_call (written c.args.only.now.body) ≡ false = search rules in
    checked_module (module_tree c.args.only.now) c.in-Ok.resolved c.check_resolved.result none c.in-Ok.ensures.unbroken c.in-Ok.ensures.name c.in-Ok.ensures.vars c.in-Ok.ensures.body c.check_resolved.ensures

pub returns-in-Err : goal.returns-in-Err
returns-in-Err c =
    let none : has_call (written c.args.only.now.body) ≡ false = search rules in
    rw c.from.ensures (badly_named (module_tree c.args.only.now) c.in-Err.fault none (λ p e. c.in-Err.ensures.broken p (ap Err e)))
