use Rattle.std.proofs.Common.{rules, ◌≡◌, ◌∙◌, sym, ap, length, arith}
use Rattle.quartz_names.proofs.NumberedLemmas.{resolved_from, resolved_is_numbered}
use Rattle.quartz_names.proofs.TargetLemmas.{variables_length}
use Rattle.quartz_names.proofs.resolving.resolve.Goals as goal

pub returns-clause-few : goal.returns-clause-few
returns-clause-few c =
    let listed : length c.in_ok-vars.vars ≡ length c.walk_module.new.walk.decls = ap length c.in_ok-vars.ensures ∙ variables_length _ 0 c.as_slice.result.now ∙ ap length c.as_slice.ensures in
    omega (arith, listed, c.in_ok-count.ensures)

pub returns-clause-resolves : goal.returns-clause-resolves
returns-clause-resolves c = record {
  uncalled = c.requires;
  unbroken = sym c.in_ok-body.ensures.broken ∙ c.in_default.is;
  name = c.in_ok-copied.ensures;
  vars = search rules;
  body = c.in_ok-body.ensures.body;
  few = returns-clause-few c;
}

pub returns-clause-resolved : goal.returns-clause-resolved
returns-clause-resolved c = resolved_from c.args.module.now _ (returns-clause-resolves c)

pub returns-clause-numbered : goal.returns-clause-numbered
returns-clause-numbered c = resolved_is_numbered _ (returns-clause-resolved c)
