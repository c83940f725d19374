use Rattle.std.proofs.Common.{◌≡◌, ◌++◌, drop}
use Rattle.quartz_expr.specs.Resolve.{others}
use Rattle.sos_model.proofs.resolving.other_acts.Given as goal

abbrev pub invariant-loop-act : goal.invariant-loop-act
invariant-loop-act l = others l.var l.acts ≡ l.all.items ++ others l.var (drop l.act-index l.acts)
