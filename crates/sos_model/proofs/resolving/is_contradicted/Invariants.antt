use Rattle.std.proofs.Common.{◌≡◌, drop}
use Rattle.quartz_expr.specs.Resolve.{differs_from, writes_of}
use Rattle.sos_model.proofs.resolving.is_contradicted.Given as goal

abbrev pub invariant-loop-act : goal.invariant-loop-act
invariant-loop-act l = differs_from l.value (writes_of l.var l.element l.delayed l.acts) ≡ differs_from l.value (writes_of l.var l.element l.delayed (drop l.act-index l.acts))
