use Rattle.std.proofs.Common.{◌≡◌, drop}
use Rattle.quartz_expr.specs.Resolve.{first_of_all, writes_of}
use Rattle.sos_model.proofs.resolving.first_write.Given as goal

abbrev pub invariant-loop-act : goal.invariant-loop-act
invariant-loop-act l = first_of_all (writes_of l.var l.element l.delayed l.acts) ≡ first_of_all (writes_of l.var l.element l.delayed (drop l.act-index l.acts))
