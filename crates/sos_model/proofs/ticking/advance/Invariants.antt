use Rattle.std.proofs.Common.{◌≡◌, map, take}
use Rattle.quartz_expr.specs.Resolve.{absent}
use Rattle.sos_model.proofs.ticking.advance.Given as goal

abbrev pub invariant-loop-kept : goal.invariant-loop-kept
invariant-loop-kept l = l.all.items ≡ map (absent l.storage) (take l.kept-index l.store)
