use Rattle.std.proofs.Common.{◌≡◌, ◌++◌, drop}
use Rattle.quartz_expr.specs.Resolve.{store_conflicts}
use Rattle.sos_model.proofs.resolving.add_conflicts.Given as goal

abbrev pub invariant-loop-element : goal.invariant-loop-element
invariant-loop-element l = l.initial.all.items ++ store_conflicts l.place l.var l.acts 0 l.values ≡ l.all.items ++ store_conflicts l.place l.var l.acts l.element (drop l.element l.values)
