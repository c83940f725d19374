use Rattle.std.proofs.Common.{◌≡◌, ◌++◌, drop}
use Rattle.quartz_expr.specs.Resolve.{resolved_store, values_of}
use Rattle.sos_model.proofs.resolving.wanted_values.Given as goal

abbrev pub invariant-loop-element : goal.invariant-loop-element
invariant-loop-element l = values_of (resolved_store l.storage l.var l.acts 0 l.store) ≡ l.all.items ++ values_of (resolved_store l.storage l.var l.acts l.element (drop l.element l.store))
