use Rattle.std.proofs.Common.{◌≡◌, ◌++◌, drop}
use Rattle.quartz_expr.specs.Resolve.{given_store}
use Rattle.sos_model.proofs.resolving.new_store.Given as goal

abbrev pub invariant-loop-element : goal.invariant-loop-element
invariant-loop-element l = given_store l.var l.acts 0 l.values ≡ l.all.items ++ given_store l.var l.acts l.element (drop l.element l.values)
