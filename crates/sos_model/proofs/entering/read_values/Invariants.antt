use Rattle.std.proofs.Common.{◌≡◌, map, take}
use Rattle.quartz_expr.specs.Writes.{in_range}
use Rattle.sos_model.proofs.entering.read_values.Given as goal

abbrev pub invariant-loop-value : goal.invariant-loop-value
invariant-loop-value l = l.all.items ≡ map (in_range l.vars l.var) (take l.value-index l.given)
