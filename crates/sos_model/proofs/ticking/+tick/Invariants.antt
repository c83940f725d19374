use Rattle.std.proofs.Common.{◌≡◌, map, take}
use Rattle.quartz_expr.specs.Tick.{tick}
use Rattle.sos_model.specs.FormTerms.{term}
use Rattle.sos_model.proofs.ticking.+tick.Given as goal

abbrev pub invariant-tick_forms-loop-part : goal.invariant-tick_forms-loop-part
invariant-tick_forms-loop-part l = map term l.all.items ≡ map (λ f. tick l.vars (term f)) (take l.part-index l.parts)
