use Rattle.std.proofs.Common.{◌≡◌, map, take}
use Rattle.quartz_tree.specs.Kernel.{kernel}
use Rattle.quartz_expr.specs.Terms.{term_of}
use Rattle.sos_model.specs.FormTerms.{term}
use Rattle.sos_model.proofs.starting.+start.Given as goal

abbrev pub invariant-start_forms-loop-part : goal.invariant-start_forms-loop-part
invariant-start_forms-loop-part l = map term l.all.items ≡ map (λ s. term_of (kernel s)) (take l.part-index l.parts)
