use Rattle.std.proofs.Common.{◌≡◌, map, take}
use Rattle.sos_model.specs.FormTerms.{term}
use Rattle.sos_model.proofs.copying.+copy.Given as goal

abbrev pub invariant-copied_all-loop-part : goal.invariant-copied_all-loop-part
invariant-copied_all-loop-part l = map term l.all.items ≡ map term (take l.part-index l.parts)
