use Rattle.std.proofs.Common.{◌≡◌, take}
use Rattle.sos_model.proofs.react.copied_env.Given as goal

abbrev pub invariant-loop-elements : goal.invariant-loop-elements
invariant-loop-elements l = l.values ≡ take l.elements-index l.env.values
