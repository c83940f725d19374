use Rattle.std.proofs.Common.{◌≡◌, drop, map}
use Rattle.sos_model.specs.Answers.{first_unresolved}
use Rattle.sos_model.specs.Found.{met_of}
use Rattle.sos_model.proofs.react.first_difference.Given as goal

abbrev pub invariant-loop-meeting : goal.invariant-loop-meeting
invariant-loop-meeting l = first_unresolved (map met_of l.met) ≡ first_unresolved (map met_of (drop l.meeting-index l.met))
