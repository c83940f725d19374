use Rattle.std.proofs.Common.{take}
use Rattle.causality_check.specs.Shortest.{HaveUser}
use Rattle.causality_check.proofs.distance.add_user.Given as goal

abbrev pub invariant-loop-used : goal.invariant-loop-used
invariant-loop-used l = HaveUser (take l.used-index l.needed) l.cell l.initial.users.items l.users.items
