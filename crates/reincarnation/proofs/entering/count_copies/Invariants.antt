use Rattle.std.proofs.Common.{◌≡◌, ◌≤◌, take}
use Rattle.reincarnation.specs.Entering.{copies_of}
use Rattle.reincarnation.proofs.entering.count_copies.Given as goal

abbrev pub invariant-loop-copy : goal.invariant-loop-copy
invariant-loop-copy l = record { count : l.count ≡ copies_of l.var (take l.copy-index l.made); few : l.count ≤ l.copy-index }
