use Rattle.std.proofs.Common.{◌≡◌, ℕ, false, Contains, map, take}
use Rattle.write_conflicts.specs.Pairs.{steps_of}
use Rattle.write_conflicts.specs.Claims.{registers_exclude}
use Rattle.write_conflicts.proofs.clash.excludes_some.Given as goal

abbrev pub invariant-loop-other : goal.invariant-loop-other
invariant-loop-other l = (m : ℕ) → Contains (take l.other-index l.others) m → registers_exclude (map steps_of l.paths) l.register m ≡ false
