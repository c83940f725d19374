use Rattle.std.proofs.Common.{◌≡◌, ℕ, false, Contains, map, take}
use Rattle.write_conflicts.specs.Pairs.{steps_of}
use Rattle.write_conflicts.specs.Claims.{registers_exclude}
use Rattle.write_conflicts.proofs.clash.some_exclude.Given as goal

abbrev pub invariant-loop-register : goal.invariant-loop-register
invariant-loop-register l = (r m : ℕ) → Contains (take l.register-index l.registers) r → Contains l.others m → registers_exclude (map steps_of l.paths) r m ≡ false
