use Rattle.std.proofs.Common.{ℕ, Contains, take}
use Rattle.std.specs.Prelude.{slice_index_or}
use Rattle.write_conflicts.specs.Claims.{HaveCommon}
use Rattle.write_conflicts.proofs.clash.meets.Given as goal

abbrev pub invariant-loop-place : goal.invariant-loop-place
invariant-loop-place l = (p w : ℕ) → Contains (take l.place-index l.no) (p, w) → HaveCommon w (slice_index_or l.yes p 0) → ⊥
