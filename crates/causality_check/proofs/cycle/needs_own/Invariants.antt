use Rattle.std.proofs.Common.{◌≡◌, ℕ, take, Contains, get_or}
use Rattle.causality_check.proofs.cycle.needs_own.Given as goal

abbrev pub invariant-loop-other : goal.invariant-loop-other
invariant-loop-other l = (d : ℕ) → Contains (take l.other-index l.needed) d → get_or l.ranks d 0 ≡ get_or l.ranks l.cell 0 → ⊥
