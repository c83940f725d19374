use Rattle.std.proofs.Common.{ℕ, ◌≡◌, ◌<◌, ◌≤◌, true, false, slice_index_or}
use Rattle.causality_check.proofs.turns.next_left.Given as goal

abbrev pub invariant-loop-at : goal.invariant-loop-at
invariant-loop-at l = (i : ℕ) → l.from ≤ i → i < l.at → slice_index_or l.taken (slice_index_or l.needed i 0) false ≡ true
