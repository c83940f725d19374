use Rattle.std.proofs.Common.{◌≡◌, ℕ, ◌<◌, length}
use Rattle.std.specs.Prelude.{slice_index_or}
use Rattle.write_conflicts.specs.Tables.{said_at}
use Rattle.write_conflicts.proofs.claims.yes_of.Given as goal

abbrev pub invariant-loop-place : goal.invariant-loop-place
invariant-loop-place l = record {
  size : length l.words ≡ l.place;
  words : (p : ℕ) → p < l.place → slice_index_or l.words p 0 ≡ (said_at l.columns p l.action).yes;
}
