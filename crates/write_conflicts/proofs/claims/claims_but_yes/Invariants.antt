use Rattle.std.proofs.Common.{◌≡◌, ℕ, Some, length}
use Rattle.std.specs.Prelude.{slice_get}
use Rattle.aif_cells.specs.declared.cells.Action.{Action}
use Rattle.write_conflicts.specs.declared.claims.Claims.{Claims}
use Rattle.write_conflicts.specs.Pairs.{scene}
use Rattle.write_conflicts.specs.Claims.{IsClaimButYes}
use Rattle.write_conflicts.proofs.claims.claims_but_yes.Given as goal

abbrev pub invariant-loop-at : goal.invariant-loop-at
invariant-loop-at l = record {
  size : length l.claims.items ≡ l.at;
  each : (i : ℕ) (a : Action) (c : Claims) → slice_get l.aif.actions i ≡ Some a → slice_get l.claims.items i ≡ Some c → IsClaimButYes (scene l.aif) l.blocks l.columns i a c;
}
