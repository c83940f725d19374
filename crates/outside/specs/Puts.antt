-- What a call does that puts bytes to a sink.
use Rattle.std.specs.Prelude.{ℕ, ◌≤◌, List, Result, OnOk, OnErr}
use Rattle.outside.specs.Bytes.{Rose, Gains, GainsBegun}
use Rattle.outside.specs.declared.source.Failed.{Failed}

-- the call answered Ok, and the sink gained exactly these bytes; or it failed, the count of faults rose, and the sink gained
-- a front of the bytes that lacks at least one. The count never falls
pub record Puts {S : Type 0} (stands : S → List ℕ → Type 0) (faults : S → ℕ) (answer : Result (Unit {0}) Failed) (before after : S) (bytes : List ℕ) : Type 0 where
  pub never_falls : faults before ≤ faults after
  pub gained : OnOk answer (Gains (stands before) (stands after) bytes)
  pub rose : OnErr answer (Rose (faults before) (faults after))
  pub begun : OnErr answer (GainsBegun (stands before) (stands after) bytes)
