-- What came of a command that writes a text.
use Rattle.std.specs.Prelude.{◌≡◌, ◌⊎◌, ℕ, List}
use Rattle.outside.specs.Bytes.{Gains, GainsBegun}
use Rattle.outside.specs.declared.status.Status.{Status}
use Rattle.outside.specs.declared.status.Status.TheVariants.{WriteFault}
use Rattle.outside.specs.declared.status.Status.TheVariants as status

-- the text was put, and the status is Ok; or a write failed, which was counted, and a prefix was put that lacks at least one byte
abbrev pub IsWritten : (text : List ℕ) → (before after : List ℕ → Type 0) → (out_rose : Type 0) → Status → Type 0
IsWritten text before after out_rose s = ((s ≡ status.Ok) × Gains before after text) ⊎ ((s ≡ WriteFault) × out_rose × GainsBegun before after text)
