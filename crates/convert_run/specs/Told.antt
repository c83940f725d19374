-- What converting a trace has written, and how it ended.
use Rattle.std.specs.Prelude.{◌≡◌, ℕ, List, [], ◌++◌, Option, Some}
use Rattle.outside.specs.declared.status.Status.{Status}
use Rattle.outside.specs.declared.status.Status.TheVariants.{BadInput, StepLimit, ReadFault, WriteFault}
use Rattle.outside.specs.declared.status.Status.TheVariants as status
use Rattle.outside.specs.Bytes.{Gains, GainsBegun}
use Rattle.quartz_expr.specs.Vars.{Vars}
use Rattle.trace_io.specs.Lines.{whole_lines}
use Rattle.trace_io.specs.Reading.{steps, steps_of}
use Rattle.trace_io.specs.Story.{done}
use Rattle.trace_writer.specs.declared.format.Format.{Format}
use Rattle.trace_writer.specs.Anew.{Tale, tale, bytes_of}
use Rattle.cell_run.specs.Told.{status_of}

-- the tale of a trace, and that of the lines that stand whole in bytes that were taken of it
abbrev pub tale_of : Format → Vars → (trace : List ℕ) → (greatest : ℕ) → Tale
tale_of f vs trace g = tale f vs g (steps vs trace)

abbrev pub whole_tale : Format → Vars → (taken : List ℕ) → (greatest : ℕ) → Tale
whole_tale f vs taken g = tale f vs g (steps_of vs (whole_lines taken))

-- the sink gained the header and the tale's lines, the status is its end, and with Ok no byte is left
pub record Converted (f : Format) (vs : Vars) (trace : List ℕ) (greatest : ℕ) (before after : List ℕ → Type 0) (left : Option (List ℕ)) (status : Status) : Type 0 where
  pub gained : Gains before after (bytes_of f vs (tale_of f vs trace greatest).written)
  pub ends : status ≡ status_of (tale_of f vs trace greatest).end
  pub all_read : (tale_of f vs trace greatest).end ≡ done → left ≡ Some []

-- a read failed: the lines that stand whole in the bytes taken, a header aside, are at most so many steps, each readable and with a line
-- that isn't too long, and the sink gained the header and exactly their lines
pub record ConvertedWhole (f : Format) (vs : Vars) (trace : List ℕ) (greatest : ℕ) (before after : List ℕ → Type 0) (left : Option (List ℕ)) : Type 0 where
  pub taken : List ℕ
  pub rest : List ℕ
  pub left_is : left ≡ Some rest
  pub cut : taken ++ rest ≡ trace
  pub ends : (whole_tale f vs taken greatest).end ≡ done
  pub gained : Gains before after (bytes_of f vs (whole_tale f vs taken greatest).written)

-- a write failed: the sink gained a prefix of the header and the tale's lines that lacks at least one byte
pub record ConvertedBegun (f : Format) (vs : Vars) (trace : List ℕ) (greatest : ℕ) (before after : List ℕ → Type 0) : Type 0 where
  pub gained : GainsBegun before after (bytes_of f vs (tale_of f vs trace greatest).written)

-- what a status says of converting
abbrev pub Converts : (f : Format) (vs : Vars) (trace : List ℕ) (greatest : ℕ) (before after : List ℕ → Type 0) (left : Option (List ℕ)) → Status → Type 0
Converts f vs trace greatest before after left ReadFault = ConvertedWhole f vs trace greatest before after left
Converts f vs trace greatest before after left WriteFault = ConvertedBegun f vs trace greatest before after
Converts f vs trace greatest before after left status = Converted f vs trace greatest before after left status

-- the statuses of converting
abbrev pub IsOfConvert : Status → Type 0
IsOfConvert status.Ok = Unit {0}
IsOfConvert (BadInput _) = Unit {0}
IsOfConvert ReadFault = Unit {0}
IsOfConvert WriteFault = Unit {0}
IsOfConvert StepLimit = Unit {0}
IsOfConvert _ = ⊥
