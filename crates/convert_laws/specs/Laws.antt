-- What a converted trace says.
use Rattle.std.specs.Prelude.{◌≡◌, ◌↔◌, ℕ, ℤ, List, length, Option}
use Rattle.quartz_tree.specs.Kernel.{Kernel}
use Rattle.quartz_expr.specs.Vars.{Vars}
use Rattle.quartz_expr.specs.Typed.{AreSound}
use Rattle.trace_io.specs.Inputs.{input_types}
use Rattle.trace_io.specs.Reading.{steps}
use Rattle.trace_io.specs.Writing.{line_of_types}
use Rattle.trace_io.specs.Story.{End, Story, done}
use Rattle.trace_writer.specs.declared.format.Format.{Format}
use Rattle.trace_writer.specs.declared.format.Format.TheVariants.{Plain, Headed}
use Rattle.trace_writer.specs.Anew.{new_line, tale, bytes_of}
use Rattle.trace_writer.specs.Words.{CanBeNamed}

-- in format 1 no header is needed
abbrev pub CanBeHeaded : Format → Vars → Type 0
CanBeHeaded Plain vs = Unit {0}
CanBeHeaded Headed vs = CanBeNamed vs

-- the steps of a trace, converted in at most so many
abbrev pub converted : Format → Vars → (greatest : ℕ) → (steps : List (Option (List ℤ))) → List ℕ
converted f vs g ss = bytes_of f vs (tale f vs g ss).written

-- a trace that is converted to its end has the same steps in its new form
abbrev pub NewTracesSayTheSame : Type 0
NewTracesSayTheSame = (f : Format) (vs : Vars) (greatest : ℕ) (trace : List ℕ) → AreSound vs → CanBeHeaded f vs → (tale f vs greatest (steps vs trace)).end ≡ done
    → steps vs (converted f vs greatest (steps vs trace)) ≡ steps vs trace

-- so each body has the same stories over both
abbrev pub NewTracesRunTheSame : Type 0
NewTracesRunTheSame = (f : Format) (vs : Vars) (greatest : ℕ) (trace : List ℕ) → AreSound vs → CanBeHeaded f vs → (tale f vs greatest (steps vs trace)).end ≡ done
    → (body : Kernel) (most : ℕ) (written : List (List ℕ)) (e : End) → Story vs body trace most written e ↔ Story vs body (converted f vs greatest (steps vs trace)) most written e

-- in format 1 a line is as an output line of these values would be
abbrev pub PlainLinesAreAsOutputs : Type 0
PlainLinesAreAsOutputs = (vs : Vars) (last values : List ℤ) → length last ≡ length (input_types vs) → new_line Plain (input_types vs) last values ≡ line_of_types (input_types vs) values
