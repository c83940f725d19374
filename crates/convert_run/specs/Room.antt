-- The memory of converting, and what came of making the line of a step.
use Rattle.std.specs.Prelude.{◌≡◌, ◌≤◌, ℕ, ℤ, Bool, true, false, List, length, vec_capacity, Option, Result, Ok, Err}
use Rattle.outside.specs.declared.status.Status.{Status}
use Rattle.outside.specs.declared.status.Status.TheVariants as status
use Rattle.quartz_expr.specs.Vars.{Vars}
use Rattle.trace_io.specs.declared.step.ReadStep.{ReadStep}
use Rattle.trace_io.specs.declared.step.ReadStep.TheVariants.{Step, End, Bad, ReadFault}
use Rattle.trace_io.specs.Lines.{is_short}
use Rattle.trace_io.specs.Inputs.{input_types}
use Rattle.trace_io.specs.Reading.{zeros}
use Rattle.trace_io.specs.Trace.{Trail, ReadTrace}
use Rattle.trace_writer.specs.declared.format.Format.{Format}
use Rattle.trace_writer.specs.Anew.{new_header}
use Rattle.trace_writer.specs.Writer.{Pen, pen_after}
use Rattle.cell_run.specs.Room.{IsNew}
use Rattle.convert_run.specs.declared.room.Room.{Room}

-- a writer of the inputs of a module in that format
pub record IsPenOf (f : Format) (vs : Vars) (p : Pen) : Type 0 where
  pub format : p.format ≡ f
  pub types : p.types ≡ input_types vs

-- nothing was read yet, the last values are 0, and the header is held
pub record IsRoomFor (f : Format) (vs : Vars) (room : Room) : Type 0 where
  pub fits : length room.reader.trail.course.last ≤ vec_capacity room.packet.values
  pub new : IsNew vs room.reader
  pub pen : IsPenOf f vs room.writer
  pub last : room.writer.last ≡ zeros vs
  pub header : room.writer.line ≡ new_header f vs

-- that the line of step k is made, or the status that ends converting there
abbrev pub making : (k : ℕ) → ReadStep → (short : Bool) → Result (Unit {0}) Status
making k Step true = Ok tt
making k Step false = Err (status.BadInput k)
making k End _ = Err status.Ok
making k Bad _ = Err (status.BadInput k)
making k ReadFault _ = Err status.ReadFault

-- what a reader promises of a step, and the line that was made of it
pub record Made (k : ℕ) (start : Trail) (pen : Pen) (left_before : Option (List ℕ)) (faults_before : ℕ) (calls_before : Option ℕ) (r : Result (Unit {0}) Status) (now : Trail) (new : Pen) (values : List ℤ) (left : Option (List ℕ)) (faults : ℕ) (calls : Option ℕ) : Type 0 where
  pub answer : ReadStep
  pub is : r ≡ making k answer (is_short new.line)
  pub read : ReadTrace start left_before faults_before calls_before answer now values left faults calls
  pub made : answer ≡ Step → new ≡ pen_after pen values
