-- The memory of a run, and what came of reading a step.
use Rattle.std.specs.Prelude.{◌≡◌, ◌≤◌, ◌+◌, ◌*◌, ℕ, ℤ, Bool, true, false, List, [], length, vec_capacity, Option, None, Result, Ok, Err}
use Rattle.outside.specs.declared.status.Status.{Status}
use Rattle.outside.specs.declared.status.Status.TheVariants as status
use Rattle.quartz_expr.specs.Vars.{Vars}
use Rattle.aif_cells.specs.declared.aif.Aif.{Aif}
use Rattle.trace_io.specs.declared.step.ReadStep.{ReadStep}
use Rattle.trace_io.specs.declared.step.ReadStep.TheVariants.{Step, End, Bad, ReadFault}
use Rattle.trace_io.specs.Inputs.{output_types}
use Rattle.trace_io.specs.Reading.{steps_of}
use Rattle.trace_io.specs.Trace.{Reader, Trail, coming, ReadTrace}
use Rattle.cell_run.specs.declared.room.Room.{Room}
use Rattle.cell_run.specs.Machine.{initials}

-- the room for the values of a module's cells, registers, inputs and outputs, and a writer of its outputs
pub record HasRoomFor (aif : Aif) (room : Room) : Type 0 where
  pub registers : length room.registers.items ≡ length aif.registers
  pub next : length room.next.items ≡ length aif.registers
  pub cells : length room.cells.items ≡ length aif.cells
  pub inputs : length room.reader.trail.course.last ≤ vec_capacity room.packet.values
  pub outputs : length aif.outputs ≤ vec_capacity room.packet.values
  pub writer : room.writer ≡ output_types aif.vars

-- a reader that has read nothing yet
pub record IsNew (vs : Vars) (r : Reader) : Type 0 where
  pub means : (ls : List (List ℕ)) → coming r.trail ls ≡ steps_of vs ls
  pub holds : r.trail.course.held ≡ record { line = []; waiting = []; ended = false }
  pub fresh : r.trail.is_fresh ≡ true
  pub goes_on : r.over ≡ None

-- the registers are those of the first step, and nothing is read yet
pub record IsRoomFor (aif : Aif) (room : Room) : Type 0 where
  pub fits : HasRoomFor aif room
  pub first : room.registers.items ≡ initials aif.registers
  pub new : IsNew aif.vars room.reader

-- that step k is read, or the status that ends a run there
abbrev pub going : (k : ℕ) → ReadStep → Result (Unit {0}) Status
going k Step = Ok tt
going k End = Err status.Ok
going k Bad = Err (status.BadInput k)
going k ReadFault = Err status.ReadFault

-- what a reader promises of a step, told as whether a run goes on
pub record CameTo (k : ℕ) (start : Trail) (left_before : Option (List ℕ)) (faults_before : ℕ) (calls_before : Option ℕ) (r : Result (Unit {0}) Status) (now : Trail) (values : List ℤ) (left : Option (List ℕ)) (faults : ℕ) (calls : Option ℕ) : Type 0 where
  pub answer : ReadStep
  pub is : r ≡ going k answer
  pub read : ReadTrace start left_before faults_before calls_before answer now values left faults calls

-- how often a run asks its source up to its step k, where the reader has read nothing or something
abbrev pub calls_before : (is_fresh : Bool) → (k : ℕ) → ℕ
calls_before true k = 65538 * k
calls_before false k = 65538 * (k + 1)
