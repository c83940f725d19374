-- What a counting sink tells of a run over a generated trace.
use Rattle.std.specs.Prelude.{◌≡◌, ◌<◌, ◌≤◌, ◌^◌, ℕ, List, length}
use Rattle.quartz_tree.specs.Kernel.{Kernel}
use Rattle.quartz_expr.specs.Vars.{Vars, start_of}
use Rattle.quartz_expr.specs.Intervals.{Lies, range_of}
use Rattle.quartz_expr.specs.Typed.{AreSound}
use Rattle.trace_io.specs.Lines.{joined_lines}
use Rattle.trace_io.specs.Inputs.{output_types}
use Rattle.trace_io.specs.Writing.{generated}
use Rattle.trace_io.specs.Story.{Story, done}
use Rattle.trace_io.specs.Counting.{StandsFor, Tally}
use Rattle.command_texts.specs.Texts.{tally_of}

-- variables of which runs write lines that are not too long: their types are sound, their start values lie in their ranges, and
-- there are at most 65,536 elements of outputs
pub record HaveShortLines (vs : Vars) : Type 0 where
  pub types : AreSound vs
  pub starts : (x : ℕ) → x < length vs → Lies (range_of vs x) (start_of vs x)
  pub few : length (output_types vs) ≤ 65536

-- a run over a generated trace that is done wrote a line for each step; and a counting sink that stands for these lines tells how many
-- bytes they have, and the last of them
abbrev pub CountedRunIsTold : Type 0
CountedRunIsTold = (vs : Vars) (body : Kernel) (seed steps greatest : ℕ) (written : List (List ℕ)) (t : Tally) → HaveShortLines vs → steps < 2 ^ 32
    → Story vs body (generated vs seed steps) greatest written done → StandsFor t (joined_lines written) → (length written ≡ steps) × (t ≡ tally_of written)
