use Rattle.std.proofs.Common.{◌≡◌, ◌≤◌, List, ℕ, Some, None}
use Rattle.quartz_tree.specs.Kernel.{Kernel}
use Rattle.quartz_expr.specs.Vars.{Vars}
use Rattle.trace_io.specs.Held.{CalledAtMost}
use Rattle.cell_run.specs.Machine.{Executes}
use Rattle.cell_run.specs.Room.{HasRoomFor, calls_before}
use Rattle.cell_run.proofs.StoryLemmas.{SoFar}
use Rattle.cell_run.proofs.running.run_in.Given as goal

abbrev pub invariant-loop-step : goal.invariant-loop-step
invariant-loop-step g l = record {
  fits : HasRoomFor l.aif l.room;
  goes_on : l.room.reader.over ≡ None;
  input_counts : g.S.Source.faults l.initial.input ≤ g.S.Source.faults l.input;
  out_counts : g.O.Sink.faults l.initial.out ≤ g.O.Sink.faults l.out;
  asked : CalledAtMost (calls_before l.room.reader.trail.is_fresh l.step) (g.S.Source.calls l.initial.input) (g.S.Source.calls l.input);
  told : (vs : Vars) (body : Kernel) → Executes vs body l.aif → (trace : List ℕ) → g.S.Source.left l.initial.input ≡ Some trace
      → SoFar vs body trace l.most_steps l.step l.room.registers.items l.room.reader.trail (g.S.Source.left l.input) (g.O.Sink.stands l.initial.out) (g.O.Sink.stands l.out);
}
