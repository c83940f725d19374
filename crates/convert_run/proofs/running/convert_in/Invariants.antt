use Rattle.std.proofs.Common.{◌≡◌, ◌≤◌, List, ℕ, Some, None, length}
use Rattle.std.specs.Prelude.{vec_capacity}
use Rattle.quartz_expr.specs.Vars.{Vars}
use Rattle.quartz_expr.specs.Typed.{AreSound}
use Rattle.trace_io.specs.Held.{CalledAtMost}
use Rattle.trace_writer.specs.declared.format.Format.{Format}
use Rattle.cell_run.specs.Room.{calls_before}
use Rattle.convert_run.specs.Room.{IsRoomFor}
use Rattle.convert_run.proofs.ConvertLemmas.{SoFar}
use Rattle.convert_run.proofs.running.convert_in.Given as goal

abbrev pub invariant-loop-step : goal.invariant-loop-step
invariant-loop-step g l = record {
  room : length l.room.reader.trail.course.last ≤ vec_capacity l.room.packet.values;
  goes_on : l.room.reader.over ≡ None;
  input_counts : g.S.Source.faults l.fn.input ≤ g.S.Source.faults l.input;
  out_counts : g.O.Sink.faults l.fn.out ≤ g.O.Sink.faults l.out;
  asked : CalledAtMost (calls_before l.room.reader.trail.is_fresh l.step) (g.S.Source.calls l.fn.input) (g.S.Source.calls l.input);
  told : (f : Format) (vs : Vars) → AreSound vs → IsRoomFor f vs l.fn.room → (trace : List ℕ) → g.S.Source.left l.fn.input ≡ Some trace
      → SoFar f vs trace l.most_steps l.step l.room.writer l.room.reader.trail (g.S.Source.left l.input) (g.O.Sink.stands l.fn.out) (g.O.Sink.stands l.out);
}
