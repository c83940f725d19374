use Rattle.std.proofs.Common.{Ok, ◌≡◌, take, drop}
use Rattle.outside.specs.Puts.{Puts}
use Rattle.aif_cells.specs.Aif.{output_count}
use Rattle.aif_cells.specs.Text.{output_lines}
use Rattle.aif_cells.proofs.text.put_outputs.Given as goal

abbrev pub invariant-loop-number : goal.invariant-loop-number
invariant-loop-number g l = record {
  cells : l.left ≡ drop (output_count (take l.number l.vars)) l.outputs;
  puts : Puts g.O.Sink.stands g.O.Sink.faults (Ok tt) l.initial.out l.out (output_lines 0 l.outputs (take l.number l.vars));
}
