use Rattle.std.proofs.Common.{Ok, ◌≡◌, take}
use Rattle.outside.specs.Puts.{Puts}
use Rattle.aif_cells.specs.Aif.{input_count}
use Rattle.aif_cells.specs.Text.{input_lines}
use Rattle.aif_cells.proofs.text.put_inputs.Given as goal

abbrev pub invariant-loop-number : goal.invariant-loop-number
invariant-loop-number g l = record {
  counted : l.first ≡ input_count (take l.number l.vars);
  puts : Puts g.O.Sink.stands g.O.Sink.faults (Ok tt) l.initial.out l.out (input_lines 0 0 (take l.number l.vars));
}
