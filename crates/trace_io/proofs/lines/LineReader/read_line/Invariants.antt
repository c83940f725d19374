use Rattle.std.proofs.Common.{◌≡◌, ◌-◌, ◌+◌, length}
use Rattle.std.specs.Prelude.{min}
use Rattle.trace_io.specs.Held.{Reading, Begun}
use Rattle.trace_io.proofs.lines.LineReader.read_line.Given as goal

abbrev pub invariant-loop-self : goal.invariant-loop-self
invariant-loop-self g l = record {
  reading : Reading l.fn.self (g.S.Source.left l.fn.input) (g.S.Source.faults l.fn.input) (g.S.Source.calls l.fn.input) l.self (g.S.Source.left l.input) (g.S.Source.faults l.input) (g.S.Source.calls l.input);
  begun : Begun l.fn.self l.self (l.input ≡ l.fn.input);
}

abbrev pub decreases-loop-self : goal.decreases-loop-self
decreases-loop-self g l = 65538 - (length l.self.line + min 1 (length l.self.waiting))
