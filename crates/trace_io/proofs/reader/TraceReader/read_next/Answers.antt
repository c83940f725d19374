use Rattle.std.proofs.Common.{refl, ap}
use Rattle.trace_io.specs.Trace.{Reader}
use Rattle.trace_io.proofs.NextLemmas.{line_unread, line_given, none_left, long_line}
use Rattle.trace_io.proofs.reader.TraceReader.read_next.Goals as goal

pub returns-then-not-read_values-clause-read : goal.returns-then-not-read_values-clause-read
returns-then-not-read_values-clause-read g c =
    line_unread c.self.inside.lines c.self.inside.fields.items c.self.inside.may_keep c.self.inside.last.items _ _ _ c.read_line.new.self _ _ _ _ (ap (λ (r : Reader). r.trail.course) c.self.view_is)
    c.in-Line.ensures.read _ c.read_values.ensures.held c.read_values.result c.read_values.ensures.read c.if-not-read_values.true _

pub returns-else-not-read_values-clause-read : goal.returns-else-not-read_values-clause-read
returns-else-not-read_values-clause-read g c =
    line_given c.self.inside.lines c.self.inside.fields.items c.self.inside.may_keep c.self.inside.last.items _ _ _ c.read_line.new.self _ _ _ _ (ap (λ (r : Reader). r.trail.course) c.self.view_is)
    c.in-Line.ensures.read _ c.read_values.ensures.held c.read_values.result c.read_values.ensures.read c.if-not-read_values.false _ (c.read_values.ensures.given c.if-not-read_values.false)

pub returns-in-End-clause-read : goal.returns-in-End-clause-read
returns-in-End-clause-read g c =
    none_left c.self.inside.lines c.self.inside.fields.items c.self.inside.may_keep c.self.inside.last.items _ _ _ c.read_line.new.self _ _ _ _ (ap (λ (r : Reader). r.trail.course) c.self.view_is) c.in-End.ensures.read _ refl _

pub returns-in-TooLong-clause-read : goal.returns-in-TooLong-clause-read
returns-in-TooLong-clause-read g c =
    long_line c.self.inside.lines c.self.inside.fields.items c.self.inside.may_keep c.self.inside.last.items _ _ _ c.read_line.new.self _ _ _ _ (ap (λ (r : Reader). r.trail.course) c.self.view_is) c.in-TooLong.ensures.read _ refl _
