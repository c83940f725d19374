use Rattle.std.proofs.Common.{sym, ap, refl, ◌∙◌}
use Rattle.trace_io.specs.declared.step.ReadStep.TheVariants as step
use Rattle.trace_io.specs.Reading.{is_header}
use Rattle.trace_io.specs.Trace.{Reader}
use Rattle.trace_io.proofs.NextLemmas.{line_unread, line_given}
use Rattle.trace_io.proofs.TraceLemmas.{trace_of_next, later_trace, no_header, first_long, first_none, first_failed, bad_header, behind_first_line}
use Rattle.trace_io.proofs.reader.TraceReader.read_first.Goals as goal

pub returns-then-not-take_header-clause-read : goal.returns-then-not-take_header-clause-read
returns-then-not-take_header-clause-read g c =
    bad_header c.self.inside.lines c.self.inside.fields.items c.self.inside.may_keep c.self.inside.last.items c.self.inside.inputs.items c.self.inside.is_fresh _ _ _ c.read_line.new.self _ _ _ _ (ap (λ (r : Reader). r.trail) c.self.view_is) c.requires.fresh
    c.in-Line.ensures.read (ap is_header (sym c.line.ensures) ∙ (sym c.is_header.ensures ∙ c.if-is_header.true)) c.take_header.result _ c.take_header.ensures.named c.if-not-take_header.true _ c.take_header.ensures.same.0 _

pub returns-then-is_header-clause-read : goal.returns-then-is_header-clause-read
returns-then-is_header-clause-read g c =
    behind_first_line c.self.inside.lines c.self.inside.fields.items c.self.inside.may_keep c.self.inside.last.items c.self.inside.inputs.items c.self.inside.is_fresh _ _ _ c.read_line.new.self _ _ _ _ (ap (λ (r : Reader). r.trail) c.self.view_is) c.requires.fresh
    c.in-Line.ensures.read c.in-Line.ensures.ends (ap is_header (sym c.line.ensures) ∙ (sym c.is_header.ensures ∙ c.if-is_header.true)) c.take_header.result c.take_header.new.self.trail.course.fields c.take_header.ensures.named c.if-not-take_header.false
    c.take_header.new.self.trail _ c.take_header.ensures.same.0 c.take_header.ensures.begun (c.take_header.ensures.keeps ∙ c.if-not-take_header.false) refl c.take_header.ensures.same.1 (c.read_next.ensures.fields.1 ∙ (c.take_header.ensures.keeps ∙ c.if-not-take_header.false)) _ _ _ _ _
    (later_trace c.take_header.new.self.trail c.read_next.new.self.trail _ _ _ _ _ _ _ _ c.take_header.ensures.begun c.read_next.ensures.begun c.read_next.ensures.fields.0 c.read_next.ensures.fields.1 c.read_next.ensures.read)

pub returns-then-not-read_values-clause-read : goal.returns-then-not-read_values-clause-read
returns-then-not-read_values-clause-read g c =
    trace_of_next c.args.self.now.trail c.read_values.new.self.trail _ _ _ _ _ _ _ step.Bad (λ e. absurd (cc e))
    (no_header c.self.inside.lines c.self.inside.fields.items c.self.inside.may_keep c.self.inside.last.items c.self.inside.inputs.items c.self.inside.is_fresh _ _ _ c.read_line.new.self _ _ _ _ (ap (λ (r : Reader). r.trail) c.self.view_is) c.requires.fresh
    c.in-Line.ensures.read (ap is_header (sym c.line.ensures) ∙ (sym c.is_header.ensures ∙ c.if-is_header.false)))
    (line_unread c.self.inside.lines c.self.inside.fields.items c.self.inside.may_keep c.self.inside.last.items _ _ _ c.read_line.new.self _ _ _ _ (ap (λ (r : Reader). r.trail.course) c.self.view_is)
    c.in-Line.ensures.read _ c.read_values.ensures.held c.read_values.result c.read_values.ensures.read c.if-not-read_values.true _)

pub returns-else-not-read_values-clause-read : goal.returns-else-not-read_values-clause-read
returns-else-not-read_values-clause-read g c =
    trace_of_next c.args.self.now.trail c.read_values.new.self.trail _ _ _ _ _ _ _ step.Step
    (λ _. (c.read_values.ensures.begun, c.read_values.ensures.fields.0 ∙ ap (λ (r : Reader). r.trail.course.fields) c.self.view_is, c.read_values.ensures.fields.1 ∙ ap (λ (r : Reader). r.trail.course.may_keep) c.self.view_is))
    (no_header c.self.inside.lines c.self.inside.fields.items c.self.inside.may_keep c.self.inside.last.items c.self.inside.inputs.items c.self.inside.is_fresh _ _ _ c.read_line.new.self _ _ _ _ (ap (λ (r : Reader). r.trail) c.self.view_is) c.requires.fresh
    c.in-Line.ensures.read (ap is_header (sym c.line.ensures) ∙ (sym c.is_header.ensures ∙ c.if-is_header.false)))
    (line_given c.self.inside.lines c.self.inside.fields.items c.self.inside.may_keep c.self.inside.last.items _ _ _ c.read_line.new.self _ _ _ _ (ap (λ (r : Reader). r.trail.course) c.self.view_is)
    c.in-Line.ensures.read _ c.read_values.ensures.held c.read_values.result c.read_values.ensures.read c.if-not-read_values.false _ (c.read_values.ensures.given c.if-not-read_values.false))

pub returns-in-End-clause-read : goal.returns-in-End-clause-read
returns-in-End-clause-read g c =
    first_none c.self.inside.lines c.self.inside.fields.items c.self.inside.may_keep c.self.inside.last.items c.self.inside.inputs.items c.self.inside.is_fresh _ _ _ c.read_line.new.self _ _ _ _ (ap (λ (r : Reader). r.trail) c.self.view_is) c.requires.fresh
    c.in-End.ensures.read _ refl _

pub returns-in-TooLong-clause-read : goal.returns-in-TooLong-clause-read
returns-in-TooLong-clause-read g c =
    first_long c.self.inside.lines c.self.inside.fields.items c.self.inside.may_keep c.self.inside.last.items c.self.inside.inputs.items c.self.inside.is_fresh _ _ _ c.read_line.new.self _ _ _ _ (ap (λ (r : Reader). r.trail) c.self.view_is) c.requires.fresh
    c.in-TooLong.ensures.read _ refl _

pub returns-in-Failed-clause-read : goal.returns-in-Failed-clause-read
returns-in-Failed-clause-read g c =
    first_failed c.self.inside.lines c.self.inside.fields.items c.self.inside.may_keep c.self.inside.last.items c.self.inside.inputs.items c.self.inside.is_fresh _ _ _ c.read_line.new.self _ _ _ _ (ap (λ (r : Reader). r.trail) c.self.view_is) c.requires.fresh
    c.in-Failed.ensures.read _ refl _
