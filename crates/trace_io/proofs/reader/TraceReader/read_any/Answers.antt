use Rattle.std.proofs.Common.{sym, ap, ◌∙◌}
use Rattle.trace_io.specs.Trace.{Reader}
use Rattle.trace_io.proofs.TraceLemmas.{later_trace}
use Rattle.trace_io.proofs.reader.TraceReader.read_any.Goals as goal

pub returns-else-self-clause-read : goal.returns-else-self-clause-read
returns-else-self-clause-read g c =
    later_trace c.args.self.now.trail c.read_next.new.self.trail _ _ _ _ _ _ _ _ (sym (ap (λ (r : Reader). r.trail.is_fresh) c.self.view_is) ∙ c.if-self.false) c.read_next.ensures.begun c.read_next.ensures.fields.0 c.read_next.ensures.fields.1 c.read_next.ensures.read
