use Rattle.std.proofs.Common.{◌∙◌, ap, rules, length}
use Rattle.trace_io.specs.Generator.{bytes_left}
use Rattle.trace_io.specs.Writing.{generated_of}
use Rattle.trace_io.proofs.GenerateLemmas.{took_all, started, copied}
use Rattle.trace_io.proofs.generate.TraceGenSource.take.Goals as goal

pub returns-clause-moved : goal.returns-clause-moved
returns-clause-moved c =
    took_all c.self.inside.line.items (generated_of c.self.inside.types.items c.self.inside.number c.self.inside.steps) _ (bytes_left c.args.self.now) c.self.inside.at c.min-most.result (length c.args.buf.now) c.len.result
    (ap bytes_left c.self.view_is ∙ c.begin_line.ensures.same) c.requires.room c.min-most.ensures (search rules) (search rules) (copied c.self.inside.line.items c.deref.result.now c.copy_from_slice.new.self _ c.self.inside.at c.min-most.result c.deref.ensures.value c.copy_from_slice.ensures.after (search rules))
    (started _ c.begin_line.new.self (bytes_left c.args.self.now) c.self.view_is c.begin_line.ensures.same c.begin_line.ensures.begun)
