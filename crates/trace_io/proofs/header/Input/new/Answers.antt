use Rattle.trace_io.proofs.HeaderLemmas.{field_pushed}
use Rattle.trace_io.proofs.header.Input.new.Goals as goal

pub loop-at-preserved : goal.loop-at-preserved
loop-at-preserved c = field_pushed c.args.var.now.decl.ty.base c.loop-at.at c.args.behind c.loop-at.fields.items c.push.new.self.items _ c.loop-at-test.true c.loop-at.invariant c.in_ok-push.ensures.items
