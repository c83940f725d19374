use Rattle.quartz_tree.specs.Kernel.{kernel}
use Rattle.quartz_expr.specs.Terms.{term_of}
use Rattle.statement_builder.proofs.ResumeLemmas.{body_started}
use Rattle.statement_builder.proofs.builder.Builder.wake_body.Goals as goal

pub returns : goal.returns
returns c = body_started c.args.self.now c.wake.new.self c.surface.new.self c.args.vars.now c.args.first.label c.args.first.register c.args.inside.label (term_of (kernel c.args.body.now)) c.args.inside.go c.args.inside.step c.args.stay c.in_ok-go.go c.in_ok-end.end c.in_ok-go.ensures c.in_ok-end.ensures
