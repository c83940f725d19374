use Rattle.std.proofs.Common.{arith}
use Rattle.statement_builder.proofs.EndLemmas.{started_ends, started_keeps}
use Rattle.statement_builder.proofs.builder.Builder.end_started.Goals as goal

pub returns-then-registers-eq0 : goal.returns-then-registers-eq0
returns-then-registers-eq0 c = started_ends c.args.vars.now c.args.self.now c.close_scope.new.self c.args.scope c.args.labels c.in_ok-registers.registers c.args.go c.args.step c.args.end c.in_ok-closed.closed c.in_ok-closed.ensures c.in_ok-registers.ensures (omega arith)

pub returns : goal.returns
returns c = started_keeps c.args.vars.now c.args.self.now c.close_scope.new.self c.and_of.new.self c.not_of.new.self c.and_of-2.new.self c.args.scope c.args.labels c.in_ok-registers.registers c.args.go c.args.step c.args.end
    c.in_ok-moves.moves c.in_ok-unless.unless c.in_ok-enter.enter c.in_ok-closed.closed c.push.new.self c.in_ok-closed.ensures c.in_ok-registers.ensures (λ e. omega arith) c.in_ok-moves.ensures c.in_ok-unless.ensures c.in_ok-enter.ensures c.in_ok-push.ensures.ok
