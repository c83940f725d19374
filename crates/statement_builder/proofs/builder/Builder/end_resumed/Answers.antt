use Rattle.std.proofs.Common.{arith}
use Rattle.statement_builder.proofs.EndLemmas.{resumed_ends, resumed_keeps}
use Rattle.statement_builder.proofs.builder.Builder.end_resumed.Goals as goal

pub returns-then-registers-eq0 : goal.returns-then-registers-eq0
returns-then-registers-eq0 c = λ res. resumed_ends c.args.vars.now c.args.self.now c.close_scope.new.self c.args.scope c.args.label c.args.labels c.in_ok-registers.registers res c.args.end c.in_ok-closed.closed c.in_ok-closed.ensures c.in_ok-registers.ensures (omega arith)

pub returns : goal.returns
returns c = λ res. resumed_keeps c.args.vars.now c.args.self.now c.close_scope.new.self c.args.scope c.args.label c.args.labels c.in_ok-registers.registers res c.args.end
    c.in_ok-closed.closed c.push.new.self c.in_ok-closed.ensures c.in_ok-registers.ensures (λ e. omega arith) c.in_ok-push.ensures.ok
