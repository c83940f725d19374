use Rattle.statement_builder.proofs.GuardLemmas.{all_waited, not_waited}
use Rattle.statement_builder.proofs.builder.Builder.enter_wait.Goals as goal

pub returns-then-abort : goal.returns-then-abort
returns-then-abort c = not_waited c.args.self.now c.args.abort c.args.label c.args.cond c.args.go c.args.step c.if-abort.true

pub returns : goal.returns
returns c = all_waited c.args.self.now c.and_of.new.self c.and_of-2.new.self c.enter.new.self c.args.abort c.args.label c.in_ok-next.next c.args.cond c.args.go c.args.step c.in_ok-begins.begins c.in_ok-waits.waits
    c.if-abort.false c.in_ok-begins.ensures c.in_ok-waits.ensures c.in_ok-enter.ensures c.in_ok-next.ensures
