use Rattle.std.proofs.Common.{rules}
use Rattle.statement_builder.proofs.NotingLemmas.{watch_end, watch_more, watch_turned}
use Rattle.statement_builder.proofs.builder.Builder.watch.Goals as goal

pub loop-test-init : goal.loop-test-init
loop-test-init c = λ b h. h

pub loop-test-preserved : goal.loop-test-preserved
loop-test-preserved c = λ b h. c.loop-test.invariant b (watch_more c.loop-test.self c.watch_one.new.self b c.loop-test.tests.items c.pop.new.self.items c.in-Some.test (search rules) c.in_ok-watch_one.ensures h)

pub returns : goal.returns
returns c = watch_turned c.args.self.now c.loop-test.self c.args.tests.items c.reverse.new.self.items (search rules) (c.loop-test.invariant c.loop-test.self (watch_end c.loop-test.self c.loop-test.tests.items (search rules)))
