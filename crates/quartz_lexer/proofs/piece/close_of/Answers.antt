use Rattle.quartz_lexer.proofs.Closes.{closes_here, no_close}
use Rattle.quartz_lexer.proofs.piece.close_of.Goals as goal

pub returns-then-text-at-eq47 : goal.returns-then-text-at-eq47
returns-then-text-at-eq47 c = closes_here c.args.text.now c.loop-at.at c.loop-at-test.true c.if-text-at-eq42.true c.if-text-at-eq47.true c.loop-at.invariant.none

pub returns : goal.returns
returns c = no_close c.args.text.now c.loop-at.at c.loop-at-test.false c.loop-at.invariant.none
