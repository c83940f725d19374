use Rattle.std.proofs.Common.{rules}
use Rattle.write_conflicts.proofs.ClaimLemmas.{denied_left, denied_pushed}
use Rattle.write_conflicts.proofs.claims.push_denied.Goals as goal

pub returns-then-word-eq0 : goal.returns-then-word-eq0
returns-then-word-eq0 c = denied_left c.args.words.now c.args.place c.args.word (search rules)

pub returns : goal.returns
returns c = denied_pushed c.args.words.now c.push.new.self c.args.place c.args.word c.in_ok-push.ensures.ok c.if-word-eq0.false
