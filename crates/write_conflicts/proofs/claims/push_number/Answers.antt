use Rattle.std.proofs.Common.{rules, ◌+◌, ◌*◌, refl}
use Rattle.write_conflicts.proofs.ClaimLemmas.{number_left, number_pushed}
use Rattle.write_conflicts.proofs.claims.push_number.Goals as goal

pub returns-then-word-bit-eq0 : goal.returns-then-word-bit-eq0
returns-then-word-bit-eq0 c = number_left c.args.numbers.now c.args.word c.args.at c.args.bit (search rules)

pub returns : goal.returns
returns c = number_pushed c.args.numbers.now c.push.new.self c.args.word c.args.at c.args.bit (64 * c.args.at + c.args.bit) c.in_ok-push.ensures.ok refl c.if-word-bit-eq0.false
