use Rattle.std.proofs.Common.{◌-◌, length}
use Rattle.quartz_lexer.proofs.Steps.{Kept}
use Rattle.quartz_lexer.proofs.scan.lex.Given as goal

abbrev pub invariant-loop-at : goal.invariant-loop-at
invariant-loop-at l = Kept l.text l.at l.place l.items.items

abbrev pub decreases-loop-at : goal.decreases-loop-at
decreases-loop-at l = length l.text - l.at
