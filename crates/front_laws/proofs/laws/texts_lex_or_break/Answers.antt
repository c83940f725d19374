-- Some outcome by reading on from the left, and only one by the law of the longest match.
use Rattle.quartz_lexer.proofs.Laws.{one_outcome}
use Rattle.front_laws.proofs.LexingLemmas.{texts_lex_or_break}
use Rattle.front_laws.proofs.laws.texts_lex_or_break.Goals as goal

pub returns-clause-some : goal.returns-clause-some
returns-clause-some c = texts_lex_or_break

pub returns-clause-one : goal.returns-clause-one
returns-clause-one c = one_outcome
