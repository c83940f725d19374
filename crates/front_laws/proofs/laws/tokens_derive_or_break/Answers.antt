-- Some outcome by the reader of one pass, and only one by the agreement of the reader and the grammar.
use Rattle.quartz_parser.proofs.Agreement.{one_text}
use Rattle.front_laws.proofs.DerivingLemmas.{tokens_derive_or_break}
use Rattle.front_laws.proofs.laws.tokens_derive_or_break.Goals as goal

pub returns-clause-some : goal.returns-clause-some
returns-clause-some c = tokens_derive_or_break

pub returns-clause-one : goal.returns-clause-one
returns-clause-one c = one_text
