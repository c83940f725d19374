use Rattle.std.proofs.Common.{sym, subst, ℕ, List, IsUtf8}
use Rattle.std.specs.List.{All}
use Rattle.std.specs.Borrow.{Bor}
use Rattle.command_words.proofs.words.read_stay.Goals as goal

pub match_words-requires-clause-words : goal.match_words-requires-clause-words
match_words-requires-clause-words c = subst (λ (ts : List (Bor (List ℕ))). All (λ t. IsUtf8 t.now) ts) (sym c.deref.ensures.value) c.in_ok-texts.ensures.utf8
