-- By the derivation, rule by rule.
use Rattle.front_laws.proofs.NameLemmas.{names_are_words, words_hold_no_dot}
use Rattle.front_laws.proofs.laws.names_are_words.Goals as goal

pub returns-clause-words : goal.returns-clause-words
returns-clause-words c = names_are_words

pub returns-clause-no_dot : goal.returns-clause-no_dot
returns-clause-no_dot c = words_hold_no_dot
