use Rattle.std.proofs.Common.{◌≡◌, drop}
use Rattle.command_words.specs.Words.{verb_among}
use Rattle.command_words.proofs.verb.Verb.find.Given as goal

abbrev pub invariant-loop-verb : goal.invariant-loop-verb
invariant-loop-verb l = verb_among l.verbs l.name ≡ verb_among (drop l.verb-index l.verbs) l.name
