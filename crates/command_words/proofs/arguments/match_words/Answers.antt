use Rattle.std.proofs.Common.{◌∙◌, ◌≡◌}
use Rattle.command_words.specs.declared.command.WordsFault.TheVariants.{Usage}
use Rattle.command_words.proofs.ClapLemmas.{given_found, not_given}
use Rattle.command_words.proofs.arguments.match_words.Goals as goal

pub returns-in-Ok-clause-given : goal.returns-in-Ok-clause-given
returns-in-Ok-clause-given c =
    given_found c.args.options.now c.args.words.now _ c.requires.options c.requires.words c.in_ok-command.ensures c.in-Ok.matches c.in-Ok.ensures.kinds c.in-Ok.ensures.matches

pub returns-in-Err-clause-usage : goal.returns-in-Err-clause-usage
returns-in-Err-clause-usage c = λ usage.
    let of_words : c.fault_of.result ≡ Usage = cc usage in
    not_given c.args.options.now c.args.words.now _ c.requires.options c.requires.words c.in_ok-command.ensures c.in-Err.error c.in-Err.ensures.kinds
    (λ full. c.fault_of.ensures of_words (c.kind.ensures ∙ full))
