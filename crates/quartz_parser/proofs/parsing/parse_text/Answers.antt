use Rattle.std.proofs.Common.{◌≡◌, ◌∙◌, subst}
use Rattle.quartz_lexer.specs.Lexing.{lexemes}
use Rattle.quartz_parser.specs.Parsing.{HasText, Breaks}
use Rattle.quartz_parser.proofs.ParsingLemmas.{text_ends, text_open, text_stops, same_fault}
use Rattle.quartz_parser.proofs.parsing.parse_text.Goals as goal

pub returns-in-Err-clause-broken : goal.returns-in-Err-clause-broken
returns-in-Err-clause-broken c = λ p e. text_stops (lexemes c.args.text.now c.args.tokens.now.items.items) c.args.tokens.now.end p (c.read.ensures.broken p (c.in-Err.is ∙ same_fault c.in-Err.fault p e))

pub returns-in-Some-clause-derived : goal.returns-in-Some-clause-derived
returns-in-Some-clause-derived c = text_ends _ c.in-Ok.reached _ c.in-Ok.ensures.ended (rw c.in-Some.is at c.in_ok-modules.ensures)

pub returns-in-None-clause-broken : goal.returns-in-None-clause-broken
returns-in-None-clause-broken c = λ p e.
    let same : c.args.tokens.now.end ≡ p = cc in
    subst (Breaks HasText (lexemes c.args.text.now c.args.tokens.now.items.items) c.args.tokens.now.end) same
    (text_open _ c.in-Ok.reached c.args.tokens.now.end c.in-Ok.ensures.ended (rw c.in-None.is at c.in_ok-modules.ensures))
