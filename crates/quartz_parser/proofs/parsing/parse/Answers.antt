use Rattle.std.proofs.Common.{◌≡◌, ◌∙◌, subst}
use Rattle.quartz_lexer.specs.Lexing.{lexemes}
use Rattle.quartz_parser.specs.Parsing.{HasModule, Breaks}
use Rattle.quartz_parser.proofs.ParsingLemmas.{module_ends, module_open, module_stops, same_fault}
use Rattle.quartz_parser.proofs.parsing.parse.Goals as goal

pub returns-in-Err-clause-broken : goal.returns-in-Err-clause-broken
returns-in-Err-clause-broken c = λ p e. module_stops (lexemes c.args.text.now c.args.tokens.now.items.items) c.args.tokens.now.end p (c.read.ensures.broken p (c.in-Err.is ∙ same_fault c.in-Err.fault p e))

pub returns-in-Some-clause-derived : goal.returns-in-Some-clause-derived
returns-in-Some-clause-derived c = module_ends _ c.in-Ok.reached _ c.in-Ok.ensures.ended (c.in-Some.ensures c.in-Ok.reached.reader)

pub returns-clause-broken : goal.returns-clause-broken
returns-clause-broken c = λ p e.
    let same : c.args.tokens.now.end ≡ p = cc in
    subst (Breaks HasModule (lexemes c.args.text.now c.args.tokens.now.items.items) c.args.tokens.now.end) same
    (module_open _ c.in-Ok.reached c.args.tokens.now.end c.in-Ok.ensures.ended (c.in-None.ensures c.in-Ok.reached.reader))
