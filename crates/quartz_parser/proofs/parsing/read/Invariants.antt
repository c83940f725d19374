use Rattle.std.proofs.Common.{◌≡◌, take, Some}
use Rattle.quartz_lexer.specs.Lexing.{lexemes}
use Rattle.quartz_parser.specs.Machine.{run}
use Rattle.quartz_parser.specs.Symbols.{tokens_of}
use Rattle.quartz_parser.specs.ReaderViews.{start_state, control_state}
use Rattle.quartz_parser.proofs.parsing.read.Given as goal

abbrev pub invariant-loop-token : goal.invariant-loop-token
invariant-loop-token l = run (start_state l.many) (tokens_of (lexemes l.text (take l.token-index l.tokens.items.items))) ≡ Some (control_state l.many l.control l.reader)
