-- How the reader gets through tokens.
use Rattle.std.specs.Prelude.{◌≡◌, Bool, List, ◌∷◌, ◌++◌, Some, None}
use Rattle.quartz_tree.specs.declared.place.Place.{Place}
use Rattle.quartz_lexer.specs.Lexing.{Lexeme}
use Rattle.quartz_parser.specs.declared.parsing.Reached.{Reached}
use Rattle.quartz_parser.specs.Machine.{State, step, run, ended}
use Rattle.quartz_parser.specs.Symbols.{token_of, tokens_of}
use Rattle.quartz_parser.specs.ReaderViews.{start_state, left_by, IsLast}

-- it gets through all of them, and this was read
pub record Ends (many : Bool) (tokens : List Lexeme) (r : Reached) : Type 0 where
  pub state : State
  pub runs : run (start_state many) (tokens_of tokens) ≡ Some state
  pub read : left_by many r.end r.reader ≡ ended state
  pub last : IsLast r.end

-- it stops at the token at this place
pub record StopsAt (many : Bool) (tokens : List Lexeme) (place : Place) : Type 0 where
  pub front : List Lexeme
  pub token : Lexeme
  pub back : List Lexeme
  pub state : State
  pub whole : tokens ≡ front ++ token ∷ back
  pub runs : run (start_state many) (tokens_of front) ≡ Some state
  pub stuck : step state (token_of token) ≡ None
  pub here : place ≡ token.place
