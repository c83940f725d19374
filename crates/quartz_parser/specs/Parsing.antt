-- Whether tokens derive a module or a text, and the place from which on they can't.
use Rattle.std.specs.Prelude.{◌≡◌, List, [], ◌∷◌, ◌++◌, Some, None}
use Rattle.quartz_tree.specs.declared.place.Place.{Place}
use Rattle.quartz_tree.specs.Surfaces.{ModuleTree}
use Rattle.quartz_lexer.specs.Lexing.{Lexeme}
use Rattle.quartz_parser.specs.Grammar.{IsModule, IsText}
use Rattle.quartz_parser.specs.Machine.{State, step, run, ended, module_start, text_start}
use Rattle.quartz_parser.specs.Symbols.{token_of, tokens_of}

-- these tokens derive this module
abbrev pub DerivesModule : List Lexeme → ModuleTree → Type 0
DerivesModule tokens n = IsModule (tokens_of tokens) [] n

-- these tokens derive the text of these modules
abbrev pub DerivesText : List Lexeme → List ModuleTree → Type 0
DerivesText tokens ns = IsText (tokens_of tokens) [] ns

abbrev pub HasModule : List Lexeme → Type 0
HasModule tokens = (n : ModuleTree) × DerivesModule tokens n

abbrev pub HasText : List Lexeme → Type 0
HasText tokens = (ns : List ModuleTree) × DerivesText tokens ns

-- tokens of which P holds begin so
abbrev pub Begins : (List Lexeme → Type 0) → List Lexeme → Type 0
Begins P front = (more : List Lexeme) × P (front ++ more)

-- P doesn't hold of the tokens, and this is the place: the first token such that no tokens of which P holds begin
-- as these do up to it, or the end if all these begin such
pub data Breaks (P : List Lexeme → Type 0) (tokens : List Lexeme) (end : Place) : Place → Type 0 where
  at_token : (front : List Lexeme) (token : Lexeme) (back : List Lexeme)
      → tokens ≡ front ++ token ∷ back → Begins P front → ¬ (Begins P (front ++ token ∷ [])) → Breaks P tokens end token.place
  at_end : Begins P tokens → ¬ (P tokens) → Breaks P tokens end end

-- tokens derive at most one module, or break S2 at exactly one place, and never both; and so for texts
pub record HasOneModule (tokens : List Lexeme) : Type 0 where
  pub one_tree : (n k : ModuleTree) → DerivesModule tokens n → DerivesModule tokens k → n ≡ k
  pub one_place : (end p q : Place) → Breaks HasModule tokens end p → Breaks HasModule tokens end q → p ≡ q
  pub not_both : (n : ModuleTree) (end p : Place) → DerivesModule tokens n → ¬ (Breaks HasModule tokens end p)

pub record HasOneText (tokens : List Lexeme) : Type 0 where
  pub one_list : (ns ks : List ModuleTree) → DerivesText tokens ns → DerivesText tokens ks → ns ≡ ks
  pub one_place : (end p q : Place) → Breaks HasText tokens end p → Breaks HasText tokens end q → p ≡ q
  pub not_both : (ns : List ModuleTree) (end p : Place) → DerivesText tokens ns → ¬ (Breaks HasText tokens end p)

-- the reader ends with the module that the tokens derive, or stops at the place where they break S2
pub record ReadsModules (tokens : List Lexeme) : Type 0 where
  pub derived : (q : State) (n : ModuleTree) → run module_start (tokens_of tokens) ≡ Some q → ended q ≡ Some (n ∷ []) → DerivesModule tokens n
  pub broken_at : (front back : List Lexeme) (token : Lexeme) (end : Place) (q : State)
      → tokens ≡ front ++ token ∷ back → run module_start (tokens_of front) ≡ Some q → step q (token_of token) ≡ None → Breaks HasModule tokens end token.place
  pub broken_end : (end : Place) (q : State) → run module_start (tokens_of tokens) ≡ Some q → ended q ≡ None → Breaks HasModule tokens end end

pub record ReadsTexts (tokens : List Lexeme) : Type 0 where
  pub derived : (q : State) (ns : List ModuleTree) → run text_start (tokens_of tokens) ≡ Some q → ended q ≡ Some ns → DerivesText tokens ns
  pub broken_at : (front back : List Lexeme) (token : Lexeme) (end : Place) (q : State)
      → tokens ≡ front ++ token ∷ back → run text_start (tokens_of front) ≡ Some q → step q (token_of token) ≡ None → Breaks HasText tokens end token.place
  pub broken_end : (end : Place) (q : State) → run text_start (tokens_of tokens) ≡ Some q → ended q ≡ None → Breaks HasText tokens end end
