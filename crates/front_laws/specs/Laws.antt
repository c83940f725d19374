-- Laws of texts, tokens and trees.
use Rattle.std.specs.Prelude.{◌≡◌, ◌⊎◌, ℕ, false, List, All, Contains}
use Rattle.quartz_tree.specs.declared.place.Place.{Place}
use Rattle.quartz_tree.specs.Expand.{expanded}
use Rattle.quartz_tree.specs.Surfaces.{Word, Written, ModuleTree}
use Rattle.quartz_lexer.specs.Spelling.{IsWord}
use Rattle.quartz_lexer.specs.Lexing.{Lexeme, Lexes, Breaks, HasOneOutcome}
use Rattle.quartz_parser.specs.Parsing as grammar
use Rattle.quartz_parser.specs.Parsing.{DerivesText, HasText, HasOneText}
use Rattle.front_laws.specs.Derived.{has_derived}
use Rattle.front_laws.specs.Names.{WordsInModule}

-- once its derived forms are replaced, a statement has none
abbrev pub ExpansionLeavesNone : Type 0
ExpansionLeavesNone = (w : Written) → has_derived (expanded w) ≡ false

-- a statement without derived forms stays as it is
abbrev pub ExpansionSparesOthers : Type 0
ExpansionSparesOthers = (w : Written) → has_derived w ≡ false → expanded w ≡ w

-- each name of the modules that a text derives is a word
abbrev pub NamesAreWords : Type 0
NamesAreWords = (text : List ℕ) (lexemes : List Lexeme) (modules : List ModuleTree) → Lexes text lexemes → DerivesText lexemes modules → All WordsInModule modules

-- the code of the dot is 46
abbrev pub WordsHoldNoDot : Type 0
WordsHoldNoDot = (x : Word) → IsWord x → ¬ (Contains x 46)

-- a list of bytes is lexed, or breaks S1 at a place
abbrev pub TextsLexOrBreak : Type 0
TextsLexOrBreak = (text : List ℕ) → ((lexemes : List Lexeme) × Lexes text lexemes) ⊎ ((p : Place) × Breaks text p)

abbrev pub TextsHaveOneOutcome : Type 0
TextsHaveOneOutcome = (text : List ℕ) → HasOneOutcome text

-- tokens derive modules, or break S2 at a place, which is this end where they may go on behind it
abbrev pub TokensDeriveOrBreak : Type 0
TokensDeriveOrBreak = (tokens : List Lexeme) (end : Place) → HasText tokens ⊎ ((p : Place) × grammar.Breaks HasText tokens end p)

abbrev pub TokensHaveOneOutcome : Type 0
TokensHaveOneOutcome = (tokens : List Lexeme) → HasOneText tokens
