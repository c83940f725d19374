-- Texts and their tokens: the longest match from the left.
use Rattle.std.specs.Prelude.{◌≡◌, ◌≤◌, ◌<◌, ◌+◌, ◌⊎◌, ℕ, true, false, ◌==◌, if◌then◌else◌, List, [], ◌∷◌, ◌++◌, length, take, map, slice_range, All, AllPairs, Contains, codes}
use Rattle.std.specs.List.{AllPass}
use Rattle.quartz_tree.specs.declared.place.Place.{Place}
use Rattle.quartz_lexer.specs.declared.token.TokenKind.{TokenKind}
use Rattle.quartz_lexer.specs.declared.token.Token.{Token}
use Rattle.quartz_lexer.specs.declared.token.Tokens.{Tokens}
use Rattle.quartz_lexer.specs.Spelling.{is_blank, is_digit, Spells}

-- a token of a text: its kind, its bytes, and the place of the first
pub record Lexeme : Type 0 where
  pub kind : TokenKind
  pub text : List ℕ
  pub place : Place

-- where texts begin
abbrev pub origin : Place
origin = record { line = 1; col = 1 }

-- the place behind a byte: LF ends a line, and every other byte is a column
abbrev pub next_place : Place → ℕ → Place
next_place p c = if c == 10 then record { line = p.line + 1; col = 1 } else record { line = p.line; col = p.col + 1 }

-- the place behind these bytes
abbrev pub place_after : Place → List ℕ → Place
place_after p [] = p
place_after p (c ∷ cs) = place_after (next_place p c) cs

-- the text goes on after these bytes
abbrev pub BeginsWith : List ℕ → List ℕ → Type 0
BeginsWith front text = (rest : List ℕ) × (text ≡ front ++ rest)

-- a comment begins here, closed or not
abbrev pub OpensComment : List ℕ → Type 0
OpensComment text = BeginsWith (codes "//") text ⊎ BeginsWith (codes "/*") text

-- `*/` stands somewhere in it
abbrev pub HasClose : List ℕ → Type 0
HasClose text = (before after : List ℕ) × (text ≡ before ++ (codes "*/" ++ after))

-- more digits begin here than a number may have
pub record BeginsLongRun (text : List ℕ) : Type 0 where
  pub digits : List ℕ
  pub rest : List ℕ
  pub is : text ≡ digits ++ rest
  pub all : AllPass is_digit digits
  pub many : 38 < length digits

-- the text is over, or its next byte is LF
abbrev pub EndsLine : List ℕ → Type 0
EndsLine [] = Unit {0}
EndsLine (c ∷ _) = c ≡ 10

-- the bytes, with this rest behind them, are a blank or a comment
pub data IsGap : List ℕ → List ℕ → Type 0 where
  blank : (c : ℕ) (rest : List ℕ) → is_blank c ≡ true → IsGap (c ∷ []) rest
  line_comment : (body rest : List ℕ) → ¬ (Contains body 10) → EndsLine rest → IsGap (codes "//" ++ body) rest
  block_comment : (body rest : List ℕ) → ¬ (HasClose body) → IsGap (codes "/*" ++ (body ++ codes "*/")) rest

-- the word, with this rest behind it, is a token: no longer front of the two is one, and neither a comment nor too
-- long a run of digits begins there
pub record IsToken (kind : TokenKind) (word rest : List ℕ) : Type 0 where
  pub spelled : Spells kind word
  pub longest : (other : TokenKind) (front more : List ℕ) → Spells other front → word ++ rest ≡ front ++ more → length front ≤ length word
  pub no_comment : ¬ (OpensComment (word ++ rest))
  pub no_long_run : ¬ (BeginsLongRun (word ++ rest))

-- the text can't be read at its first byte: a comment that isn't closed, too long a run of digits, or a byte with which
-- no token begins
pub data IsStuck : List ℕ → Type 0 where
  open_comment : (body : List ℕ) → ¬ (HasClose body) → IsStuck (codes "/*" ++ body)
  long_run : (text : List ℕ) → BeginsLongRun text → IsStuck text
  no_token : (c : ℕ) (rest : List ℕ) → is_blank c ≡ false → ((kind : TokenKind) (tail : List ℕ) → ¬ (Spells kind (c ∷ tail))) → IsStuck (c ∷ rest)

-- from a place on, the text is these lexemes, up to another place where the rest is left
pub data Reads : Place → List ℕ → List Lexeme → Place → List ℕ → Type 0 where
  done : (p : Place) (text : List ℕ) → Reads p text [] p text
  gap : (p : Place) (bytes rest : List ℕ) (lexemes : List Lexeme) (q : Place) (left : List ℕ)
      → IsGap bytes rest → Reads (place_after p bytes) rest lexemes q left → Reads p (bytes ++ rest) lexemes q left
  token : (p : Place) (kind : TokenKind) (word rest : List ℕ) (lexemes : List Lexeme) (q : Place) (left : List ℕ)
      → IsToken kind word rest → Reads (place_after p word) rest lexemes q left → Reads p (word ++ rest) (record { kind = kind; text = word; place = p } ∷ lexemes) q left

-- the whole text is these lexemes
pub record Lexes (text : List ℕ) (lexemes : List Lexeme) : Type 0 where
  pub short : length text ≤ 65536
  pub reads : Reads origin text lexemes (place_after origin text) []

-- the text breaks S1 at this place: it is too long, or what is read of it from the left gets stuck there
pub data Breaks : List ℕ → Place → Type 0 where
  too_long : (text : List ℕ) → 65536 < length text → Breaks text origin
  stuck : (text : List ℕ) (lexemes : List Lexeme) (p : Place) (rest : List ℕ) → length text ≤ 65536 → Reads origin text lexemes p rest → IsStuck rest → Breaks text p

-- a text has at most one list of lexemes, or at most one place where it breaks S1, and never both
pub record HasOneOutcome (text : List ℕ) : Type 0 where
  pub one_list : (ls ms : List Lexeme) → Lexes text ls → Lexes text ms → ls ≡ ms
  pub one_place : (p q : Place) → Breaks text p → Breaks text q → p ≡ q
  pub not_both : (ls : List Lexeme) (p : Place) → Lexes text ls → ¬ (Breaks text p)

-- what a token stands for in its text
abbrev pub lexeme : List ℕ → Token → Lexeme
lexeme text t = record { kind = t.kind; text = slice_range text t.start t.end; place = t.place }

abbrev pub lexemes : List ℕ → List Token → List Lexeme
lexemes text tokens = map (lexeme text) tokens

-- the token's span lies in the text and spells its kind, and its place is that of its first byte
pub record IsTokenIn (text : List ℕ) (t : Token) : Type 0 where
  pub some : t.start < t.end
  pub within : t.end ≤ length text
  pub spelled : Spells t.kind (slice_range text t.start t.end)
  pub place : t.place ≡ place_after origin (take t.start text)

-- these are the tokens of the text
pub record AreTokensOf (text : List ℕ) (tokens : Tokens) : Type 0 where
  pub lexed : Lexes text (lexemes text tokens.items.items)
  pub spans : All (IsTokenIn text) tokens.items.items
  pub order : AllPairs (λ s t. s.end ≤ t.start) tokens.items.items
  pub end : tokens.end ≡ place_after origin text
