-- What is found at the front of a text.
use Rattle.std.specs.Prelude.{◌≡◌, ◌≤◌, ◌<◌, ◌+◌, ℕ, Bool, not, ◌==◌, nat_eq, if◌then◌else◌, List, [], ◌∷◌, ◌++◌, length, slice_index, take, drop, false, codes}
use Rattle.std.specs.List.{starts_with, prefix_len}
use Rattle.quartz_lexer.specs.declared.piece.Class.{Class}
use Rattle.quartz_lexer.specs.declared.piece.Class.TheVariants as class
use Rattle.quartz_lexer.specs.declared.piece.Piece.{Piece}
use Rattle.quartz_lexer.specs.declared.piece.Piece.TheVariants.{Gap, Word, Stuck}
use Rattle.quartz_lexer.specs.Spelling.{is_blank, is_letter, is_digit, is_binary, is_word_byte}
use Rattle.quartz_lexer.specs.Lexing.{IsGap, IsToken, IsStuck, HasClose}

-- whether a byte is of the class
abbrev pub is_in : Class → ℕ → Bool
is_in class.Digit c = is_digit c
is_in class.Binary c = is_binary c
is_in class.Word c = is_word_byte c
is_in class.InLine c = not (c == 10)

-- how many binary digits stand behind `0b`
abbrev pub bit_digits : List ℕ → ℕ
bit_digits text = if starts_with nat_eq text (codes "0b") then prefix_len is_binary (drop 2 text) else 0

-- the length of the first of these that the text begins with
abbrev pub first_len : List (List ℕ) → List ℕ → ℕ
first_len [] text = 0
first_len (s ∷ ss) text = if starts_with nat_eq text s then length s else first_len ss text

-- the first `*/` stands at this index
pub record ClosesAt (text : List ℕ) (at : ℕ) : Type 0 where
  pub is : text ≡ take at text ++ (codes "*/" ++ drop (at + 2) text)
  pub within : at + 2 ≤ length text
  pub first : ¬ (HasClose (take at text))

-- no blank, letter or digit comes first, and no comment opens
pub record IsOther (text : List ℕ) : Type 0 where
  pub some : 0 < length text
  pub no_blank : is_blank (slice_index text 0) ≡ false
  pub no_letter : is_letter (slice_index text 0) ≡ false
  pub no_digit : is_digit (slice_index text 0) ≡ false
  pub no_line : starts_with nat_eq text (codes "//") ≡ false
  pub no_block : starts_with nat_eq text (codes "/*") ≡ false

-- the first bytes of the text are this piece
abbrev pub IsPiece : List ℕ → Piece → Type 0
IsPiece text (Gap len) = (0 < len) × (len ≤ length text) × IsGap (take len text) (drop len text)
IsPiece text (Word kind len) = (0 < len) × (len ≤ length text) × IsToken kind (take len text) (drop len text)
IsPiece text Stuck = IsStuck text
