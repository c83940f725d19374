-- How tokens are spelled, as facts about whole lists of bytes.
use Rattle.std.specs.Prelude.{◌≡◌, ◌≤◌, ℕ, Bool, true, ◌&&◌, ◌||◌, ◌==◌, nat_le, List, [], ◌∷◌, ◌++◌, length, slice_index, Contains, codes}
use Rattle.std.specs.List.{AllPass}
use Rattle.quartz_lexer.specs.declared.token.TokenKind.{TokenKind}
use Rattle.quartz_lexer.specs.declared.token.TokenKind.TheVariants.{Name, Keyword, Number, Bits, Sign}

-- blank, tab, CR and LF
abbrev pub is_blank : ℕ → Bool
is_blank c = c == 32 || c == 9 || c == 13 || c == 10

-- A to Z, a to z, and `_`
abbrev pub is_letter : ℕ → Bool
is_letter c = (nat_le 65 c && nat_le c 90) || (nat_le 97 c && nat_le c 122) || c == 95

-- 0 to 9
abbrev pub is_digit : ℕ → Bool
is_digit c = nat_le 48 c && nat_le c 57

-- 0 and 1
abbrev pub is_binary : ℕ → Bool
is_binary c = c == 48 || c == 49

-- what may stand in a name behind its first letter
abbrev pub is_word_byte : ℕ → Bool
is_word_byte c = is_letter c || is_digit c

unfoldable pub keywords : List (List ℕ)
keywords =
    codes "module" ∷ codes "event" ∷ codes "mem" ∷ codes "bool" ∷ codes "nat" ∷ codes "int" ∷ codes "bv" ∷ codes "nothing" ∷ codes "pause" ∷ codes "halt"
    ∷ codes "await" ∷ codes "immediate" ∷ codes "weak" ∷ codes "abort" ∷ codes "suspend" ∷ codes "when" ∷ codes "emit" ∷ codes "next" ∷ codes "if" ∷ codes "else"
    ∷ codes "loop" ∷ codes "always" ∷ codes "while" ∷ codes "do" ∷ codes "true" ∷ codes "false" ∷ codes "bv2nat" ∷ codes "nat2bv" ∷ []

unfoldable pub signs : List (List ℕ)
signs =
    codes "<->" ∷ codes "==" ∷ codes "!=" ∷ codes "<=" ∷ codes ">=" ∷ codes "||" ∷ codes "->" ∷ codes "(" ∷ codes ")" ∷ codes "{" ∷ codes "}" ∷ codes "["
    ∷ codes "]" ∷ codes "," ∷ codes ";" ∷ codes ":" ∷ codes "?" ∷ codes "!" ∷ codes "=" ∷ codes "<" ∷ codes ">" ∷ codes "+" ∷ codes "-" ∷ codes "*"
    ∷ codes "/" ∷ codes "%" ∷ codes "&" ∷ codes "|" ∷ codes "^" ∷ codes "@" ∷ []

-- a letter, then letters and digits
pub record IsWord (text : List ℕ) : Type 0 where
  pub begins : is_letter (slice_index text 0) ≡ true
  pub goes_on : AllPass is_word_byte text

-- the text is one token of this kind
abbrev pub Spells : TokenKind → List ℕ → Type 0
Spells Name text = IsWord text × ¬ (Contains keywords text)
Spells Keyword text = Contains keywords text
Spells Number text = (1 ≤ length text) × (length text ≤ 38) × AllPass is_digit text
Spells Bits text = (digits : List ℕ) × (text ≡ codes "0b" ++ digits) × (1 ≤ length digits) × AllPass is_binary digits
Spells Sign text = Contains signs text
