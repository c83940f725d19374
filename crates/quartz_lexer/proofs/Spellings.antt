-- What the spellings of tokens have in common: by its first byte a token is a word, a number or a sign.
use Rattle.std.proofs.Common.{◌≡◌, ◌⊎◌, ℕ, ◌<◌, Bool, true, false, not, ◌&&◌, cond, eqb, leb, List, [], ◌∷◌, length, get_or, slice_index, Contains, bytes_eq, Decides, refl, sym, ◌∙◌, inl, inr, ⊎_elim, arith}
use Rattle.std.specs.List.{AllPass, list_all, list_any}
use Rattle.std.proofs.lemmas.Bool.{both_ways, and_parts, not-true, false≢true, false_from_ne_true, ne_eqb, cases_lt}
use Rattle.std.proofs.lemmas.Bool.Decides.{nat_tests, Decides-by_or}
use Rattle.std.proofs.lemmas.List.Elements.{All-contains, Decides-contains}
use Rattle.std.proofs.lemmas.List.Sums.{AllPass-from_list_all}
use Rattle.std.proofs.lemmas.List.{get_or_past}
use Rattle.std.proofs.lemmas.Slice.Eq.{bytes_eq-Decides}
use Rattle.quartz_lexer.specs.declared.token.TokenKind.{TokenKind}
use Rattle.quartz_lexer.specs.declared.token.TokenKind.TheVariants.{Name, Keyword, Number, Bits, Sign}
use Rattle.quartz_lexer.specs.Spelling.{is_blank, is_letter, is_digit, is_word_byte, keywords, signs, IsWord, Spells}

-- no byte is of two classes
pub letter_digit : (c : ℕ) → is_letter c ≡ true → is_digit c ≡ false
letter_digit c h = grind (arith, nat_tests)

pub digit_letter : (c : ℕ) → is_digit c ≡ true → is_letter c ≡ false
digit_letter c h = grind (arith, nat_tests)

pub letter_blank : (c : ℕ) → is_letter c ≡ true → is_blank c ≡ false
letter_blank c h = grind (arith, nat_tests)

pub digit_blank : (c : ℕ) → is_digit c ≡ true → is_blank c ≡ false
digit_blank c h = grind (arith, nat_tests)

-- a test of each entry of a table holds of what the table contains
pub listed : (p : List ℕ → Bool) (table : List (List ℕ)) (word : List ℕ) → list_all p table ≡ true → Contains table word → p word ≡ true
listed p table word h c = All-contains (λ w. p w ≡ true) table word (AllPass-from_list_all p table h) c

-- whether the word is an entry
abbrev pub is_listed : List (List ℕ) → List ℕ → Bool
is_listed table word = list_any (λ entry. bytes_eq entry word) table

abbrev is_word : List ℕ → Bool
is_word w = is_letter (slice_index w 0) && list_all is_word_byte w

abbrev is_symbol : List ℕ → Bool
is_symbol w = not (is_letter (slice_index w 0)) && (not (is_digit (slice_index w 0)) && (not (is_blank (slice_index w 0)) && leb 1 (length w)))

keywords_are_words : list_all is_word keywords ≡ true
unfolding keywords
keywords_are_words = refl

signs_are_symbols : list_all is_symbol signs ≡ true
unfolding signs
signs_are_symbols = refl

word_some : (w : List ℕ) → IsWord w → 0 < length w
word_some [] h = absurd (false≢true h.begins)
word_some (c ∷ cs) h = omega arith

pub keyword_word : (w : List ℕ) → Contains keywords w → IsWord w
keyword_word w c =
    let both = and_parts (is_letter (slice_index w 0)) (list_all is_word_byte w) (listed is_word keywords w keywords_are_words c) in
    record { begins = both.0; goes_on = AllPass-from_list_all is_word_byte w both.1 }

pub record IsSymbol (w : List ℕ) : Type 0 where
  pub no_letter : is_letter (slice_index w 0) ≡ false
  pub no_digit : is_digit (slice_index w 0) ≡ false
  pub no_blank : is_blank (slice_index w 0) ≡ false
  pub some : 0 < length w

pub sign_symbol : (w : List ℕ) → Contains signs w → IsSymbol w
sign_symbol w c =
    let all = listed is_symbol signs w signs_are_symbols c in
    let one = and_parts (not (is_letter (slice_index w 0))) _ all in
    let two = and_parts (not (is_digit (slice_index w 0))) _ one.1 in
    let three = and_parts (not (is_blank (slice_index w 0))) _ two.1 in
    record { no_letter = not-true _ one.0; no_digit = not-true _ two.0; no_blank = not-true _ three.0; some = grind (arith, nat_tests) }

-- a table contains what the test finds in it, and nothing else
pub is_listed-Decides : (table : List (List ℕ)) (word : List ℕ) → Decides (is_listed table word) (Contains table word)
is_listed-Decides table word =
    Decides-contains table word (is_listed table word) (Decides-by_or (λ entry. bytes_eq entry word) (λ entry. entry ≡ word) (λ t. is_listed t word) (λ entry. bytes_eq-Decides entry word) refl (λ _ _. refl) table)

-- the first byte of a number, and of bits
pub number_digit : (w : List ℕ) → Spells Number w → is_digit (slice_index w 0) ≡ true
number_digit w s = s.2 0 0 (omega (arith, s.0))

pub bits_zero : (w : List ℕ) → Spells Bits w → slice_index w 0 ≡ 48
bits_zero w (digits, e, some, all) = rw e refl

-- no token is empty
pub spelled_some : (kind : TokenKind) (w : List ℕ) → Spells kind w → 0 < length w
spelled_some Name w s = word_some w s.0
spelled_some Keyword w s = word_some w (keyword_word w s)
spelled_some Number w s = omega (arith, s.0)
spelled_some Bits w (digits, e, some, all) = rw e (omega arith)
spelled_some Sign w s = (sign_symbol w s).some

-- no token begins with a blank
pub spelled_blank : (kind : TokenKind) (w : List ℕ) → Spells kind w → is_blank (slice_index w 0) ≡ false
spelled_blank Name w s = letter_blank (slice_index w 0) s.0.begins
spelled_blank Keyword w s = letter_blank (slice_index w 0) (keyword_word w s).begins
spelled_blank Number w s = digit_blank (slice_index w 0) (number_digit w s)
spelled_blank Bits w s = rw (bits_zero w s) refl
spelled_blank Sign w s = (sign_symbol w s).no_blank

-- a token that begins with a letter is a word
pub letter_word : (kind : TokenKind) (w : List ℕ) → Spells kind w → is_letter (slice_index w 0) ≡ true → IsWord w
letter_word Name w s h = s.0
letter_word Keyword w s h = keyword_word w s
letter_word Number w s h = absurd (both_ways _ (letter_digit (slice_index w 0) h) (number_digit w s))
letter_word Bits w s h = absurd (false≢true (rw (bits_zero w s) at h))
letter_word Sign w s h = absurd (both_ways _ (sign_symbol w s).no_letter h)

-- a token that begins with a digit is digits, or bits
pub digit_number : (kind : TokenKind) (w : List ℕ) → Spells kind w → is_digit (slice_index w 0) ≡ true → AllPass is_digit w ⊎ Spells Bits w
digit_number Name w s h = absurd (both_ways _ (letter_digit (slice_index w 0) s.0.begins) h)
digit_number Keyword w s h = absurd (both_ways _ (letter_digit (slice_index w 0) (keyword_word w s).begins) h)
digit_number Number w s h = inl s.2
digit_number Bits w s h = inr s
digit_number Sign w s h = absurd (both_ways _ (sign_symbol w s).no_digit h)

-- every other token is a sign
pub other_sign : (kind : TokenKind) (w : List ℕ) → Spells kind w → is_letter (slice_index w 0) ≡ false → is_digit (slice_index w 0) ≡ false → Contains signs w
other_sign Name w s h g = absurd (both_ways _ h s.0.begins)
other_sign Keyword w s h g = absurd (both_ways _ h (keyword_word w s).begins)
other_sign Number w s h g = absurd (both_ways _ g (number_digit w s))
other_sign Bits w s h g = absurd (false≢true (sym (rw (bits_zero w s) at g)))
other_sign Sign w s h g = s

-- no number has a `b`
number_second : (w : List ℕ) → Spells Number w → eqb (slice_index w 1) 98 ≡ false
number_second w s = ne_eqb (slice_index w 1) 98 (λ h. ⊎_elim (λ lt. false≢true (rw h at (s.2 1 0 lt))) (λ le. let past : get_or w 1 0 ≡ 0 = get_or_past w 1 0 le in absurd (omega (arith, h, past))) (cases_lt 1 (length w)))

-- the kind that a token's bytes show
abbrev kind_of : List ℕ → TokenKind
kind_of w =
    cond (is_letter (slice_index w 0)) (cond (is_listed keywords w) Keyword Name)
    (cond (is_digit (slice_index w 0)) (cond (eqb (slice_index w 1) 98) Bits Number) Sign)

kind_is : (kind : TokenKind) (w : List ℕ) → Spells kind w → kind_of w ≡ kind
kind_is Name w s =
    let absent : is_listed keywords w ≡ false = false_from_ne_true _ (λ h. s.1 ((is_listed-Decides keywords w).0 h)) in
    rw (s.0.begins, absent) refl
kind_is Keyword w s = rw ((keyword_word w s).begins, (is_listed-Decides keywords w).1 s) refl
kind_is Number w s = rw (digit_letter (slice_index w 0) (number_digit w s), number_digit w s, number_second w s) refl
kind_is Bits w (digits, e, some, all) = rw e refl
kind_is Sign w s = let other = sign_symbol w s in rw (other.no_letter, other.no_digit) refl

-- the bytes have one kind
pub same_kind : (kind other : TokenKind) (w : List ℕ) → Spells kind w → Spells other w → kind ≡ other
same_kind kind other w s t = sym (kind_is kind w s) ∙ kind_is other w t
