-- The values of tokens.
use Rattle.std.proofs.Common.{◌≡◌, ◌≤◌, ◌<◌, ◌+◌, ◌-◌, ◌*◌, ◌^◌, ℕ, zero, suc, Bool, true, false, List, [], ◌∷◌, ◌++◌, length, drop, get_or, refl, sym, ap, subst, ◌∙◌, arith, add-one, codes, lit≤}
use Rattle.std.specs.Prelude.{if◌then◌else◌, slice_index, slice_range}
use Rattle.std.proofs.lemmas.Bool.Decides.{nat_tests}
use Rattle.std.specs.List.{AllPass, list_all}
use Rattle.std.specs.Str.{IsAscii, IsUtf8, bytes_eq}
use Rattle.std.proofs.lemmas.Str.{IsUtf8-from_ascii}
use Rattle.std.proofs.Math.Seq.{drop-cons}
use Rattle.std.proofs.Math.Nat.{mul-le-mul_right, pow-suc, pow-le-pow_right}
use Rattle.quartz_lexer.specs.Spelling.{is_digit, is_binary, is_word_byte, IsWord, Spells}
use Rattle.quartz_lexer.specs.declared.token.TokenKind.TheVariants as kind
use Rattle.quartz_lexer.specs.declared.token.Token.{Token}
use Rattle.quartz_lexer.specs.Lexing.{lexeme}
use Rattle.quartz_tree.specs.declared.place.Place.{Place}
use Rattle.quartz_parser.specs.declared.item.Item.{Item}
use Rattle.quartz_parser.specs.Views.{token}
use Rattle.quartz_parser.specs.declared.symbol.Symbol.{Symbol}
use Rattle.quartz_parser.specs.Symbols.{find, keywords, signs, symbol_of, digits_from, token_of, token_with}
use Rattle.quartz_parser.specs.Items.{is_digit_of, is_fixed}

-- one digit more
pub more_digits : (b i v d : ℕ) → v < b ^ i → d < b → v * b + d < b ^ (i + 1)
more_digits b i v d h g =
    let e : b ^ (i + 1) ≡ b ^ i * b = ap (λ n. b ^ n) (add-one i) ∙ pow-suc b i in
    let l : suc v * b ≤ b ^ i * b = mul-le-mul_right b h in
    rw e (omega (arith, l, g))

pub digits_fit : (b i n v d : ℕ) → 0 < b → v < b ^ i → d < b → i < n → b ^ n ≤ 2 ^ 128 → v * b + d < 2 ^ 128
digits_fit b i n v d pos h g lt fits =
    let m : v * b + d < b ^ (i + 1) = more_digits b i v d h g in
    let p : b ^ (i + 1) ≤ b ^ n = pow-le-pow_right pos (omega arith) in
    omega (arith, m, p, fits)

-- a digit of a base is below it
pub digit_below : (b c : ℕ) → is_digit_of b c ≡ true → (48 ≤ c) × (c - 48 < b)
digit_below b c h = (grind (arith, nat_tests), grind (arith, nat_tests))

pub decimal_fits : (word : List ℕ) → Spells kind.Number word → 10 ^ length word ≤ 2 ^ 128
decimal_fits word s =
    let p : 10 ^ length word ≤ 10 ^ 38 = pow-le-pow_right (omega arith) s.1 in
    let q : 10 ^ 38 ≤ 2 ^ 128 = lit≤ tt in
    omega (arith, p, q)

binary_digit : (c : ℕ) → is_binary c ≡ true → is_digit_of 2 c ≡ true
binary_digit c h = grind (arith, nat_tests)

all_binary : (ds : List ℕ) → AllPass is_binary ds → AllPass (is_digit_of 2) ds
all_binary ds all k d lt = binary_digit (get_or ds k d) (all k d lt)

pub binary_digits : (word : List ℕ) → Spells kind.Bits word → AllPass (is_digit_of 2) (drop 2 word)
binary_digits word (ds, e, n, all) = subst (λ w. AllPass (is_digit_of 2) (drop 2 w)) (sym e) (all_binary ds all)

pub binary_longer : (word : List ℕ) → Spells kind.Bits word → 2 ≤ length word
binary_longer word (ds, e, n, all) = subst (λ w. 2 ≤ length w) (sym e) (omega arith)

pub binary_fits : (n : ℕ) → n ≤ 32 → 2 ^ n ≤ 2 ^ 128
binary_fits n h = let le : n ≤ 128 = omega arith in pow-le-pow_right (omega arith) le

word_byte : (c : ℕ) → is_word_byte c ≡ true → c < 128
word_byte c h = grind (arith, nat_tests)

small_at : (xs : List ℕ) (i : ℕ) → (i < length xs → get_or xs i 0 < 128) → slice_index xs i < 128
small_at [] i h = omega arith
small_at (x ∷ xs) zero h = h (omega arith)
small_at (x ∷ xs) (suc i) h = small_at xs i (λ lt. h (omega arith))

pub word_utf8 : (word : List ℕ) → IsWord word → IsUtf8 word
word_utf8 word w = IsUtf8-from_ascii word (λ i. small_at word i (λ lt. word_byte (get_or word i 0) (w.goes_on i 0 lt)))

find_fixed : (es : List (List ℕ × Symbol)) (text : List ℕ) → list_all (λ e. is_fixed e.1) es ≡ true → is_fixed (find es text) ≡ true
find_fixed [] text h = refl
find_fixed (e ∷ es) text h = at (bytes_eq e.0 text) (find_fixed es text)
  where
    at : (b : Bool) → (list_all (λ f. is_fixed f.1) es ≡ true → is_fixed (find es text) ≡ true) → is_fixed (if b then e.1 else find es text) ≡ true
    at true go = grind arith
    at false go = go (grind arith)

pub keyword_fixed : (text : List ℕ) → is_fixed (find keywords text) ≡ true
keyword_fixed text = find_fixed keywords text refl

pub sign_fixed : (text : List ℕ) → is_fixed (find signs text) ≡ true
sign_fixed text = find_fixed signs text refl

-- one digit more is read
pub digits_more : (b v i : ℕ) (ds : List ℕ) → i < length ds → digits_from b v (drop i ds) ≡ digits_from b (v * b + (get_or ds i 0 - 48)) (drop (i + 1) ds)
digits_more b v i ds lt = ap (digits_from b v) (drop-cons ds i 0 lt) ∙ ap (λ n. digits_from b (v * b + (get_or ds i 0 - 48)) (drop n ds)) (sym (add-one i))

module _ (text : List ℕ) (t : Token) (s : Symbol) (it : Item) where
  pub keyword_token : t.kind ≡ kind.Keyword → s ≡ find keywords (slice_range text t.start t.end) → ((w : List ℕ) (p : Place) → is_fixed s ≡ true → token it p ≡ token_with s w p) → token it t.place ≡ token_of (lexeme text t)
  keyword_token e f g =
      g (slice_range text t.start t.end) t.place (ap is_fixed f ∙ keyword_fixed (slice_range text t.start t.end))
      ∙ ap (λ x. token_with x (slice_range text t.start t.end) t.place) (f ∙ sym (ap (λ k. symbol_of k (slice_range text t.start t.end)) e))

  pub sign_token : t.kind ≡ kind.Sign → s ≡ find signs (slice_range text t.start t.end) → ((w : List ℕ) (p : Place) → is_fixed s ≡ true → token it p ≡ token_with s w p) → token it t.place ≡ token_of (lexeme text t)
  sign_token e f g =
      g (slice_range text t.start t.end) t.place (ap is_fixed f ∙ sign_fixed (slice_range text t.start t.end))
      ∙ ap (λ x. token_with x (slice_range text t.start t.end) t.place) (f ∙ sym (ap (λ k. symbol_of k (slice_range text t.start t.end)) e))
