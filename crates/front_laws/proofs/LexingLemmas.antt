-- At the front of bytes stands a blank, a comment or a token, or they can't be read there; so a text is read from
-- the left, a piece at a time, up to its end or to where it is stuck.
use Rattle.std.proofs.Common.{◌≡◌, ◌⊎◌, ℕ, zero, suc, ◌+◌, ◌<◌, ◌≤◌, true, false, List, [], ◌∷◌, ◌++◌, length, take, drop, slice_index, codes, nat_eq, sym, subst, inl, inr, ⊎_elim, arith, take-append-drop, length-drop}
use Rattle.std.specs.List.{prefix_len, starts_with}
use Rattle.std.proofs.lemmas.Bool.{both_ways, cases_Bool, cases_eq, cases_lt}
use Rattle.quartz_tree.specs.declared.place.Place.{Place}
use Rattle.quartz_lexer.specs.declared.piece.Piece.{Piece}
use Rattle.quartz_lexer.specs.declared.piece.Piece.TheVariants.{Gap, Word, Stuck}
use Rattle.quartz_lexer.specs.declared.token.TokenKind.{TokenKind}
use Rattle.quartz_lexer.specs.declared.token.TokenKind.TheVariants.{Name, Keyword, Number, Bits, Sign}
use Rattle.quartz_lexer.specs.Spelling.{is_blank, is_digit, is_letter, is_word_byte, keywords, signs}
use Rattle.quartz_lexer.specs.Lexing.{BeginsWith, Lexeme, HasClose, IsStuck, Reads, done, gap, token, Lexes, Breaks, too_long, stuck, origin, place_after}
use Rattle.quartz_lexer.specs.Piece.{bit_digits, first_len, ClosesAt, IsOther, IsPiece}
use Rattle.quartz_lexer.proofs.Closes.{NoneBelow, closes_here, no_close}
use Rattle.quartz_lexer.proofs.Fronts.{bits_piece, blank_piece, block_piece, block_stuck, line_piece, number_piece, number_stuck, sign_piece, sign_stuck, starts_front, word_begins, word_piece}
use Rattle.quartz_lexer.proofs.Spellings.{is_listed, is_listed-Decides}
use Rattle.quartz_lexer.proofs.Steps.{place_after-append}

-- the first `*/`, from an index below which none begins
none_on : (text : List ℕ) (at : ℕ) → NoneBelow text at → (slice_index text at ≡ 42 → slice_index text (at + 1) ≡ 47 → ⊥) → NoneBelow text (at + 1)
none_on text at none here j h star slash = ⊎_elim
    (λ lt. none j lt star slash)
    (λ le. let e : j ≡ at = omega arith in here (subst (λ i. slice_index text i ≡ 42) e star) (subst (λ i. slice_index text (i + 1) ≡ 47) e slash))
    (cases_lt j at)

close_from : (k at : ℕ) (text : List ℕ) → length text ≤ at + k → NoneBelow text at → (¬ (HasClose text)) ⊎ ((n : ℕ) × ClosesAt text n)
close_from zero at text h none = inl (no_close text at (omega arith) none)
close_from (suc k) at text h none = ⊎_elim
    (λ lt. ⊎_elim
    (λ star. ⊎_elim
    (λ slash. inr (at, closes_here text at lt star slash none))
    (λ no. close_from k (at + 1) text (omega arith) (none_on text at none (λ s t. no t)))
    (cases_eq (slice_index text (at + 1)) 47))
    (λ no. close_from k (at + 1) text (omega arith) (none_on text at none (λ s t. no s)))
    (cases_eq (slice_index text at) 42))
    (λ le. inl (no_close text at le none))
    (cases_lt (at + 1) (length text))

close_in : (text : List ℕ) → (¬ (HasClose text)) ⊎ ((n : ℕ) × ClosesAt text n)
close_in text = close_from (length text) 0 text (omega arith) (λ k h. absurd (omega (arith, h)))

-- what stands at the front, by its first byte
abbrev HasPiece : List ℕ → Type 0
HasPiece text = (piece : Piece) × IsPiece text piece

word_at : (text : List ℕ) → is_letter (slice_index text 0) ≡ true → HasPiece text
word_at text h =
    let n = prefix_len is_word_byte text in
    let decides = is_listed-Decides keywords (take n text) in
    ⊎_elim
    (λ yes. (Word Keyword n, word_piece Keyword text h (decides.0 yes)))
    (λ no. (Word Name n, word_piece Name text h (word_begins text h, λ c. both_ways _ no (decides.1 c))))
    (cases_Bool (is_listed keywords (take n text)))

number_at : (text : List ℕ) → is_digit (slice_index text 0) ≡ true → HasPiece text
number_at text h = ⊎_elim
    (λ some. (Word Bits (bit_digits text + 2), bits_piece text some))
    (λ none. ⊎_elim
    (λ long. (Stuck, number_stuck text long))
    (λ fits. (Word Number (prefix_len is_digit text), number_piece text h (omega arith) fits))
    (cases_lt 38 (prefix_len is_digit text)))
    (cases_lt 0 (bit_digits text))

block_at : (text : List ℕ) → starts_with nat_eq text (codes "/*") ≡ true → HasPiece text
block_at text h =
    let begins : BeginsWith (codes "/*") text = (drop 2 text, starts_front text (codes "/*") h) in
    ⊎_elim
    (λ none. (Stuck, block_stuck text begins none))
    (λ (at, closes). (Gap (at + 4), block_piece text at begins closes))
    (close_in (drop 2 text))

sign_at : (text : List ℕ) → IsOther text → HasPiece text
sign_at text o = ⊎_elim
    (λ some. (Word Sign (first_len signs text), sign_piece text o some))
    (λ none. (Stuck, sign_stuck text o (omega arith)))
    (cases_lt 0 (first_len signs text))

comment_or_sign : (text : List ℕ) → 0 < length text → is_blank (slice_index text 0) ≡ false → is_letter (slice_index text 0) ≡ false → is_digit (slice_index text 0) ≡ false → HasPiece text
comment_or_sign text some no_blank no_letter no_digit = ⊎_elim
    (λ line. (Gap _, line_piece text (drop 2 text, starts_front text (codes "//") line)))
    (λ no_line. ⊎_elim
    (λ block. block_at text block)
    (λ no_block. sign_at text (record { some = some; no_blank = no_blank; no_letter = no_letter; no_digit = no_digit; no_line = no_line; no_block = no_block }))
    (cases_Bool (starts_with nat_eq text (codes "/*"))))
    (cases_Bool (starts_with nat_eq text (codes "//")))

piece_at : (text : List ℕ) → 0 < length text → HasPiece text
piece_at text some = ⊎_elim
    (λ blank. (Gap 1, blank_piece text some blank))
    (λ no_blank. ⊎_elim
    (λ letter. word_at text letter)
    (λ no_letter. ⊎_elim
    (λ digit. number_at text digit)
    (λ no_digit. comment_or_sign text some no_blank no_letter no_digit)
    (cases_Bool (is_digit (slice_index text 0))))
    (cases_Bool (is_letter (slice_index text 0))))
    (cases_Bool (is_blank (slice_index text 0)))

-- the whole text is read, or it is read up to where it is stuck
record ReadsAll (p : Place) (text : List ℕ) : Type 0 where
  pub lexemes : List Lexeme
  pub reads : Reads p text lexemes (place_after p text) []

record GetsStuck (p : Place) (text : List ℕ) : Type 0 where
  pub lexemes : List Lexeme
  pub place : Place
  pub left : List ℕ
  pub reads : Reads p text lexemes place left
  pub stuck : IsStuck left

abbrev Ends : Place → List ℕ → Type 0
Ends p text = ReadsAll p text ⊎ GetsStuck p text

module _ (p : Place) (text : List ℕ) (n : ℕ) where
  abbrev next_place : Place
  next_place = place_after p (take n text)

  -- one piece more, before what is read behind it
  whole : (ls : List Lexeme) → Reads p (take n text ++ drop n text) ls (place_after next_place (drop n text)) [] → Reads p text ls (place_after p text) []
  whole ls r =
      let end = place_after-append p (take n text) (drop n text) in
      subst (λ t. Reads p t ls (place_after p t) []) (take-append-drop n text) (subst (λ q. Reads p (take n text ++ drop n text) ls q []) (sym end) r)

  front : (ls : List Lexeme) (q : Place) (left : List ℕ) → Reads p (take n text ++ drop n text) ls q left → Reads p text ls q left
  front ls q left r = subst (λ t. Reads p t ls q left) (take-append-drop n text) r

  behind_gap : IsPiece text (Gap n) → Ends next_place (drop n text) → Ends p text
  behind_gap piece (inl all) = inl (record { lexemes = all.lexemes; reads = whole all.lexemes (gap p (take n text) (drop n text) all.lexemes _ [] piece.2 all.reads) })
  behind_gap piece (inr s) = inr (record {
    lexemes = s.lexemes;
    place = s.place;
    left = s.left;
    reads = front s.lexemes s.place s.left (gap p (take n text) (drop n text) s.lexemes s.place s.left piece.2 s.reads);
    stuck = s.stuck;
  })

  behind_word : (kind : TokenKind) → IsPiece text (Word kind n) → Ends next_place (drop n text) → Ends p text
  behind_word kind piece (inl all) = inl (record { lexemes = _; reads = whole _ (token p kind (take n text) (drop n text) all.lexemes _ [] piece.2 all.reads) })
  behind_word kind piece (inr s) = inr (record {
    lexemes = _;
    place = s.place;
    left = s.left;
    reads = front _ s.place s.left (token p kind (take n text) (drop n text) s.lexemes s.place s.left piece.2 s.reads);
    stuck = s.stuck;
  })

behind : (p : Place) (text : List ℕ) (piece : Piece) → IsPiece text piece → ((n : ℕ) → 0 < n → n ≤ length text → Ends (place_after p (take n text)) (drop n text)) → Ends p text
behind p text (Gap n) piece go = behind_gap p text n piece (go n piece.0 piece.1)
behind p text (Word kind n) piece go = behind_word p text n kind piece (go n piece.0 piece.1)
behind p text Stuck piece go = inr (record { lexemes = []; place = p; left = text; reads = done p text; stuck = piece })

ends : (k : ℕ) (p : Place) (text : List ℕ) → length text ≤ k → Ends p text
ends k p [] h = inl (record { lexemes = []; reads = done p [] })
ends zero p (c ∷ cs) h = absurd (omega (arith, h))
ends (suc k) p (c ∷ cs) h =
    let piece = piece_at (c ∷ cs) (omega arith) in
    behind p (c ∷ cs) piece.0 piece.1 (λ n some fits. ends k (place_after p (take n (c ∷ cs))) (drop n (c ∷ cs)) (omega (arith, h, length-drop n (c ∷ cs))))

pub texts_lex_or_break : (text : List ℕ) → ((ls : List Lexeme) × Lexes text ls) ⊎ ((p : Place) × Breaks text p)
texts_lex_or_break text = ⊎_elim
    (λ long. inr (origin, too_long text long))
    (λ short. ⊎_elim
    (λ all. inl (all.lexemes, record { short = short; reads = all.reads }))
    (λ s. inr (s.place, stuck text s.lexemes s.place s.left short s.reads s.stuck))
    (ends (length text) origin text (omega arith)))
    (cases_lt 65536 (length text))
