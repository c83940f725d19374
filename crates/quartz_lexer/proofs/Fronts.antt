-- What stands at the front of a text: the longest match for each first byte.
use Rattle.std.proofs.Common.{◌≡◌, ◌≢◌, ℕ, zero, suc, ◌+◌, ◌<◌, ◌≤◌, Bool, true, false, not, ◌&&◌, ◌==◌, leb, List, [], ◌∷◌, ◌++◌, length, take, drop, slice_index, Contains, codes, nat_eq, refl, sym, ap, ◌∙◌, subst, inl, inr, ⊎_elim, arith, take-append-drop, take_at, length-append, append_assoc}
use Rattle.std.specs.List.{AllPass, prefix_len, list_all, starts_with}
use Rattle.std.proofs.lemmas.Bool.{both_ways, false≢true, cases_Bool, and_parts, not-false, eqb-true, leb-true}
use Rattle.std.proofs.lemmas.Bool.Decides.{Decides-eqb}
use Rattle.std.proofs.lemmas.List.{length-take-le}
use Rattle.std.proofs.lemmas.List.Elements.{All-contains}
use Rattle.std.proofs.lemmas.List.Sums.{prefix_len-le-length}
use Rattle.std.proofs.lemmas.List.Folds.{length-prefix_len}
use Rattle.std.proofs.lemmas.Slice.Eq.{starts_is}
use Rattle.quartz_lexer.specs.declared.token.TokenKind.{TokenKind}
use Rattle.quartz_lexer.specs.declared.token.TokenKind.TheVariants.{Number, Bits, Sign}
use Rattle.quartz_lexer.specs.declared.piece.Piece.TheVariants.{Gap, Word}
use Rattle.quartz_lexer.specs.Spelling.{is_blank, is_letter, is_digit, is_binary, is_word_byte, signs, IsWord, Spells}
use Rattle.quartz_lexer.specs.Lexing.{BeginsWith, OpensComment, HasClose, BeginsLongRun, EndsLine, blank, line_comment, block_comment, IsStuck, open_comment, long_run, no_token}
use Rattle.quartz_lexer.specs.Piece.{bit_digits, first_len, ClosesAt, IsOther, IsPiece}
use Rattle.quartz_lexer.proofs.Runs.{prefix_len_yes, prefix_len_no, run_passes, run_bound, front_bound, head_of}
use Rattle.quartz_lexer.proofs.Spellings.{letter_digit, listed, is_listed, is_listed-Decides, letter_word, digit_number, other_sign, spelled_some}

-- a comment begins with a `/`
pub no_slash : (text : List ℕ) → slice_index text 0 ≢ 47 → ¬ (OpensComment text)
no_slash text h (inl (rest, e)) = h (rw e refl)
no_slash text h (inr (rest, e)) = h (rw e refl)

-- a run of digits begins with a digit
pub no_run : (text : List ℕ) → is_digit (slice_index text 0) ≡ false → ¬ (BeginsLongRun text)
no_run text h r =
    let some : 0 < length r.digits = omega (arith, r.many) in
    let digit : is_digit (slice_index r.digits 0) ≡ true = r.all 0 0 some in
    false≢true (sym h ∙ (ap is_digit (sym (head_of text r.digits r.rest r.is some)) ∙ digit))

-- the first bytes are a token, where no longer front is one
pub token_piece : (kind : TokenKind) (text : List ℕ) (n : ℕ) → n ≤ length text → Spells kind (take n text)
    → ((other : TokenKind) (front more : List ℕ) → Spells other front → text ≡ front ++ more → length front ≤ n)
    → ¬ (OpensComment text) → ¬ (BeginsLongRun text) → IsPiece text (Word kind n)
token_piece kind text n h s longest no_comment no_long_run =
    let whole = take-append-drop n text in
    let len : length (take n text) ≡ n = length-take-le n text h in
    let some = spelled_some kind (take n text) s in (
      omega arith,
      h,
      record {
        spelled = s;
        longest = λ other front more t e. let bound = longest other front more t (sym whole ∙ e) in omega arith;
        no_comment = rw whole no_comment;
        no_long_run = rw whole no_long_run;
      },
    )

-- a word
pub word_piece : (kind : TokenKind) (text : List ℕ) → is_letter (slice_index text 0) ≡ true → Spells kind (take (prefix_len is_word_byte text) text)
    → IsPiece text (Word kind (prefix_len is_word_byte text))
word_piece kind text h s =
    token_piece kind text (prefix_len is_word_byte text) (prefix_len-le-length is_word_byte text) s
    (λ other front more t e.
    let head = head_of text front more e (spelled_some other front t) in
    front_bound is_word_byte text front more e (letter_word other front t (rw head h)).goes_on)
    (no_slash text (λ e. false≢true (rw e at h)))
    (no_run text (letter_digit (slice_index text 0) h))

pub word_begins : (text : List ℕ) → is_letter (slice_index text 0) ≡ true → IsWord (take (prefix_len is_word_byte text) text)
word_begins [] h = absurd (false≢true h)
word_begins (c ∷ cs) h =
    let here : is_word_byte c ≡ true = rw h refl in
    record { begins = rw (prefix_len_yes is_word_byte c cs here) h; goes_on = run_passes is_word_byte (c ∷ cs) }

-- a test of the first bytes
pub starts_front : (text front : List ℕ) → starts_with nat_eq text front ≡ true → text ≡ front ++ drop (length front) text
starts_front text front h = (starts_is Decides-eqb text front true (sym h)).0 refl

pub front_starts : (text front rest : List ℕ) → text ≡ front ++ rest → starts_with nat_eq text front ≡ true
front_starts text front rest e = (starts_is Decides-eqb text front (starts_with nat_eq text front) refl).1 rest e

-- bits, as the reader counts them
pub bit_digits-bits : (text digits more : List ℕ) → text ≡ codes "0b" ++ (digits ++ more) → AllPass is_binary digits → length digits ≤ bit_digits text
bit_digits-bits text digits more e h = rw (e) (run_bound is_binary digits more h)

pub bits_begin : (text : List ℕ) → 0 < bit_digits text → (rest : List ℕ) × (text ≡ codes "0b" ++ rest) × (bit_digits text ≡ prefix_len is_binary rest)
bits_begin text h = ⊎_elim (λ yes. (drop 2 text, starts_front text (codes "0b") yes, rw yes refl)) (λ no. absurd (omega (arith, rw no at h))) (cases_Bool (starts_with nat_eq text (codes "0b")))

take_two : (a b n : ℕ) (rest : List ℕ) → take (n + 2) (a ∷ b ∷ rest) ≡ a ∷ b ∷ take n rest
take_two a b n rest = let e : n + 2 ≡ suc (suc n) = omega arith in rw e refl

-- what begins with `0b` begins with one digit
one_digit : (rest front more : List ℕ) → codes "0b" ++ rest ≡ front ++ more → AllPass is_digit front → length front ≤ 1
one_digit rest front more e h = front_bound is_digit (codes "0b" ++ rest) front more e h

bits_longest : (rest : List ℕ) → 0 < prefix_len is_binary rest → (other : TokenKind) (front more : List ℕ) → Spells other front → codes "0b" ++ rest ≡ front ++ more → length front ≤ prefix_len is_binary rest + 2
bits_longest rest h other front more t e = ⊎_elim
    (λ all. let bound = one_digit rest front more e all in omega arith)
    (λ (digits, is, some, all).
    let bound = bit_digits-bits (codes "0b" ++ rest) digits more (e ∙ ap (λ f. f ++ more) is) all in
    let len : length front ≡ length (codes "0b" ++ digits) = ap length is in
    omega arith)
    (digit_number other front t (rw (head_of (codes "0b" ++ rest) front more e (spelled_some other front t)) refl))

bits_at : (rest : List ℕ) → 0 < prefix_len is_binary rest → IsPiece (codes "0b" ++ rest) (Word Bits (prefix_len is_binary rest + 2))
bits_at rest h =
    let len = length-prefix_len is_binary rest in
    token_piece Bits (codes "0b" ++ rest) (prefix_len is_binary rest + 2)
    (omega (arith, prefix_len-le-length is_binary rest))
    (take (prefix_len is_binary rest) rest, take_two 48 98 (prefix_len is_binary rest) rest, omega arith, run_passes is_binary rest)
    (bits_longest rest h)
    (no_slash (codes "0b" ++ rest) (λ e. absurd (omega (arith, e))))
    (λ r. let bound = one_digit rest r.digits r.rest r.is r.all in absurd (omega (arith, r.many)))

pub bits_piece : (text : List ℕ) → 0 < bit_digits text → IsPiece text (Word Bits (bit_digits text + 2))
bits_piece text h =
    let begin = bits_begin text h in
    subst (λ t. IsPiece t (Word Bits (bit_digits t + 2))) (sym begin.1) (bits_at begin.0 (rw begin.2 at h))

-- a number, and one that is too long
pub number_piece : (text : List ℕ) → is_digit (slice_index text 0) ≡ true → bit_digits text ≡ 0 → prefix_len is_digit text ≤ 38 → IsPiece text (Word Number (prefix_len is_digit text))
number_piece [] h z fits = absurd (false≢true h)
number_piece (c ∷ cs) h z fits =
    let len = length-prefix_len is_digit (c ∷ cs) in
    let yes = prefix_len_yes is_digit c cs h in
    token_piece Number (c ∷ cs) (prefix_len is_digit (c ∷ cs)) (prefix_len-le-length is_digit (c ∷ cs))
    (omega (arith, len, yes), omega (arith, len), run_passes is_digit (c ∷ cs))
    (λ other front more t e. ⊎_elim
    (λ all. front_bound is_digit (c ∷ cs) front more e all)
    (λ (digits, is, some, all). let bound = bit_digits-bits (c ∷ cs) digits more (e ∙ ap (λ f. f ++ more) is) all in absurd (omega (arith, bound, some)))
    (digit_number other front t (rw (head_of (c ∷ cs) front more e (spelled_some other front t)) h)))
    (no_slash (c ∷ cs) (λ e. false≢true (rw e at h)))
    (λ r. let bound = front_bound is_digit (c ∷ cs) r.digits r.rest r.is r.all in absurd (omega (arith, r.many, bound)))

pub number_stuck : (text : List ℕ) → 38 < prefix_len is_digit text → IsStuck text
number_stuck text h = long_run text (record {
  digits = take (prefix_len is_digit text) text;
  rest = drop (prefix_len is_digit text) text;
  is = sym (take-append-drop (prefix_len is_digit text) text);
  all = run_passes is_digit text;
  many = rw length-prefix_len h;
})

-- the entry that is found is a front of the text
abbrev IsFound : List (List ℕ) → List ℕ → Type 0
IsFound table text = Contains table (take (first_len table text) text) × (first_len table text ≤ length text)

found_here : (s : List ℕ) (ss : List (List ℕ)) (text : List ℕ) → starts_with nat_eq text s ≡ true → IsFound (s ∷ ss) text
found_here s ss text hit =
    let e = starts_front text s hit in
    let len : length text ≡ length (s ++ drop (length s) text) = ap length e in
    let front : take (length s) text ≡ s = ap (take (length s)) e ∙ take_at s (drop (length s) text) (length s) refl in
    rw hit ((zero, omega arith, sym front), omega (arith, simp length-append at len))

found_later : (s : List ℕ) (ss : List (List ℕ)) (text : List ℕ) → starts_with nat_eq text s ≡ false → IsFound ss text → IsFound (s ∷ ss) text
found_later s ss text miss rest = rw miss ((suc rest.0.0, omega (arith, rest.0.1), rest.0.2), rest.1)

pub first_fits : (table : List (List ℕ)) (text : List ℕ) → 0 < first_len table text → IsFound table text
first_fits [] text h = absurd (omega (arith, h))
first_fits (s ∷ ss) text h = ⊎_elim
    (λ hit. found_here s ss text hit)
    (λ miss. found_later s ss text miss (first_fits ss text (rw miss at h)))
    (cases_Bool (starts_with nat_eq text s))

-- no later entry is longer
abbrev falls : List (List ℕ) → Bool
falls [] = true
falls (s ∷ ss) = list_all (λ t. leb (length t) (length s)) ss && falls ss

pub first_longest : (table : List (List ℕ)) (text front more : List ℕ) → falls table ≡ true → Contains table front → text ≡ front ++ more → length front ≤ first_len table text
first_longest [] text front more f c e = absurd (omega (arith, c.1))
first_longest (s ∷ ss) text front more f (zero, l, same) e =
    let yes : starts_with nat_eq text s ≡ true = front_starts text s more (e ∙ ap (λ t. t ++ more) (sym same)) in
    rw yes (omega (arith, ap length same))
first_longest (s ∷ ss) text front more f (suc k, l, same) e =
    let parts = and_parts (list_all (λ t. leb (length t) (length s)) ss) (falls ss) f in
    let in_rest : Contains ss front = (k, omega arith, same) in
    ⊎_elim
    (λ yes. rw yes (leb-true (length front) (length s) (listed (λ t. leb (length t) (length s)) ss front parts.0 in_rest)))
    (λ no. rw no (first_longest ss text front more parts.1 in_rest e))
    (cases_Bool (starts_with nat_eq text s))

signs_fall : falls signs ≡ true
unfolding signs
signs_fall = refl

signs_single : list_all (λ w. is_listed signs (take 1 w)) signs ≡ true
unfolding signs
signs_single = refl

-- the first byte of a sign is a sign
sign_single : (c : ℕ) (tail : List ℕ) → Contains signs (c ∷ tail) → Contains signs (c ∷ [])
sign_single c tail h = (is_listed-Decides signs (c ∷ [])).0 (listed (λ w. is_listed signs (take 1 w)) signs (c ∷ tail) signs_single h)

no_opening : (text : List ℕ) → IsOther text → ¬ (OpensComment text)
no_opening text o (inl (rest, e)) = both_ways _ o.no_line (front_starts text (codes "//") rest e)
no_opening text o (inr (rest, e)) = both_ways _ o.no_block (front_starts text (codes "/*") rest e)

pub sign_piece : (text : List ℕ) → IsOther text → 0 < first_len signs text → IsPiece text (Word Sign (first_len signs text))
sign_piece text o h =
    let fits = first_fits signs text h in
    token_piece Sign text (first_len signs text) fits.1 fits.0
    (λ other front more t e.
    let head = head_of text front more e (spelled_some other front t) in
    first_longest signs text front more signs_fall (other_sign other front t (rw head o.no_letter) (rw head o.no_digit)) e)
    (no_opening text o)
    (no_run text o.no_digit)

pub sign_stuck : (text : List ℕ) → IsOther text → first_len signs text ≡ 0 → IsStuck text
sign_stuck [] o z = absurd (omega (arith, o.some))
sign_stuck (c ∷ rest) o z = no_token c rest o.no_blank (λ kind tail s.
    let one = sign_single c tail (other_sign kind (c ∷ tail) s o.no_letter o.no_digit) in
    let bound = first_longest signs (c ∷ rest) (c ∷ []) rest signs_fall one refl in
    omega (arith, bound, z))

-- a blank
pub blank_piece : (text : List ℕ) → 0 < length text → is_blank (slice_index text 0) ≡ true → IsPiece text (Gap 1)
blank_piece [] h b = absurd (omega (arith, h))
blank_piece (c ∷ rest) h b = (omega arith, omega arith, blank c rest b)

abbrev in_line : ℕ → Bool
in_line c = not (c == 10)

-- the run within a line ends at the line's end
line_ends : (text : List ℕ) → EndsLine (drop (prefix_len in_line text) text)
line_ends [] = tt
line_ends (c ∷ cs) = ⊎_elim
    (λ yes. rw (prefix_len_yes in_line c cs yes) (line_ends cs))
    (λ no. rw (prefix_len_no in_line c cs no) (eqb-true c 10 (not-false (c == 10) no)))
    (cases_Bool (in_line c))

pub line_piece : (text : List ℕ) → BeginsWith (codes "//") text → IsPiece text (Gap (prefix_len in_line text))
line_piece text (rest, e) = subst (λ t. IsPiece t (Gap (prefix_len in_line t))) (sym e) whole
  where
    whole : IsPiece (codes "//" ++ rest) (Gap (prefix_len in_line (codes "//" ++ rest)))
    whole =
        let two = prefix_len_yes in_line 47 (47 ∷ rest) refl ∙ ap suc (prefix_len_yes in_line 47 rest refl) in
        let no_lf : ¬ (Contains (take (prefix_len in_line rest) rest) 10) = λ c. false≢true (All-contains (λ x. in_line x ≡ true) (take (prefix_len in_line rest) rest) 10 (run_passes in_line rest) c) in
        rw two (omega arith, omega (arith, prefix_len-le-length in_line rest), line_comment (take (prefix_len in_line rest) rest) (drop (prefix_len in_line rest) rest) no_lf (line_ends rest))

take_four : (n : ℕ) (rest : List ℕ) → (take (n + 4) (codes "/*" ++ rest) ≡ codes "/*" ++ take (n + 2) rest) × (drop (n + 4) (codes "/*" ++ rest) ≡ drop (n + 2) rest)
take_four n rest = let e : n + 4 ≡ suc (suc (n + 2)) = omega arith in (rw e refl, rw e refl)

closed_piece : (rest : List ℕ) (at : ℕ) → ClosesAt rest at → IsPiece (codes "/*" ++ rest) (Gap (at + 4))
closed_piece rest at closes =
    let body = take at rest in
    let split : rest ≡ (body ++ codes "*/") ++ drop (at + 2) rest = closes.is ∙ sym (append_assoc body (codes "*/") (drop (at + 2) rest)) in
    let fits = closes.within in
    let body_len : length body ≡ at = length-take-le at rest (omega arith) in
    let len : length (body ++ codes "*/") ≡ at + 2 = simp length-append (omega arith) in
    let front : take (at + 2) rest ≡ body ++ codes "*/" = ap (take (at + 2)) split ∙ take_at (body ++ codes "*/") (drop (at + 2) rest) (at + 2) len in
    let ends = take_four at rest in
    (omega arith, omega arith, rw (ends.0, ends.1, front) (block_comment body (drop (at + 2) rest) closes.first))

pub block_piece : (text : List ℕ) (at : ℕ) → BeginsWith (codes "/*") text → ClosesAt (drop 2 text) at → IsPiece text (Gap (at + 4))
block_piece text at (rest, e) closes = subst (λ t. IsPiece t (Gap (at + 4))) (sym e) (closed_piece rest at (rw e at closes))

pub block_stuck : (text : List ℕ) → BeginsWith (codes "/*") text → ¬ (HasClose (drop 2 text)) → IsStuck text
block_stuck text (rest, e) none = subst IsStuck (sym e) (open_comment rest (rw e at none))
