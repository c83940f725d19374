-- Reading on: one piece more, and what the reader keeps.
use Rattle.std.proofs.Common.{◌≡◌, ℕ, ◌+◌, ◌-◌, ◌<◌, ◌≤◌, ◌^◌, eqb, List, [], ◌∷◌, ◌++◌, length, take, drop, refl, sym, ap, ◌∙◌, subst, subst₂, take_all, ⊎_elim, arith, add-zero, append-nil, zero-add, length-take, take-append-drop, drop-drop, length-drop, slice_range, All, AllPairs, take-add}
use Rattle.std.proofs.lemmas.Bool.{cases_Bool}
use Rattle.std.proofs.lemmas.List.{map_push, length-take-le, drop_all}
use Rattle.std.proofs.lemmas.List.Elements.{All-push, All-weaker}
use Rattle.std.proofs.lemmas.List.Quantifiers.{all_pairs_push}
use Rattle.quartz_tree.specs.declared.place.Place.{Place}
use Rattle.quartz_lexer.specs.declared.token.TokenKind.{TokenKind}
use Rattle.quartz_lexer.specs.declared.token.Token.{Token}
use Rattle.quartz_lexer.specs.declared.piece.Piece.TheVariants.{Gap, Word, Stuck}
use Rattle.quartz_lexer.specs.Lexing.{Lexeme, origin, next_place, place_after, Reads, done, gap, token, Lexes, Breaks, stuck, lexeme, lexemes, IsTokenIn}
use Rattle.quartz_lexer.specs.Piece.{IsPiece}

-- places behind two lists of bytes
pub place_after-append : (p : Place) (xs ys : List ℕ) → place_after p (xs ++ ys) ≡ place_after (place_after p xs) ys
place_after-append p [] ys = refl
place_after-append p (c ∷ xs) ys = place_after-append (next_place p c) xs ys

-- lines and columns grow by one a byte at most
pub record IsWithin (p : Place) (n : ℕ) : Type 0 where
  pub line : p.line ≤ n + 1
  pub some : 1 ≤ p.col
  pub col : p.col ≤ n + 1

next_within : (p : Place) (c n : ℕ) → IsWithin p n → IsWithin (next_place p c) (n + 1)
next_within p c n w = ⊎_elim
    (λ lf. rw lf (record { line = omega (arith, w.line); some = omega arith; col = omega arith }))
    (λ other. rw other (record { line = omega (arith, w.line); some = omega arith; col = omega (arith, w.col) }))
    (cases_Bool (eqb c 10))

pub place_within : (p : Place) (cs : List ℕ) (n : ℕ) → IsWithin p n → IsWithin (place_after p cs) (n + length cs)
place_within p [] n w = rw (add-zero n) w
place_within p (c ∷ cs) n w =
    let more : n + 1 + length cs ≡ n + length (c ∷ cs) = omega arith in
    subst (IsWithin (place_after p (c ∷ cs))) more (place_within (next_place p c) cs (n + 1) (next_within p c n w))

-- what is read in two parts
pub read_on : (p : Place) (text : List ℕ) (ls : List Lexeme) (q : Place) (rest : List ℕ) (ms : List Lexeme) (r : Place) (left : List ℕ)
    → Reads p text ls q rest → Reads q rest ms r left → Reads p text (ls ++ ms) r left
read_on _ _ _ _ _ ms r left (done p text) more = more
read_on _ _ _ _ _ ms r left (gap p bytes rest ls q mid g first) more = gap p bytes rest (ls ++ ms) r left g (read_on (place_after p bytes) rest ls q mid ms r left first more)
read_on _ _ _ _ _ ms r left (token p kind word rest ls q mid t first) more = token p kind word rest (ls ++ ms) r left t (read_on (place_after p word) rest ls q mid ms r left first more)

-- what holds of the tokens so far, and of the place, where the first `at` bytes of the text are read
pub record Kept (text : List ℕ) (at : ℕ) (place : Place) (items : List Token) : Type 0 where
  pub within : at ≤ length text
  pub short : length text ≤ 65536
  pub place_is : place ≡ place_after origin (take at text)
  pub reads : Reads origin text (lexemes text items) place (drop at text)
  pub spans : All (IsTokenIn text) items
  pub ended : All (λ t. t.end ≤ at) items
  pub order : AllPairs (λ s t. s.end ≤ t.start) items

pub kept_none : (text : List ℕ) → length text ≤ 65536 → Kept text 0 origin []
kept_none text h = record {
  within = omega arith;
  short = h;
  place_is = refl;
  reads = done origin text;
  spans = λ k d l. absurd (omega (arith, l));
  ended = λ k d l. absurd (omega (arith, l));
  order = λ i j d h l. absurd (omega (arith, l));
}

module _ (text : List ℕ) (at : ℕ) (place : Place) (items : List Token) (kept : Kept text at place items) where
  pub place_fits : IsWithin place at
  place_fits =
      let begin : IsWithin origin 0 = record { line = omega arith; some = omega arith; col = omega arith } in
      let len : length (take at text) ≡ at = length-take-le at text kept.within in
      rw kept.place_is (rw (len, zero-add) at (place_within origin (take at text) 0 begin))

  pub sum_fits : (x end : ℕ) → x ≤ at + 1 → x + length (take (end - at) (drop at text)) < 2 ^ 32
  sum_fits x end h =
      let within = kept.within in
      let short = kept.short in
      omega (arith, length-take (end - at) (drop at text), length-drop at text)

  pub breaks : IsPiece (drop at text) Stuck → Breaks text place
  breaks h = stuck text (lexemes text items) place (drop at text) kept.short kept.reads h

  -- at the end the whole text is read
  pub whole_read : length text ≤ at → Lexes text (lexemes text items)
  whole_read h =
      let place_end : place ≡ place_after origin text = rw kept.place_is (ap (place_after origin) (take_all at text h)) in
      let none : drop at text ≡ [] = drop_all at text h in
      record { short = kept.short; reads = subst₂ (λ q left. Reads origin text (lexemes text items) q left) place_end none kept.reads }

  module _ (n : ℕ) where
    -- the place behind the next bytes
    next_is : place_after place (take n (drop at text)) ≡ place_after origin (take (at + n) text)
    next_is = rw kept.place_is (rw take-add (sym (place_after-append origin (take at text) (take n (drop at text)))))

    -- one piece more is read
    read_piece : (ls ms : List Lexeme) → Reads origin text ls place (drop at text)
        → Reads place (take n (drop at text) ++ drop n (drop at text)) ms (place_after place (take n (drop at text))) (drop n (drop at text))
        → Reads origin text (ls ++ ms) (place_after place (take n (drop at text))) (drop (at + n) text)
    read_piece ls ms before more =
        let there = place_after place (take n (drop at text)) in
        let whole : Reads place (drop at text) ms there (drop n (drop at text)) =
        subst (λ t. Reads place t ms there (drop n (drop at text))) (take-append-drop n (drop at text)) more in
        rw (← drop-drop n at text) (read_on origin text ls place (drop at text) ms there (drop n (drop at text)) before whole)

    -- the end of the next bytes lies in the text
    next_within_text : n ≤ length (drop at text) → at + n ≤ length text
    next_within_text h = let within = kept.within in omega (arith, length-drop at text)

    after_gap : IsPiece (drop at text) (Gap n) → Kept text (at + n) (place_after place (take n (drop at text))) items
    after_gap piece =
        let there = place_after place (take n (drop at text)) in
        let rest = drop n (drop at text) in
        let more = gap place (take n (drop at text)) rest [] there rest piece.2 (done there rest) in
        record {
          within = next_within_text piece.1;
          short = kept.short;
          place_is = next_is;
          reads = subst (λ ls. Reads origin text ls there (drop (at + n) text)) (append-nil (lexemes text items)) (read_piece (lexemes text items) [] kept.reads more);
          spans = kept.spans;
          ended = All-weaker (λ t. t.end ≤ at) (λ t. t.end ≤ at + n) (λ t h. omega (arith, h)) items kept.ended;
          order = kept.order;
        }

    -- the slice of the next bytes
    next_slice : slice_range text at (at + n) ≡ take n (drop at text)
    next_slice = let len : at + n - at ≡ n = omega arith in rw len refl

    after_word : (kind : TokenKind) → IsPiece (drop at text) (Word kind n)
        → Kept text (at + n) (place_after place (take n (drop at text))) (items ++ record { kind = kind; start = at; end = at + n; place = place } ∷ [])
    after_word kind piece =
        let t : Token = record { kind = kind; start = at; end = at + n; place = place } in
        let there = place_after place (take n (drop at text)) in
        let rest = drop n (drop at text) in
        let word : Lexeme = record { kind = kind; text = take n (drop at text); place = place } in
        let more = token place kind (take n (drop at text)) rest [] there rest piece.2 (done there rest) in
        let same : lexeme text t ≡ word = ap (λ bytes. record { kind = kind; text = bytes; place = place }) next_slice in
        let all : lexemes text items ++ word ∷ [] ≡ lexemes text (items ++ t ∷ []) = sym (map_push (lexeme text) items t ∙ ap (λ l. lexemes text items ++ l ∷ []) same) in
        record {
          within = next_within_text piece.1;
          short = kept.short;
          place_is = next_is;
          reads = subst (λ ls. Reads origin text ls there (drop (at + n) text)) all (read_piece (lexemes text items) (word ∷ []) kept.reads more);
          spans = All-push (IsTokenIn text) items t kept.spans (record {
            some = omega (arith, piece.0);
            within = next_within_text piece.1;
            spelled = rw next_slice piece.2.spelled;
            place = kept.place_is;
          });
          ended = All-push (λ s. s.end ≤ at + n) items t (All-weaker (λ s. s.end ≤ at) (λ s. s.end ≤ at + n) (λ s h. omega (arith, h)) items kept.ended) (omega arith);
          order = all_pairs_push (λ s u. s.end ≤ u.start) items t kept.order (λ k d h. kept.ended k d h);
        }

  pub kept_gap : (n end : ℕ) → end ≡ at + n → IsPiece (drop at text) (Gap n) → Kept text end (place_after place (take (end - at) (drop at text))) items
  kept_gap n end e piece =
      let len : end - at ≡ n = omega arith in
      rw (len, e) (after_gap n piece)

  pub kept_word : (kind : TokenKind) (n end : ℕ) → end ≡ at + n → IsPiece (drop at text) (Word kind n)
      → Kept text end (place_after place (take (end - at) (drop at text))) (items ++ record { kind = kind; start = at; end = at + n; place = place } ∷ [])
  kept_word kind n end e piece =
      let len : end - at ≡ n = omega arith in
      rw (len, e) (after_word n kind piece)
