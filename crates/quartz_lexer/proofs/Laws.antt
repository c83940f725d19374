-- A text has one reading: each next piece is determined.
use Rattle.std.proofs.Common.{◌≡◌, ◌⊎◌, ℕ, suc, ◌+◌, ◌<◌, true, false, List, [], ◌∷◌, ◌++◌, length, take, drop, slice_index, Contains, codes, refl, sym, ap, ap₂, ◌∙◌, subst, inl, inr, ⊎_elim, arith, append_assoc, length-append, le_antisymm}
use Rattle.std.proofs.lemmas.Bool.{both_ways, false≢true, false_from_ne_true, cases_order}
use Rattle.quartz_tree.specs.declared.place.Place.{Place}
use Rattle.quartz_lexer.specs.declared.token.TokenKind.{TokenKind}
use Rattle.quartz_lexer.specs.declared.token.TokenKind.TheVariants.{Sign}
use Rattle.quartz_lexer.specs.Spelling.{is_blank, is_digit, signs, Spells}
use Rattle.quartz_lexer.specs.Lexing.{Lexeme, origin, place_after, OpensComment, HasClose, EndsLine, BeginsLongRun, IsGap, blank, line_comment, block_comment, IsToken, IsStuck, open_comment, long_run, no_token, Reads, done, gap, token, Lexes, Breaks, too_long, stuck, HasOneOutcome}
use Rattle.quartz_lexer.proofs.Runs.{split_same, head_of, first_byte}
use Rattle.quartz_lexer.proofs.Spellings.{digit_blank, is_listed-Decides, spelled_some, spelled_blank, same_kind}
use Rattle.quartz_lexer.proofs.Fronts.{no_run}

-- two lines' comments over one text are as long
line_same : (a b c d : List ℕ) → a ++ b ≡ c ++ d → ¬ (Contains a 10) → ¬ (Contains c 10) → EndsLine b → EndsLine d → length a ≡ length c
line_same [] b [] d e f g h k = refl
line_same [] [] (y ∷ ys) d e f g h k = absurd (cc)
line_same [] (x ∷ b) (y ∷ ys) d e f g h k =
    let first : x ≡ y = ap (λ t. slice_index t 0) e in
    absurd (g (0, omega arith, sym first ∙ h))
line_same (x ∷ xs) b [] [] e f g h k = absurd (cc)
line_same (x ∷ xs) b [] (y ∷ d) e f g h k =
    let first : x ≡ y = ap (λ t. slice_index t 0) e in
    absurd (f (0, omega arith, first ∙ k))
line_same (x ∷ xs) b (y ∷ ys) d e f g h k =
    let rest : xs ++ b ≡ ys ++ d = cc in
    ap suc (line_same xs b ys d rest (λ (i, l, is). f (suc i, omega arith, is)) (λ (i, l, is). g (suc i, omega arith, is)) h k)

longer : (x : ℕ) (xs : List ℕ) → HasClose xs → HasClose (x ∷ xs)
longer x xs (before, after, is) = (x ∷ before, after, ap (λ t. x ∷ t) is)

-- a comment that closes earlier closes within the longer one
earlier_close : (a b c d : List ℕ) → a ++ (codes "*/" ++ b) ≡ c ++ (codes "*/" ++ d) → length a < length c → HasClose c
earlier_close a b [] d e l = absurd (omega (arith, l))
earlier_close [] b (x ∷ []) d e l = let second : 47 ≡ 42 = ap (λ t. slice_index t 1) e in absurd (omega (arith, second))
earlier_close [] b (x ∷ y ∷ ys) d e l =
    let first : x ≡ 42 = ap (λ t. slice_index t 0) (sym e) in
    let second : y ≡ 47 = ap (λ t. slice_index t 1) (sym e) in
    ([], ys, ap₂ (λ a b. a ∷ b ∷ ys) first second)
earlier_close (z ∷ zs) b (x ∷ xs) d e l =
    let rest : zs ++ (codes "*/" ++ b) ≡ xs ++ (codes "*/" ++ d) = cc in
    longer x xs (earlier_close zs b xs d rest (omega (arith, l)))

close_same : (a b c d : List ℕ) → a ++ (codes "*/" ++ b) ≡ c ++ (codes "*/" ++ d) → ¬ (HasClose a) → ¬ (HasClose c) → length a ≡ length c
close_same a b c d e f g = ⊎_elim
    (λ same. same)
    (λ apart. absurd (⊎_elim (λ less. g (earlier_close a b c d e less)) (λ more. f (earlier_close c d a b (sym e) more)) apart))
    (cases_order (length a) (length c))

-- the first bytes of gaps
gap_some : (g rest : List ℕ) → IsGap g rest → 0 < length g
gap_some _ _ (blank c rest b) = omega arith
gap_some _ _ (line_comment body rest f k) = omega arith
gap_some _ _ (block_comment body rest f) = omega arith

gap_head : (g rest : List ℕ) → IsGap g rest → (is_blank (slice_index g 0) ≡ true) ⊎ OpensComment (g ++ rest)
gap_head _ _ (blank c rest b) = inl b
gap_head _ _ (line_comment body rest f k) = inr (inl (body ++ rest, refl))
gap_head _ _ (block_comment body rest f) = inr (inr ((body ++ codes "*/") ++ rest, refl))

blank_slash : (c : ℕ) → is_blank c ≡ true → c ≡ 47 → ⊥
blank_slash c b e = false≢true (rw e at b)

slash_star : {A : Type 0} (a b : List ℕ) → codes "//" ++ a ≡ codes "/*" ++ b → A
slash_star a b e = let second : 47 ≡ 42 = ap (λ t. slice_index t 1) e in absurd (omega (arith, second))

-- two gaps at one place
gap_gap : (g rest : List ℕ) → IsGap g rest → (h more : List ℕ) → IsGap h more → g ++ rest ≡ h ++ more → (g ≡ h) × (rest ≡ more)
gap_gap _ _ (blank c rest x) _ _ (blank d more y) e = (ap (take 1) e, ap (drop 1) e)
gap_gap _ _ (blank c rest x) _ _ (line_comment body more f k) e = absurd (blank_slash c x (ap (λ t. slice_index t 0) e))
gap_gap _ _ (blank c rest x) _ _ (block_comment body more f) e = absurd (blank_slash c x (ap (λ t. slice_index t 0) e))
gap_gap _ _ (line_comment body rest f k) _ _ (blank d more y) e = absurd (blank_slash d y (ap (λ t. slice_index t 0) (sym e)))
gap_gap _ _ (line_comment body rest f k) _ _ (line_comment other more g l) e =
    let tails : body ++ rest ≡ other ++ more = ap (drop 2) e in
    let both = split_same body rest other more tails (line_same body rest other more tails f g k l) in
    (ap (λ b. codes "//" ++ b) both.0, both.1)
gap_gap _ _ (line_comment body rest f k) _ _ (block_comment other more g) e = slash_star (body ++ rest) ((other ++ codes "*/") ++ more) e
gap_gap _ _ (block_comment body rest f) _ _ (blank d more y) e = absurd (blank_slash d y (ap (λ t. slice_index t 0) (sym e)))
gap_gap _ _ (block_comment body rest f) _ _ (line_comment other more g l) e = slash_star (other ++ more) ((body ++ codes "*/") ++ rest) (sym e)
gap_gap _ _ (block_comment body rest f) _ _ (block_comment other more g) e =
    let tails : body ++ (codes "*/" ++ rest) ≡ other ++ (codes "*/" ++ more) = sym (append_assoc body (codes "*/") rest) ∙ ap (drop 2) e ∙ append_assoc other (codes "*/") more in
    let both = split_same body (codes "*/" ++ rest) other (codes "*/" ++ more) tails (close_same body rest other more tails f g) in
    (ap (λ b. codes "/*" ++ (b ++ codes "*/")) both.0, ap (drop 2) both.1)

-- two tokens at one place
token_token : (kind other : TokenKind) (w rest v more : List ℕ) → IsToken kind w rest → IsToken other v more → w ++ rest ≡ v ++ more → (kind ≡ other) × (w ≡ v) × (rest ≡ more)
token_token kind other w rest v more t u e =
    let len : length w ≡ length v = le_antisymm (u.longest kind w rest t.spelled (sym e)) (t.longest other v more u.spelled e) in
    let both = split_same w rest v more e len in
    (same_kind kind other v (subst (Spells kind) both.0 t.spelled) u.spelled, both.0, both.1)

-- no place has two of a gap, a token, and a byte where the text can't be read
gap_token : (g rest : List ℕ) → IsGap g rest → (kind : TokenKind) (w more : List ℕ) → IsToken kind w more → g ++ rest ≡ w ++ more → ⊥
gap_token g rest x kind w more t e = ⊎_elim
    (λ b.
    let head_w = head_of (w ++ more) w more refl (spelled_some kind w t.spelled) in
    let head_g = head_of (w ++ more) g rest (sym e) (gap_some g rest x) in
    let same : slice_index g 0 ≡ slice_index w 0 = head_g ∙ sym head_w in
    both_ways (is_blank (slice_index w 0)) (spelled_blank kind w t.spelled) (rw same at b))
    (λ o. t.no_comment (subst OpensComment e o))
    (gap_head g rest x)

slash_sign : Contains signs (47 ∷ [])
unfolding signs
slash_sign = (is_listed-Decides signs (47 ∷ [])).0 refl

gap_digit : (g rest : List ℕ) → IsGap g rest → is_digit (slice_index (g ++ rest) 0) ≡ false
gap_digit _ _ (blank c rest b) = false_from_ne_true (is_digit c) (λ d. both_ways (is_blank c) (digit_blank c d) b)
gap_digit _ _ (line_comment body rest f k) = refl
gap_digit _ _ (block_comment body rest f) = refl

no_slash_token : (c : ℕ) → ((kind : TokenKind) (tail : List ℕ) → ¬ (Spells kind (c ∷ tail))) → c ≡ 47 → ⊥
no_slash_token c f e = f Sign [] (subst (λ b. Contains signs (b ∷ [])) (sym e) slash_sign)

gap_stuck : (g rest : List ℕ) → IsGap g rest → (text : List ℕ) → IsStuck text → text ≡ g ++ rest → ⊥
gap_stuck g rest x _ (long_run text r) e = no_run text (rw e (gap_digit g rest x)) r
gap_stuck _ _ (blank c rest b) _ (open_comment body f) e = blank_slash c b (ap (λ t. slice_index t 0) (sym e))
gap_stuck _ _ (blank c rest b) _ (no_token d more n f) e =
    let first : d ≡ c = ap (λ t. slice_index t 0) e in
    both_ways (is_blank c) (rw first at n) b
gap_stuck _ _ (line_comment body rest f k) _ (open_comment other g) e = slash_star (body ++ rest) other (sym e)
gap_stuck _ _ (line_comment body rest f k) _ (no_token d more n g) e = no_slash_token d g (ap (λ t. slice_index t 0) e)
gap_stuck _ _ (block_comment body rest f) _ (open_comment other g) e = g (body, rest, ap (drop 2) e ∙ append_assoc body (codes "*/") rest)
gap_stuck _ _ (block_comment body rest f) _ (no_token d more n g) e = no_slash_token d g (ap (λ t. slice_index t 0) e)

token_stuck : (kind : TokenKind) (w rest : List ℕ) → IsToken kind w rest → (text : List ℕ) → IsStuck text → text ≡ w ++ rest → ⊥
token_stuck kind w rest t _ (open_comment body f) e = t.no_comment (inr (body, sym e))
token_stuck kind w rest t _ (long_run text r) e = t.no_long_run (subst BeginsLongRun e r)
token_stuck kind w rest t _ (no_token c more n f) e =
    let some = spelled_some kind w t.spelled in
    let tail = first_byte w some in
    let first : slice_index w 0 ≡ c = head_of (c ∷ more) w rest e some in
    f kind tail.0 (subst (Spells kind) (tail.1 ∙ ap (λ b. b ∷ tail.0) first) t.spelled)

stuck_some : (text : List ℕ) → IsStuck text → 0 < length text
stuck_some _ (open_comment body f) = omega arith
stuck_some _ (long_run text r) = let len : length text ≡ length r.digits + length r.rest = ap length r.is ∙ length-append r.digits r.rest in omega (arith, r.many)
stuck_some _ (no_token c rest n f) = omega arith

-- where reading ends
abbrev Ends : List ℕ → Type 0
Ends left = (left ≡ []) ⊎ IsStuck left

ends_gap : (left g rest : List ℕ) → Ends left → IsGap g rest → left ≡ g ++ rest → ⊥
ends_gap left g rest (inl none) x e =
    let some = gap_some g rest x in
    let len : length left ≡ length g + length rest = ap length e ∙ length-append g rest in
    let zero : length left ≡ 0 = ap length none in
    omega arith
ends_gap left g rest (inr s) x e = gap_stuck g rest x left s e

ends_token : (left : List ℕ) (kind : TokenKind) (w rest : List ℕ) → Ends left → IsToken kind w rest → left ≡ w ++ rest → ⊥
ends_token left kind w rest (inl none) t e =
    let some = spelled_some kind w t.spelled in
    let len : length left ≡ length w + length rest = ap length e ∙ length-append w rest in
    let zero : length left ≡ 0 = ap length none in
    omega arith
ends_token left kind w rest (inr s) t e = token_stuck kind w rest t left s e

record Same (ls ms : List Lexeme) (q r : Place) (left other : List ℕ) : Type 0 where
  lexemes : ls ≡ ms
  place : q ≡ r
  rest : left ≡ other

same_words : (k j : TokenKind) (w v : List ℕ) (p o : Place) (ls ms : List Lexeme) → k ≡ j → w ≡ v → p ≡ o → ls ≡ ms
    → ◌≡◌ {A = List Lexeme} (record { kind = k; text = w; place = p } ∷ ls) (record { kind = j; text = v; place = o } ∷ ms)
same_words k j w v p o ls ms a b c d = rw (a, b, c, d) refl

-- what is read to the end is determined
unique : (p : Place) (text : List ℕ) (ls : List Lexeme) (q : Place) (left : List ℕ) → Reads p text ls q left
    → (o : Place) (text' : List ℕ) (ms : List Lexeme) (r : Place) (other : List ℕ) → Reads o text' ms r other
    → p ≡ o → text ≡ text' → Ends left → Ends other → Same ls ms q r left other
unique _ _ _ _ _ (done p text) _ _ _ _ _ (done o text') ep et x y = record { lexemes = refl; place = ep; rest = et }
unique _ _ _ _ _ (done p text) _ _ _ _ _ (gap o h more ms r other k second) ep et x y = absurd (ends_gap text h more x k et)
unique _ _ _ _ _ (done p text) _ _ _ _ _ (token o kind v more ms r other u second) ep et x y = absurd (ends_token text kind v more x u et)
unique _ _ _ _ _ (gap p g rest ls q left k first) _ _ _ _ _ (done o text') ep et x y = absurd (ends_gap text' g rest y k (sym et))
unique _ _ _ _ _ (gap p g rest ls q left k first) _ _ _ _ _ (gap o h more ms r other m second) ep et x y =
    let both = gap_gap g rest k h more m et in
    unique (place_after p g) rest ls q left first (place_after o h) more ms r other second (ap₂ place_after ep both.0) both.1 x y
unique _ _ _ _ _ (gap p g rest ls q left k first) _ _ _ _ _ (token o kind v more ms r other u second) ep et x y = absurd (gap_token g rest k kind v more u et)
unique _ _ _ _ _ (token p kind w rest ls q left t first) _ _ _ _ _ (done o text') ep et x y = absurd (ends_token text' kind w rest y t (sym et))
unique _ _ _ _ _ (token p kind w rest ls q left t first) _ _ _ _ _ (gap o h more ms r other m second) ep et x y = absurd (gap_token h more m kind w rest t (sym et))
unique _ _ _ _ _ (token p kind w rest ls q left t first) _ _ _ _ _ (token o kind' v more ms r other u second) ep et x y =
    let all = token_token kind kind' w rest v more t u et in
    let next = unique (place_after p w) rest ls q left first (place_after o v) more ms r other second (ap₂ place_after ep all.1) all.2 x y in
    record { lexemes = same_words kind kind' w v p o ls ms all.0 all.1 ep next.lexemes; place = next.place; rest = next.rest }

same_breaks : (text : List ℕ) (p q : Place) → Breaks text p → Breaks text q → p ≡ q
same_breaks _ _ _ (too_long text h) (too_long _ g) = refl
same_breaks _ _ _ (too_long text h) (stuck _ ms q other short second t) = absurd (omega (arith, h, short))
same_breaks _ _ _ (stuck text ls p left short first s) (too_long _ g) = absurd (omega (arith, g, short))
same_breaks _ _ _ (stuck text ls p left short first s) (stuck _ ms q other less second t) =
    (unique origin text ls p left first origin text ms q other second refl refl (inr s) (inr t)).place

list_breaks : (text : List ℕ) (ls : List Lexeme) (p : Place) → Lexes text ls → ¬ (Breaks text p)
list_breaks _ ls _ l (too_long text h) = omega (arith, h, l.short)
list_breaks _ ls _ l (stuck text ms p left short second s) =
    let same = unique origin text ls (place_after origin text) [] l.reads origin text ms p left second refl refl (inl refl) (inr s) in
    let len : 0 ≡ length left = ap length same.rest in
    omega (arith, stuck_some left s, len)

pub one_outcome : (text : List ℕ) → HasOneOutcome text
one_outcome text = record {
  one_list = λ ls ms l m. (unique origin text ls (place_after origin text) [] l.reads origin text ms (place_after origin text) [] m.reads refl refl (inl refl) (inl refl)).lexemes;
  one_place = same_breaks text;
  not_both = list_breaks text;
}
