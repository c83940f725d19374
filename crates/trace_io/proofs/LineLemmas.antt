-- The words of a text, read from left to right.
use Rattle.std.proofs.Common.{◌≡◌, ◌<◌, ◌≤◌, ◌+◌, ◌-◌, ℕ, zero, suc, ℤ, Bool, true, false, ◌==◌, if◌then◌else◌, List, [], ◌∷◌, length, take, drop, get_or, Option, Some, None, refl, sym, ap, ap₂, subst, ◌∙◌, arith}
use Rattle.std.specs.Prelude.{option_and_then}
use Rattle.std.proofs.lemmas.List.{drop_more}
use Rattle.std.proofs.Math.ListN.{drop_of_length-le}
use Rattle.std.proofs.lemmas.Bool.Decides.{nat_tests}
use Rattle.quartz_tree.specs.declared.declare.Base.TheVariants as base
use Rattle.trace_io.specs.declared.field.Field.{Field}
use Rattle.trace_io.specs.Lines.{is_blank, words, before_words, before_first, without_last}
use Rattle.trace_io.specs.Scan.{unblanked, front_word, behind_word, next_by, reads_by, Placed}

pub words_unblanked : (t : List ℕ) → words (unblanked t) ≡ words t
words_unblanked [] = refl
words_unblanked (c ∷ cs) = step (is_blank c) refl (words_unblanked cs)
  where
    step : (b : Bool) → is_blank c ≡ b → words (unblanked cs) ≡ words cs → words (if is_blank c then unblanked cs else c ∷ cs) ≡ words (c ∷ cs)
    step true e k = ap (λ (x : Bool). words (if x then unblanked cs else c ∷ cs)) e ∙ (k ∙ sym (ap (λ (x : Bool). if x then words cs else before_words c cs (words cs)) e))
    step false e k = ap (λ (x : Bool). words (if x then unblanked cs else c ∷ cs)) e

-- a byte before some text is in one word with the text's front
joins : (c : ℕ) (cs : List ℕ) → before_words c cs (words cs) ≡ (c ∷ front_word cs) ∷ words (behind_word cs)
joins c [] = refl
joins c (d ∷ ds) = step (is_blank d) refl (joins d ds)
  where
    step : (b : Bool) → is_blank d ≡ b → before_words d ds (words ds) ≡ (d ∷ front_word ds) ∷ words (behind_word ds)
        → (if is_blank d then (c ∷ []) ∷ words (d ∷ ds) else before_first c (words (d ∷ ds))) ≡ (c ∷ front_word (d ∷ ds)) ∷ words (behind_word (d ∷ ds))
    step true e k = rw e (sym (ap (λ (x : Bool). (c ∷ []) ∷ (if x then words ds else before_words d ds (words ds))) e))
    step false e k = rw e (ap (before_first c) k)

words_front : (c : ℕ) (cs : List ℕ) → is_blank c ≡ false → words (c ∷ cs) ≡ front_word (c ∷ cs) ∷ words (behind_word (c ∷ cs))
words_front c cs e = rw e (joins c cs)

-- behind the blanks nothing is left, or a byte of a word
pub data Front : List ℕ → Type 0 where
  nothing_left : Front []
  word_begins : (c : ℕ) (cs : List ℕ) → is_blank c ≡ false → Front (c ∷ cs)

front_of : (t : List ℕ) → Front (unblanked t)
front_of [] = nothing_left
front_of (c ∷ cs) = step (is_blank c) refl (front_of cs)
  where
    step : (b : Bool) → is_blank c ≡ b → Front (unblanked cs) → Front (if is_blank c then unblanked cs else c ∷ cs)
    step true e k = rw e k
    step false e k = rw e (word_begins c cs e)

-- the first word of a text, and those behind it
pub first_word : (text front : List ℕ) (n : ℕ) → front ≡ unblanked text → take n front ≡ front_word front → drop n front ≡ behind_word front → n ≤ length front → ¬ (n ≡ 0)
    → words text ≡ take n front ∷ words (drop n front)
first_word text front n e f g h k = sym (words_unblanked text) ∙ (ap words (sym e) ∙ known front (subst Front (sym e) (front_of text)) f g h)
  where
    known : (front : List ℕ) → Front front → take n front ≡ front_word front → drop n front ≡ behind_word front → n ≤ length front → words front ≡ take n front ∷ words (drop n front)
    known [] nothing_left f g h = absurd (k (omega (arith, h)))
    known (c ∷ cs) (word_begins _ _ b) f g h = words_front c cs b ∙ sym (ap₂ (λ (x y : List ℕ). x ∷ words y) f g)

-- a text whose front has no word has none
pub no_word : (text front : List ℕ) (n : ℕ) → front ≡ unblanked text → take n front ≡ front_word front → n ≡ 0 → words text ≡ []
no_word text front n e f k = sym (words_unblanked text) ∙ (ap words (sym e) ∙ known front (subst Front (sym e) (front_of text)) (ap (λ (m : ℕ). take m front) (sym k) ∙ f))
  where
    known : (front : List ℕ) → Front front → take 0 front ≡ front_word front → words front ≡ []
    known [] nothing_left f = refl
    known (c ∷ cs) (word_begins _ _ b) f = absurd (clash c cs b f)
      where
        clash : (c : ℕ) (cs : List ℕ) → is_blank c ≡ false → [] ≡ front_word (c ∷ cs) → ⊥
        clash c cs b f = let g : [] ≡ c ∷ front_word cs = f ∙ rw b refl in cc g

-- the text behind its blanks is empty exactly where it has no words
pub some_words : (text : List ℕ) (c : ℕ) (cs : List ℕ) → unblanked text ≡ c ∷ cs → (w : List ℕ) × (ws : List (List ℕ)) × (words text ≡ w ∷ ws)
some_words text c cs e = known (unblanked text) (front_of text) e (words_unblanked text)
  where
    known : (front : List ℕ) → Front front → front ≡ c ∷ cs → words front ≡ words text → (w : List ℕ) × (ws : List (List ℕ)) × (words text ≡ w ∷ ws)
    known [] nothing_left e k = absurd (cc e)
    known (d ∷ ds) (word_begins _ _ b) e k = (front_word (d ∷ ds), words (behind_word (d ∷ ds)), sym k ∙ words_front d ds b)

pub no_words : (text : List ℕ) → unblanked text ≡ [] → words text ≡ []
no_words text e = sym (words_unblanked text) ∙ ap words e

abbrev pub nowhere : Field
nowhere = record { place = 0; base = base.Bool }

-- one more element is read
pub element_read : (k : Bool) (fs : List Field) (i : ℕ) (text front : List ℕ) (n : ℕ) (last new : List ℤ) (test : Bool) → i < length fs → words text ≡ take n front ∷ words (drop n front)
    → Placed (next_by k (get_or fs i nowhere) (take n front) last) test new → test ≡ true
    → reads_by k (drop i fs) (words text) last ≡ reads_by k (drop (i + 1) fs) (words (drop n front)) new
element_read k fs i text front n last new test h e p t =
    rw (drop_more fs i nowhere h, e) (placed (next_by k (get_or fs i nowhere) (take n front) last) (subst (λ (b : Bool). Placed (next_by k (get_or fs i nowhere) (take n front) last) b new) t p))
  where
    placed : (x : Option (List ℤ)) → Placed x true new → option_and_then (reads_by k (drop (i + 1) fs) (words (drop n front))) x ≡ reads_by k (drop (i + 1) fs) (words (drop n front)) new
    placed None p = absurd (cc p)
    placed (Some zs) p = ap (λ (ys : List ℤ). reads_by k (drop (i + 1) fs) (words (drop n front)) ys) (sym p.1)

-- an element that isn't read
pub element_unread : (k : Bool) (fs : List Field) (i : ℕ) (text front : List ℕ) (n : ℕ) (last new : List ℤ) (test : Bool) → i < length fs → words text ≡ take n front ∷ words (drop n front)
    → Placed (next_by k (get_or fs i nowhere) (take n front) last) test new → test ≡ false → reads_by k (drop i fs) (words text) last ≡ None
element_unread k fs i text front n last new test h e p t =
    rw (drop_more fs i nowhere h, e) (placed (next_by k (get_or fs i nowhere) (take n front) last) (subst (λ (b : Bool). Placed (next_by k (get_or fs i nowhere) (take n front) last) b new) t p))
  where
    placed : (x : Option (List ℤ)) → Placed x false new → option_and_then (reads_by k (drop (i + 1) fs) (words (drop n front))) x ≡ None
    placed None p = refl
    placed (Some zs) p = absurd (cc (p.0))

-- no word for an element
pub element_missing : (k : Bool) (fs : List Field) (i : ℕ) (text : List ℕ) (last : List ℤ) → i < length fs → words text ≡ [] → reads_by k (drop i fs) (words text) last ≡ None
element_missing k fs i text last h e = rw (drop_more fs i nowhere h, e) refl

-- what came of elements that could not be read
pub not_read : (x y : Option (List ℤ)) (last : List ℤ) → x ≡ y → y ≡ None → Placed x false last
not_read x y last e f = rw (e, f) refl

-- all elements are read, and it is asked whether there is no word more
pub all_read : (k : Bool) (fs : List Field) (i : ℕ) (text front : List ℕ) (last : List ℤ) (x : Option (List ℤ)) (test : Bool) → length fs ≤ i → x ≡ reads_by k (drop i fs) (words text) last
    → front ≡ unblanked text → test ≡ (length front == 0) → Placed x test last
all_read k fs i text front last x test h e f t = rw (e, drop_of_length-le fs h, t) (left front f)
  where
    nonzero : (n : ℕ) → (suc n == 0) ≡ false
    nonzero n = grind (arith, nat_tests)

    left : (front : List ℕ) → front ≡ unblanked text → Placed (reads_by k [] (words text) last) (length front == 0) last
    left [] f = rw (no_words text (sym f)) (refl, refl)
    left (c ∷ cs) f = let (w, ws, m) = some_words text c cs (sym f) in rw m (nonzero (length cs))

-- the last byte, which is dropped or kept
by_last : (b : ℕ) (bs : List ℕ) (n : ℕ) → length bs ≡ suc n → without_last b bs ≡ (if get_or bs n 0 == b then take n bs else bs)
by_last b [] n h = absurd (omega (arith, h))
by_last b (c ∷ []) zero h = refl
by_last b (c ∷ []) (suc n) h = absurd (omega (arith, h))
by_last b (c ∷ d ∷ bs) zero h = absurd (omega (arith, h))
by_last b (c ∷ d ∷ bs) (suc n) h = ap (λ (l : List ℕ). c ∷ l) (by_last b (d ∷ bs) n (omega (arith, h))) ∙ step (get_or (d ∷ bs) n 0 == b)
  where
    step : (t : Bool) → c ∷ (if t then take n (d ∷ bs) else d ∷ bs) ≡ (if t then c ∷ take n (d ∷ bs) else c ∷ d ∷ bs)
    step true = refl
    step false = refl

pub without_equal : (b : ℕ) (bs : List ℕ) → 1 ≤ length bs → get_or bs (length bs - 1) 0 ≡ b → take (length bs - 1) bs ≡ without_last b bs
without_equal b bs h e = sym (by_last b bs (length bs - 1) (omega (arith, h)) ∙ ap (λ (t : Bool). if t then take (length bs - 1) bs else bs) (holds (get_or bs (length bs - 1) 0) b e))
  where
    holds : (x y : ℕ) → x ≡ y → (x == y) ≡ true
    holds x y e = grind (arith, nat_tests)

pub without_other : (b : ℕ) (bs : List ℕ) → 1 ≤ length bs → ¬ (get_or bs (length bs - 1) 0 ≡ b) → bs ≡ without_last b bs
without_other b bs h u = sym (by_last b bs (length bs - 1) (omega (arith, h)) ∙ ap (λ (t : Bool). if t then take (length bs - 1) bs else bs) (fails (get_or bs (length bs - 1) 0) b u))
  where
    fails : (x y : ℕ) → ¬ (x ≡ y) → (x == y) ≡ false
    fails x y u = grind (arith, nat_tests)
