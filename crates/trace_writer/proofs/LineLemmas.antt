-- The words of a line, one after another.
use Rattle.std.proofs.Common.{◌≡◌, ◌<◌, ◌≤◌, ◌+◌, ℕ, zero, suc, ℤ, List, [], ◌∷◌, ◌++◌, length, min, drop, get_or, if◌then◌else◌, Bool, true, false, refl, sym, ap, ap₂, ◌∙◌, arith, append_assoc, append-nil}
use Rattle.std.proofs.lemmas.List.{drop_more}
use Rattle.std.proofs.lemmas.Bool.Decides.{nat_tests}
use Rattle.std.specs.Prelude.{◌==◌}
use Rattle.quartz_tree.specs.declared.declare.Base.{Base}
use Rattle.trace_io.specs.Values.{in_range}
use Rattle.trace_io.specs.Writing.{all_in_range}
use Rattle.trace_writer.specs.declared.format.Format.{Format}
use Rattle.trace_writer.specs.Anew.{new_word, new_words, joined_words, spaced_words}
use Rattle.trace_writer.specs.Writer.{words_behind}

-- the words that are to come from some place on
abbrev pub coming_words : Format → List Base → (last values : List ℤ) → ℕ → List (List ℕ)
coming_words f bs ys zs i = new_words f (drop i bs) (drop i ys) (all_in_range (drop i bs) (drop i zs))

-- where one of the lists is over, no word comes
none_left : (f : Format) (bs : List Base) (ys zs : List ℤ) (i : ℕ) → i ≡ min (length bs) (min (length ys) (length zs)) → coming_words f bs ys zs i ≡ []
none_left f [] ys zs zero e = refl
none_left f (b ∷ bs) [] zs zero e = no_last (all_in_range (b ∷ bs) zs)
  where
    no_last : (xs : List ℤ) → new_words f (b ∷ bs) [] xs ≡ []
    no_last [] = refl
    no_last (x ∷ xs) = refl
none_left f (b ∷ bs) (y ∷ ys) [] zero e = refl
none_left f (b ∷ bs) (y ∷ ys) (z ∷ zs) zero e = absurd (omega (arith, e))
none_left f [] ys zs (suc i) e = absurd (omega (arith, e))
none_left f (b ∷ bs) [] zs (suc i) e = absurd (omega (arith, e))
none_left f (b ∷ bs) (y ∷ ys) [] (suc i) e = absurd (omega (arith, e))
none_left f (b ∷ bs) (y ∷ ys) (z ∷ zs) (suc i) e = none_left f bs ys zs i (omega (arith, e))

pub line_over : (f : Format) (bs : List Base) (ys zs : List ℤ) (i : ℕ) (line all : List ℕ) → i ≡ min (length bs) (min (length ys) (length zs)) → line ++ words_behind i (coming_words f bs ys zs i) ≡ all → line ≡ all
line_over f bs ys zs i line all e h = sym (append-nil line) ∙ (ap (λ (l : List ℕ). line ++ l) (sym (none i)) ∙ h)
  where
    nothing : (n : ℕ) → words_behind n [] ≡ []
    nothing zero = refl
    nothing (suc n) = refl

    none : (n : ℕ) → words_behind n (coming_words f bs ys zs i) ≡ []
    none n = ap (words_behind n) (none_left f bs ys zs i e) ∙ nothing n

-- what stands before a word
abbrev pub blank_at : ℕ → List ℕ
blank_at i = if i == 0 then [] else 32 ∷ []

-- one more word is put
pub word_more : (f : Format) (bs : List Base) (ys zs : List ℤ) (i : ℕ) (d : Base) (y z u v : ℤ) (line mid new all : List ℕ) → i < length bs → i < length ys → i < length zs
    → line ++ words_behind i (coming_words f bs ys zs i) ≡ all
    → mid ≡ line ++ blank_at i → u ≡ get_or ys i y → v ≡ get_or zs i z → new ≡ mid ++ new_word f (get_or bs i d) u (in_range (get_or bs i d) v)
    → new ++ words_behind (i + 1) (coming_words f bs ys zs (i + 1)) ≡ all
word_more f bs ys zs i d y z u v line mid new all hb hy hz h b eu ev e =
    ap (λ (l : List ℕ). l ++ words_behind (i + 1) others) (e ∙ ap₂ (λ (l w : List ℕ). l ++ w) b (ap₂ (λ (x t : ℤ). new_word f (get_or bs i d) x (in_range (get_or bs i d) t)) eu ev))
    ∙ (ap (λ (l : List ℕ). ((line ++ blank_at i) ++ word) ++ l) (ap (λ (n : ℕ). words_behind n others) (next i))
    ∙ (append_assoc (line ++ blank_at i) word (spaced_words others)
    ∙ (append_assoc line (blank_at i) (word ++ spaced_words others)
    ∙ (ap (λ (l : List ℕ). line ++ l) (first i) ∙ (ap (λ (ws : List (List ℕ)). line ++ words_behind i ws) (sym begins) ∙ h)))))
  where
    word : List ℕ
    word = new_word f (get_or bs i d) (get_or ys i y) (in_range (get_or bs i d) (get_or zs i z))

    others : List (List ℕ)
    others = coming_words f bs ys zs (i + 1)

    next : (n : ℕ) → n + 1 ≡ suc n
    next n = omega arith

    begins : coming_words f bs ys zs i ≡ word ∷ others
    begins = rw (drop_more bs i d hb, drop_more ys i y hy, drop_more zs i z hz) refl

    nonzero : (n : ℕ) → (suc n == 0) ≡ false
    nonzero n = grind (arith, nat_tests)

    first : (n : ℕ) → blank_at n ++ (word ++ spaced_words others) ≡ words_behind n (word ∷ others)
    first zero = refl
    first (suc n) = ap (λ (b : Bool). (if b then [] else 32 ∷ []) ++ (word ++ spaced_words others)) (nonzero n)
