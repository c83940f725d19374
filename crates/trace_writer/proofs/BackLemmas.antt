-- A new line is read back as the step of which it was made. First: words that are joined by blanks are the words of the line. Then: the
-- text of a value in its range is read as that value, is a word, and isn't `_`. Last: from left to right each word puts the step's value
-- in its place, or keeps the last one where that is the same.
use Rattle.std.proofs.Common.{◌≡◌, ◌<◌, ◌≤◌, ◌+◌, ◌-◌, ◌*◌, ◌/◌, ◌%◌, ◌^◌, ℕ, zero, suc, ℤ, pos, negsuc, neg_ℤ, Bool, true, false, ◌==◌, ◌&&◌, ◌||◌, nat_le, nat_lt, if◌then◌else◌, List, [], ◌∷◌, ◌++◌, length, Option, Some, None, refl, sym, ap, ap₂, subst, ◌∙◌, arith, add_assoc, append_assoc, length-append}
use Rattle.std.specs.Prelude.{decimal, unsigned_abs, option_map, option_and_then, slice_set}
use Rattle.std.specs.Str.{bytes_eq}
use Rattle.std.specs.Fmt.{signed_decimal}
use Rattle.std.proofs.Math.Arith.{mod-mul}
use Rattle.std.proofs.Math.Nat.{add-mul, mul_assoc, mod-eq_of_lt, two-pow-succ}
use Rattle.std.proofs.lemmas.Nat.{pow_pos}
use Rattle.std.proofs.lemmas.Fmt.{decimal_by_steps}
use Rattle.std.proofs.lemmas.Int.{ints}
use Rattle.std.proofs.lemmas.Bool.Decides.{nat_tests}
use Rattle.quartz_tree.specs.declared.declare.Base.{Base}
use Rattle.quartz_tree.specs.declared.declare.Base.TheVariants as base
use Rattle.quartz_expr.specs.Values.{is_zero, same_value}
use Rattle.quartz_expr.specs.Intervals.{base_interval, is_in, is_sound_base}
use Rattle.quartz_expr.proofs.RangeLemmas.{zero_in_base}
use Rattle.trace_io.specs.declared.field.Field.{Field}
use Rattle.trace_io.specs.Lines.{is_blank, words, before_words, before_first, without_last, unended, text_in, is_short}
use Rattle.trace_io.specs.Held.{IsClosed, has_line_end}
use Rattle.trace_io.specs.Values.{is_digit, digits_behind, number_in, truth_in, integer_in, bits_in, spelled, if_in_range, reads_value, binary, value_text, in_range}
use Rattle.trace_io.specs.Inputs.{fields_from}
use Rattle.trace_io.specs.Reading.{keeps, is_header}
use Rattle.trace_io.specs.Scan.{next_by, reads_by}
use Rattle.trace_io.specs.Next.{line_by}
use Rattle.trace_io.specs.Writing.{all_in_range}
use Rattle.trace_writer.specs.declared.format.Format.{Format}
use Rattle.trace_writer.specs.declared.format.Format.TheVariants.{Plain, Headed}
use Rattle.trace_writer.specs.Anew.{spaced_words, joined_words, may_keep, new_word, new_words, new_line}
use Rattle.trace_writer.specs.Words.{IsInside, AreInside, IsWhole, AreWhole}

-- ---- words that are joined

other_byte : (c : ℕ) (t : List ℕ) → is_blank c ≡ false → words (c ∷ t) ≡ before_words c t (words t)
other_byte c t e = ap (λ (b : Bool). if b then words t else before_words c t (words t)) e

same_word : (c d : ℕ) (t : List ℕ) (ws : List (List ℕ)) → is_blank d ≡ false → before_words c (d ∷ t) ws ≡ before_first c ws
same_word c d t ws e = ap (λ (b : Bool). if b then (c ∷ []) ∷ ws else before_first c ws) e

first_word : (c : ℕ) (cs : List ℕ) (ws : List (List ℕ)) → AreInside (c ∷ cs) → words ((c ∷ cs) ++ spaced_words ws) ≡ (c ∷ cs) ∷ words (spaced_words ws)
first_word c [] [] h = other_byte c [] h.0.blank
first_word c [] (v ∷ vs) h = other_byte c (spaced_words (v ∷ vs)) h.0.blank
first_word c (d ∷ ds) ws h =
    other_byte c ((d ∷ ds) ++ spaced_words ws) h.0.blank
    ∙ (same_word c d (ds ++ spaced_words ws) (words ((d ∷ ds) ++ spaced_words ws)) h.1.0.blank
    ∙ ap (before_first c) (first_word d ds ws h.1))

-- words behind blanks are the words of the text
pub spaced_back : (ws : List (List ℕ)) → AreWhole ws → words (spaced_words ws) ≡ ws
spaced_back [] h = refl
spaced_back ([] ∷ ws) h = absurd h.0
spaced_back ((c ∷ cs) ∷ ws) h = first_word c cs ws h.0 ∙ ap (λ (l : List (List ℕ)). (c ∷ cs) ∷ l) (spaced_back ws h.1)

joined_back : (ws : List (List ℕ)) → AreWhole ws → words (joined_words ws) ≡ ws
joined_back [] h = refl
joined_back ([] ∷ ws) h = absurd h.0
joined_back ((c ∷ cs) ∷ ws) h = first_word c cs ws h.0 ∙ ap (λ (l : List (List ℕ)). (c ∷ cs) ∷ l) (spaced_back ws h.1)

-- ---- without an LF or a CR

-- no byte is an LF or a CR
abbrev pub AreOpen : List ℕ → Type 0
AreOpen [] = Unit {0}
AreOpen (c ∷ cs) = ((c == 10) ≡ false) × ((c == 13) ≡ false) × AreOpen cs

open_both : (xs ys : List ℕ) → AreOpen xs → AreOpen ys → AreOpen (xs ++ ys)
open_both [] ys h k = k
open_both (x ∷ xs) ys h k = (h.0, h.1, open_both xs ys h.2 k)

inside_open : (xs : List ℕ) → AreInside xs → AreOpen xs
inside_open [] h = tt
inside_open (x ∷ xs) h = (h.0.end, h.0.return, inside_open xs h.1)

whole_open : (w : List ℕ) → IsWhole w → AreOpen w
whole_open [] h = absurd h
whole_open (c ∷ cs) h = inside_open (c ∷ cs) h

pub spaced_open : (ws : List (List ℕ)) → AreWhole ws → AreOpen (spaced_words ws)
spaced_open [] h = tt
spaced_open (w ∷ ws) h = (refl, refl, open_both w (spaced_words ws) (whole_open w h.0) (spaced_open ws h.1))

joined_open : (ws : List (List ℕ)) → AreWhole ws → AreOpen (joined_words ws)
joined_open [] h = tt
joined_open (w ∷ ws) h = open_both w (spaced_words ws) (whole_open w h.0) (spaced_open ws h.1)

pub no_line_end : (xs : List ℕ) → AreOpen xs → has_line_end xs ≡ false
no_line_end [] h = refl
no_line_end (x ∷ xs) h = ap₂ (λ (a b : Bool). a || b) h.0 (no_line_end xs h.2)

pub open_closed : (xs : List ℕ) → AreOpen xs → IsClosed (xs ++ (10 ∷ []))
open_closed xs h = record { front = xs; is = refl; open_front = no_line_end xs h }

unended_front : (xs : List ℕ) → without_last 10 (xs ++ (10 ∷ [])) ≡ xs
unended_front [] = refl
unended_front (c ∷ []) = refl
unended_front (c ∷ d ∷ cs) = ap (λ (l : List ℕ). c ∷ l) (unended_front (d ∷ cs))

no_return : (xs : List ℕ) → AreOpen xs → without_last 13 xs ≡ xs
no_return [] h = refl
no_return (c ∷ []) h = ap (λ (b : Bool). if b then [] else c ∷ []) h.1
no_return (c ∷ d ∷ cs) h = ap (λ (l : List ℕ). c ∷ l) (no_return (d ∷ cs) h.2)

pub text_back : (xs : List ℕ) → AreOpen xs → text_in (xs ++ (10 ∷ [])) ≡ xs
text_back xs h = ap (without_last 13) (unended_front xs) ∙ no_return xs h

-- at most 65,537 bytes with the LF
pub short_back : (xs : List ℕ) → nat_le (length (xs ++ (10 ∷ []))) 65537 ≡ is_short (xs ++ (10 ∷ []))
short_back xs =
    let e : length (xs ++ (10 ∷ [])) ≡ length xs + 1 = length-append xs (10 ∷ []) in
    ap (λ (n : ℕ). nat_le n 65537) e ∙ (one_less (length xs) ∙ sym (ap (λ (l : List ℕ). nat_le (length l) 65536) (unended_front xs)))
  where
    one_less : (n : ℕ) → nat_le (n + 1) 65537 ≡ nat_le n 65536
    one_less n = grind (arith, nat_tests)

pub short_is : (n : ℕ) (line xs : List ℕ) → n ≡ length line → line ≡ xs ++ (10 ∷ []) → nat_le n 65537 ≡ is_short line
short_is n line xs e f = ap (λ (m : ℕ). nat_le m 65537) (e ∙ ap length f) ∙ (short_back xs ∙ ap is_short (sym f))

-- ---- digits

-- decimal digits are read as their number, and stand inside a word; the first is none of `-`, `_` and `#`
record IsDecimal (m : ℕ) (ds : List ℕ) : Type 0 where
  first : ℕ
  rest : List ℕ
  is : ds ≡ first ∷ rest
  digit : (first == 45) ≡ false
  other : (first == 95) ≡ false
  sharp : (first == 35) ≡ false
  read : digits_behind 10 0 ds ≡ Some m
  inside : AreInside ds

digit_is : (n : ℕ) → n < 10 → is_digit 10 (48 + n) ≡ true
digit_is n h = grind (arith, nat_tests)

digit_inside : (n : ℕ) → n < 10 → IsInside (48 + n)
digit_inside n h = record { blank = blank n h; end = end n h; return = return n h }
  where
    blank : (n : ℕ) → n < 10 → is_blank (48 + n) ≡ false
    blank n h = grind (arith, nat_tests)

    end : (n : ℕ) → n < 10 → (48 + n == 10) ≡ false
    end n h = grind (arith, nat_tests)

    return : (n : ℕ) → n < 10 → (48 + n == 13) ≡ false
    return n h = grind (arith, nat_tests)

digit_read : (m n : ℕ) → n < 10 → digits_behind 10 m ((48 + n) ∷ []) ≡ Some (m * 10 + n)
digit_read m n h =
    ap (λ (b : Bool). if b then Some (m * 10 + (48 + n - 48)) else None) (digit_is n h) ∙ ap Some (value m n)
  where
    value : (m n : ℕ) → m * 10 + (48 + n - 48) ≡ m * 10 + n
    value m n = omega arith

digits_both : (r m : ℕ) (ds es : List ℕ) → digits_behind r m (ds ++ es) ≡ option_and_then (λ (n : ℕ). digits_behind r n es) (digits_behind r m ds)
digits_both r m [] es = refl
digits_both r m (d ∷ ds) es = step (is_digit r d) (digits_both r (m * r + (d - 48)) ds es)
  where
    step : (b : Bool) → digits_behind r (m * r + (d - 48)) (ds ++ es) ≡ option_and_then (λ (n : ℕ). digits_behind r n es) (digits_behind r (m * r + (d - 48)) ds)
        → (if b then digits_behind r (m * r + (d - 48)) (ds ++ es) else None) ≡ option_and_then (λ (n : ℕ). digits_behind r n es) (if b then digits_behind r (m * r + (d - 48)) ds else None)
    step true e = e
    step false e = refl

inside_both : (xs ys : List ℕ) → AreInside xs → AreInside ys → AreInside (xs ++ ys)
inside_both [] ys h k = k
inside_both (x ∷ xs) ys h k = (h.0, inside_both xs ys h.1 k)

one_digit : (n : ℕ) → n < 10 → IsDecimal n ((48 + n) ∷ [])
one_digit n h = record {
  first = 48 + n;
  rest = [];
  is = refl;
  digit = minus n h;
  other = low n h;
  sharp = sharp n h;
  read = digit_read 0 n h ∙ ap Some (alone n);
  inside = (digit_inside n h, tt);
}
  where
    alone : (n : ℕ) → 0 * 10 + n ≡ n
    alone n = omega arith

    minus : (n : ℕ) → n < 10 → (48 + n == 45) ≡ false
    minus n h = grind (arith, nat_tests)

    low : (n : ℕ) → n < 10 → (48 + n == 95) ≡ false
    low n h = grind (arith, nat_tests)

    sharp : (n : ℕ) → n < 10 → (48 + n == 35) ≡ false
    sharp n h = grind (arith, nat_tests)

more_digits : (n : ℕ) (ds : List ℕ) → 10 ≤ n → IsDecimal (n / 10) ds → IsDecimal n (ds ++ ((48 + n % 10) ∷ []))
more_digits n ds h k = record {
  first = k.first;
  rest = k.rest ++ ((48 + n % 10) ∷ []);
  is = ap (λ (l : List ℕ). l ++ ((48 + n % 10) ∷ [])) k.is;
  digit = k.digit;
  other = k.other;
  sharp = k.sharp;
  read = digits_both 10 0 ds ((48 + n % 10) ∷ []) ∙ (ap (option_and_then (λ (m : ℕ). digits_behind 10 m ((48 + n % 10) ∷ []))) k.read ∙ (digit_read (n / 10) (n % 10) (last n) ∙ ap Some (value n)));
  inside = inside_both ds ((48 + n % 10) ∷ []) k.inside (digit_inside (n % 10) (last n), tt);
}
  where
    last : (m : ℕ) → m % 10 < 10
    last m = omega arith

    value : (m : ℕ) → m / 10 * 10 + m % 10 ≡ m
    value m = omega arith

decimal_is : (n : ℕ) → n < 2 ^ 64 → IsDecimal n (decimal n)
decimal_is n h = decimal_by_steps IsDecimal one_digit more_digits n h

-- ---- the text of a value

-- a text is read as a value, is a word, isn't `_`, and doesn't begin with `#`
record IsTextOf (read_as : List ℕ → Option ℤ) (z : ℤ) (w : List ℕ) : Type 0 where
  read : read_as w ≡ Some z
  whole : IsWhole w
  other : keeps w ≡ false
  plain : is_header w ≡ false

not_kept : (c : ℕ) (cs : List ℕ) → (c == 95) ≡ false → keeps (c ∷ cs) ≡ false
not_kept c cs e = ap (λ (b : Bool). b && bytes_eq cs []) e

decimal_text : (n : ℕ) (ds : List ℕ) → IsDecimal n ds → IsTextOf integer_in (pos n) ds
decimal_text n ds k = subst (IsTextOf integer_in (pos n)) (sym k.is) (record {
  read = ap (λ (b : Bool). if b then option_map (λ (m : ℕ). neg_ℤ (pos m)) (number_in 10 k.rest) else option_map pos (number_in 10 (k.first ∷ k.rest))) k.digit
      ∙ ap (option_map pos) (ap (digits_behind 10 0) (sym k.is) ∙ k.read);
  whole = subst AreInside k.is k.inside;
  other = not_kept k.first k.rest k.other;
  plain = k.sharp;
})

minus_text : (n : ℕ) (ds : List ℕ) → IsDecimal (suc n) ds → IsTextOf integer_in (negsuc n) (45 ∷ ds)
minus_text n ds k = record {
  read = ap (option_map (λ (m : ℕ). neg_ℤ (pos m))) (ap (number_in 10) k.is ∙ (ap (digits_behind 10 0) (sym k.is) ∙ k.read));
  whole = (record { blank = refl; end = refl; return = refl }, k.inside);
  other = refl;
  plain = refl;
}

signed_text : (z : ℤ) → unsigned_abs z < 2 ^ 64 → IsTextOf integer_in z (signed_decimal z)
signed_text (pos n) h = decimal_text n (decimal n) (decimal_is n h)
signed_text (negsuc n) h = minus_text n (decimal (suc n)) (decimal_is (suc n) h)

binary_long : (w n : ℕ) → length (binary w n) ≡ w
binary_long zero n = refl
binary_long (suc w) n = ap suc (binary_long w n)

bit_inside : (n : ℕ) → IsInside (48 + n % 2)
bit_inside n = digit_inside (n % 2) (bit n)
  where
    bit : (n : ℕ) → n % 2 < 10
    bit n = omega arith

binary_inside : (w n : ℕ) → AreInside (binary w n)
binary_inside zero n = tt
binary_inside (suc w) n = (bit_inside (n / 2 ^ w), binary_inside w n)

binary_read : (w m n : ℕ) → digits_behind 2 m (binary w n) ≡ Some (m * 2 ^ w + n % 2 ^ w)
binary_read zero m n = ap Some (nothing m n)
  where
    nothing : (m n : ℕ) → m ≡ m * 2 ^ 0 + n % 2 ^ 0
    nothing m n = omega arith
binary_read (suc w) m n =
    ap (λ (b : Bool). if b then digits_behind 2 (m * 2 + (48 + n / 2 ^ w % 2 - 48)) (binary w n) else None) (bit_is (n / 2 ^ w))
    ∙ (binary_read w (m * 2 + (48 + n / 2 ^ w % 2 - 48)) n ∙ ap Some (together m (n / 2 ^ w % 2) (2 ^ w) (2 ^ suc w) (n % 2 ^ w) (n % 2 ^ suc w) (two-pow-succ w) (two_parts w n)))
  where
    bit_is : (n : ℕ) → is_digit 2 (48 + n % 2) ≡ true
    bit_is n = grind (arith, nat_tests)

    twice : (p : ℕ) → p + p ≡ 2 * p
    twice p = omega arith

    two_parts : (w n : ℕ) → n % 2 ^ suc w ≡ n / 2 ^ w % 2 * 2 ^ w + n % 2 ^ w
    two_parts w n = ap (λ (x : ℕ). n % x) (two-pow-succ w ∙ twice (2 ^ w)) ∙ mod-mul n {m = 2} {c = 2 ^ w} (omega arith) (pow_pos w)

    digit_of : (m d : ℕ) → m * 2 + (48 + d - 48) ≡ m * 2 + d
    digit_of m d = omega arith

    together : (m d p q r s : ℕ) → q ≡ p + p → s ≡ d * p + r → (m * 2 + (48 + d - 48)) * p + r ≡ m * q + s
    together m d p q r s e f =
        ap (λ (x : ℕ). x * p + r) (digit_of m d)
        ∙ (ap (λ (x : ℕ). x + r) (add-mul (m * 2) d p)
        ∙ (ap (λ (x : ℕ). x + d * p + r) (mul_assoc m 2 p ∙ ap (λ (x : ℕ). m * x) (sym (twice p) ∙ sym e))
        ∙ (add_assoc (m * q) (d * p) r ∙ ap (λ (x : ℕ). m * q + x) (sym f))))

-- ---- values in their ranges

-- 0 stands for what is out of the range, so the number that is put lies in it
ranged : (b : Base) (z : ℤ) → is_sound_base b ≡ true → is_in (base_interval b) (in_range b z) ≡ true
ranged b z s = by_test (is_in (base_interval b) z) refl
  where
    by_test : (t : Bool) → is_in (base_interval b) z ≡ t → is_in (base_interval b) (if t then z else pos 0) ≡ true
    by_test true e = e
    by_test false e = zero_in_base b s

lies : (b : Base) (z : ℤ) → is_sound_base b ≡ true → in_range b z ≡ z → is_in (base_interval b) z ≡ true
lies b z s e = subst (λ (y : ℤ). is_in (base_interval b) y ≡ true) e (ranged b z s)

within : (z : ℤ) (n : ℕ) → (nat_le 1 n && nat_le n (2 ^ 31)) ≡ true → is_in (base_interval (base.Int n)) z ≡ true → unsigned_abs z < 2 ^ 64
within (pos m) n s h = grind (arith, ints, nat_tests)
within (negsuc m) n s h = grind (arith, ints, nat_tests)

within_nat : (z : ℤ) (n : ℕ) → (nat_le 1 n && nat_le n (2 ^ 31)) ≡ true → is_in (base_interval (base.Nat n)) z ≡ true → unsigned_abs z < 2 ^ 64
within_nat (pos m) n s h = grind (arith, ints, nat_tests)
within_nat (negsuc m) n s h = grind (arith, ints, nat_tests)

truth_text : (z : ℤ) → is_in (base_interval base.Bool) z ≡ true → IsTextOf (spelled base.Bool) z (value_text base.Bool z)
truth_text (pos zero) h = record { read = refl; whole = (record { blank = refl; end = refl; return = refl }, tt); other = refl; plain = refl }
truth_text (pos (suc zero)) h = record { read = refl; whole = (record { blank = refl; end = refl; return = refl }, tt); other = refl; plain = refl }
truth_text (pos (suc (suc n))) h = absurd (too_great n h)
  where
    too_great : (n : ℕ) → is_in (base_interval base.Bool) (pos (suc (suc n))) ≡ true → ⊥
    too_great n h = grind (arith, ints, nat_tests)
truth_text (negsuc n) h = absurd (cc h)

bits_text : (z : ℤ) (n : ℕ) → (nat_le 1 n && nat_le n 32) ≡ true → is_in (base_interval (base.Bv n)) z ≡ true → IsTextOf (spelled (base.Bv n)) z (value_text (base.Bv n) z)
bits_text (negsuc m) n s h = absurd (cc h)
bits_text (pos m) zero s h = absurd (cc s)
bits_text (pos m) (suc k) s h = record {
  read = ap (λ (b : Bool). if b then option_map pos (number_in 2 (binary (suc k) m)) else None) (as_many (length (binary (suc k) m)) (suc k) (binary_long (suc k) m))
      ∙ ap (option_map pos) (binary_read (suc k) 0 m ∙ ap Some (small m (2 ^ suc k) (below m (2 ^ suc k) h (pow_pos (suc k)))));
  whole = (record { blank = refl; end = refl; return = refl }, (record { blank = refl; end = refl; return = refl }, binary_inside (suc k) m));
  other = refl;
  plain = refl;
}
  where
    as_many : (a b : ℕ) → a ≡ b → (a == b) ≡ true
    as_many a b e = grind (arith, nat_tests)

    below : (m p : ℕ) → is_in (record { low = pos 0; high = pos (p - 1) }) (pos m) ≡ true → 0 < p → m < p
    below m p h q = grind (arith, ints, nat_tests)

    small : (m p : ℕ) → m < p → 0 * p + m % p ≡ m
    small m p h = let e : m % p ≡ m = mod-eq_of_lt h in omega (arith, e)

-- the text of a value in its range
text_is : (b : Base) (z : ℤ) → is_sound_base b ≡ true → is_in (base_interval b) z ≡ true → IsTextOf (spelled b) z (value_text b z)
text_is base.Bool z s h = truth_text z h
text_is (base.Nat n) z s h = let t = signed_text z (within_nat z n s h) in record { read = t.read; whole = t.whole; other = t.other; plain = t.plain }
text_is (base.Int n) z s h = let t = signed_text z (within z n s h) in record { read = t.read; whole = t.whole; other = t.other; plain = t.plain }
text_is (base.Bv n) z s h = bits_text z n s h

value_back : (b : Base) (z : ℤ) → is_sound_base b ≡ true → is_in (base_interval b) z ≡ true → reads_value b (value_text b z) ≡ Some z
value_back b z s h = ap (option_and_then (if_in_range b)) (text_is b z s h).read ∙ ap (λ (t : Bool). if t then Some z else None) h

-- ---- the words of a line

abbrev pub AreSoundBases : List Base → Type 0
AreSoundBases [] = Unit {0}
AreSoundBases (b ∷ bs) = (is_sound_base b ≡ true) × AreSoundBases bs

first_value : (x y : ℤ) (xs ys : List ℤ) → x ∷ xs ≡ y ∷ ys → (x ≡ y) × (xs ≡ ys)
first_value x y xs ys e = (cc, cc)

word_whole : (f : Format) (b : Base) (y z : ℤ) → is_sound_base b ≡ true → is_in (base_interval b) z ≡ true → IsWhole (new_word f b y z)
word_whole f b y z s h = by_test (may_keep f && same_value y z)
  where
    by_test : (t : Bool) → IsWhole (if t then 95 ∷ [] else value_text b z)
    by_test true = (record { blank = refl; end = refl; return = refl }, tt)
    by_test false = (text_is b z s h).whole

words_whole : (f : Format) (bs : List Base) (ys zs : List ℤ) → AreSoundBases bs → all_in_range bs zs ≡ zs → AreWhole (new_words f bs ys zs)
words_whole f [] ys zs s r = tt
words_whole f (b ∷ bs) [] zs s r = tt
words_whole f (b ∷ bs) (y ∷ ys) [] s r = tt
words_whole f (b ∷ bs) (y ∷ ys) (z ∷ zs) s r =
    let e = first_value (in_range b z) z (all_in_range bs zs) zs r in
    (word_whole f b y z s.0 (lies b z s.0 e.0), words_whole f bs ys zs s.1 e.1)

same_is : (y z : ℤ) → same_value y z ≡ true → y ≡ z
same_is (pos m) (pos n) h = ap pos (is m n h)
  where
    is : (m n : ℕ) → (m == n) ≡ true → m ≡ n
    is m n h = grind (arith, nat_tests)
same_is (pos m) (negsuc n) h = absurd (cc h)
same_is (negsuc m) (pos n) h = absurd (cc h)
same_is (negsuc m) (negsuc n) h = ap negsuc (is m n h)
  where
    is : (m n : ℕ) → (m == n) ≡ true → m ≡ n
    is m n h = grind (arith, nat_tests)

set_behind : (pre : List ℤ) (y z : ℤ) (rest : List ℤ) → slice_set (pre ++ (y ∷ rest)) (length pre) z ≡ (pre ++ (z ∷ [])) ++ rest
set_behind [] y z rest = refl
set_behind (x ∷ xs) y z rest = ap (λ (l : List ℤ). x ∷ l) (set_behind xs y z rest)

-- a word that is read puts the step's value in its place
word_back : (f : Format) (b : Base) (n : ℕ) (pre : List ℤ) (y z : ℤ) (ys : List ℤ) → length pre ≡ n → is_sound_base b ≡ true → is_in (base_interval b) z ≡ true
    → next_by (may_keep f) (record { place = n; base = b }) (new_word f b y z) (pre ++ (y ∷ ys)) ≡ Some ((pre ++ (z ∷ [])) ++ ys)
word_back f b n pre y z ys e s h = by_format f
  where
    put : option_map (λ (x : ℤ). slice_set (pre ++ (y ∷ ys)) n x) (reads_value b (value_text b z)) ≡ Some ((pre ++ (z ∷ [])) ++ ys)
    put = ap (option_map (λ (x : ℤ). slice_set (pre ++ (y ∷ ys)) n x)) (value_back b z s h)
        ∙ ap Some (ap (λ (i : ℕ). slice_set (pre ++ (y ∷ ys)) i z) (sym e) ∙ set_behind pre y z ys)

    by_test : (t : Bool) → same_value y z ≡ t → next_by true (record { place = n; base = b }) (if t then 95 ∷ [] else value_text b z) (pre ++ (y ∷ ys)) ≡ Some ((pre ++ (z ∷ [])) ++ ys)
    by_test true q = ap Some (ap (λ (x : ℤ). pre ++ (x ∷ ys)) (same_is y z q) ∙ sym (append_assoc pre (z ∷ []) ys))
    by_test false q =
        ap (λ (t : Bool). if t then Some (pre ++ (y ∷ ys)) else option_map (λ (x : ℤ). slice_set (pre ++ (y ∷ ys)) n x) (reads_value b (value_text b z))) (text_is b z s h).other
        ∙ put

    by_format : (f : Format) → next_by (may_keep f) (record { place = n; base = b }) (new_word f b y z) (pre ++ (y ∷ ys)) ≡ Some ((pre ++ (z ∷ [])) ++ ys)
    by_format Plain = put
    by_format Headed = by_test (same_value y z) refl

words_back : (f : Format) (bs : List Base) (n : ℕ) (pre ys zs : List ℤ) → length pre ≡ n → length ys ≡ length bs → length zs ≡ length bs → AreSoundBases bs → all_in_range bs zs ≡ zs
    → reads_by (may_keep f) (fields_from n bs) (new_words f bs ys zs) (pre ++ ys) ≡ Some (pre ++ zs)
words_back f [] n pre [] [] e h k s r = refl
words_back f [] n pre (y ∷ ys) zs e h k s r = absurd (omega (arith, h))
words_back f [] n pre [] (z ∷ zs) e h k s r = absurd (omega (arith, k))
words_back f (b ∷ bs) n pre [] zs e h k s r = absurd (omega (arith, h))
words_back f (b ∷ bs) n pre (y ∷ ys) [] e h k s r = absurd (omega (arith, k))
words_back f (b ∷ bs) n pre (y ∷ ys) (z ∷ zs) e h k s r =
    let q = first_value (in_range b z) z (all_in_range bs zs) zs r in
    ap (option_and_then (reads_by (may_keep f) (fields_from (n + 1) bs) (new_words f bs ys zs))) (word_back f b n pre y z ys e s.0 (lies b z s.0 q.0))
    ∙ (words_back f bs (n + 1) (pre ++ (z ∷ [])) ys zs (more z) (omega (arith, h)) (omega (arith, k)) s.1 q.1
    ∙ ap Some (append_assoc pre (z ∷ []) zs))
  where
    more : (z : ℤ) → length (pre ++ (z ∷ [])) ≡ n + 1
    more z = let g : length (pre ++ (z ∷ [])) ≡ length pre + 1 = length-append pre (z ∷ []) in omega (arith, g, e)

-- ---- the line

pub line_open : (f : Format) (bs : List Base) (ys zs : List ℤ) → AreSoundBases bs → all_in_range bs zs ≡ zs → AreOpen (joined_words (new_words f bs ys zs))
line_open f bs ys zs s r = joined_open (new_words f bs ys zs) (words_whole f bs ys zs s r)

-- it is the first of the lines, and is read as the step
pub line_closed : (f : Format) (bs : List Base) (ys zs : List ℤ) → AreSoundBases bs → all_in_range bs zs ≡ zs → IsClosed (new_line f bs ys zs)
line_closed f bs ys zs s r = open_closed (joined_words (new_words f bs ys zs)) (line_open f bs ys zs s r)

-- without a header it doesn't begin as one
pub line_plain : (bs : List Base) (ys zs : List ℤ) → AreSoundBases bs → all_in_range bs zs ≡ zs → is_header (new_line Plain bs ys zs) ≡ false
line_plain [] ys zs s r = refl
line_plain (b ∷ bs) [] zs s r = refl
line_plain (b ∷ bs) (y ∷ ys) [] s r = refl
line_plain (b ∷ bs) (y ∷ ys) (z ∷ zs) s r =
    let e = first_value (in_range b z) z (all_in_range bs zs) zs r in
    let t = text_is b z s.0 (lies b z s.0 e.0) in
    begins (value_text b z) t.whole t.plain
  where
    begins : (w : List ℕ) → IsWhole w → is_header w ≡ false → is_header ((w ++ spaced_words (new_words Plain bs ys zs)) ++ (10 ∷ [])) ≡ false
    begins [] h e = absurd h
    begins (c ∷ cs) h e = e

pub line_back : (f : Format) (bs : List Base) (ys zs : List ℤ) → length ys ≡ length bs → length zs ≡ length bs → AreSoundBases bs → all_in_range bs zs ≡ zs → is_short (new_line f bs ys zs) ≡ true
    → line_by (may_keep f) (fields_from 0 bs) ys (new_line f bs ys zs) ≡ Some zs
line_back f bs ys zs h k s r short =
    ap (λ (t : Bool). if t then reads_by (may_keep f) (fields_from 0 bs) (words (text_in (new_line f bs ys zs))) ys else None) short
    ∙ (ap (λ (ws : List (List ℕ)). reads_by (may_keep f) (fields_from 0 bs) ws ys)
    (ap words (text_back (joined_words (new_words f bs ys zs)) (line_open f bs ys zs s r)) ∙ joined_back (new_words f bs ys zs) (words_whole f bs ys zs s r))
    ∙ words_back f bs 0 [] ys zs refl h k s r)
