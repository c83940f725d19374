-- Lines of small values: each ends with its only LF, none is long, and none is a header.
use Rattle.std.proofs.Common.{◌≡◌, ◌<◌, ◌≤◌, ◌+◌, ◌*◌, ◌/◌, ◌%◌, ◌^◌, ℕ, zero, suc, ℤ, pos, negsuc, Bool, true, false, ◌&&◌, ◌||◌, ◌==◌, nat_le, if◌then◌else◌, List, [], ◌∷◌, ◌++◌, length, replicate, All, refl, sym, ap, ap₂, subst, ◌∙◌, arith, append_assoc, length-append}
use Rattle.std.specs.Prelude.{decimal, unsigned_abs}
use Rattle.std.specs.Fmt.{signed_decimal}
use Rattle.std.proofs.lemmas.Bool.Decides.{nat_tests}
use Rattle.std.proofs.lemmas.Fmt.{decimal_by_steps, length-decimal-le}
use Rattle.quartz_tree.specs.declared.declare.Base.{Base}
use Rattle.quartz_tree.specs.declared.declare.Base.TheVariants as base
use Rattle.quartz_tree.specs.declared.declare.Flow.{Flow}
use Rattle.quartz_expr.specs.Vars.{Vars}
use Rattle.quartz_expr.specs.Values.{is_zero}
use Rattle.quartz_expr.specs.Intervals.{base_interval, is_in, is_sound_base, is_sound_length, is_sound_type}
use Rattle.quartz_expr.specs.Typed.{have_sound_types}
use Rattle.trace_io.specs.Values.{binary, value_text}
use Rattle.trace_io.specs.Inputs.{count_in, same_flow, scalars, types_with}
use Rattle.trace_io.specs.Held.{IsClosed, has_line_end}
use Rattle.trace_io.specs.Lines.{lines}
use Rattle.trace_io.specs.Reading.{is_header, line_steps, steps, steps_of, headed_steps, head}
use Rattle.trace_io.specs.Writing.{all_in_range, drawn_values, generated_of, line_of_types, number_behind, rest_of_line}
use Rattle.trace_io.proofs.GenerateLemmas.{drawn_in_range}
use Rattle.trace_io.proofs.LinesLemmas.{closed_front, line_end_append}
use Rattle.command_texts.proofs.SmallLemmas.{AreSmall, IsSmall, base_small}
use Rattle.quartz_expr.proofs.TruthLemmas.{and_parts}

-- ---- texts without an LF and a `#`

abbrev IsPlain : List ℕ → Type 0
IsPlain [] = Unit {0}
IsPlain (c ∷ cs) = ((c == 10) ≡ false) × ((c == 35) ≡ false) × IsPlain cs

plain_both : (xs ys : List ℕ) → IsPlain xs → IsPlain ys → IsPlain (xs ++ ys)
plain_both [] ys h k = k
plain_both (x ∷ xs) ys h k = (h.0, h.1, plain_both xs ys h.2 k)

plain_open : (xs : List ℕ) → IsPlain xs → has_line_end xs ≡ false
plain_open [] h = refl
plain_open (x ∷ xs) h = ap₂ (λ (a b : Bool). a || b) h.0 (plain_open xs h.2)

plain_header : (xs ys : List ℕ) → IsPlain xs → is_header ys ≡ false → is_header (xs ++ ys) ≡ false
plain_header [] ys h k = k
plain_header (x ∷ xs) ys h k = h.1

plain_digit : (n : ℕ) → n < 10 → IsPlain ((48 + n) ∷ [])
plain_digit n h = (no_end n h, no_header n h, tt)
  where
    no_end : (n : ℕ) → n < 10 → (48 + n == 10) ≡ false
    no_end n h = grind (arith, nat_tests)

    no_header : (n : ℕ) → n < 10 → (48 + n == 35) ≡ false
    no_header n h = grind (arith, nat_tests)

plain_decimal : (n : ℕ) → n ≤ 4294967296 → IsPlain (decimal n)
plain_decimal n h = decimal_by_steps (λ (m : ℕ) (ds : List ℕ). IsPlain ds) plain_digit (λ m ds k p. plain_both ds ((48 + m % 10) ∷ []) p (plain_digit (m % 10) (last m))) n (omega (arith, h))
  where
    last : (m : ℕ) → m % 10 < 10
    last m = omega arith

plain_signed : (z : ℤ) → IsSmall z → IsPlain (signed_decimal z)
plain_signed (pos n) h = plain_decimal n h
plain_signed (negsuc n) h = (refl, refl, plain_decimal (suc n) (omega (arith, h)))

plain_binary : (width n : ℕ) → IsPlain (binary width n)
plain_binary zero n = tt
plain_binary (suc k) n = let p : IsPlain ((48 + n / 2 ^ k % 2) ∷ []) = plain_digit (n / 2 ^ k % 2) (bit (n / 2 ^ k)) in (p.0, p.1, plain_binary k n)
  where
    bit : (m : ℕ) → m % 2 < 10
    bit m = omega arith

plain_value : (b : Base) (z : ℤ) → IsSmall z → IsPlain (value_text b z)
plain_value base.Bool z h = by_test (is_zero z)
  where
    by_test : (b : Bool) → IsPlain ((if b then 48 else 49) ∷ [])
    by_test true = (refl, refl, tt)
    by_test false = (refl, refl, tt)
plain_value (base.Nat n) z h = plain_signed z h
plain_value (base.Int n) z h = plain_signed z h
plain_value (base.Bv n) z h = (refl, refl, (refl, refl, plain_binary n _))

-- ---- lengths

short_decimal : (n : ℕ) → n ≤ 4294967296 → length (decimal n) ≤ 10
short_decimal n h = length-decimal-le 10 n (omega arith) (omega (arith, h)) (omega (arith, h))

short_signed : (z : ℤ) → IsSmall z → length (signed_decimal z) ≤ 34
short_signed (pos n) h = let k : length (decimal n) ≤ 10 = short_decimal n h in omega (arith, k)
short_signed (negsuc n) h = let k : length (decimal (suc n)) ≤ 10 = short_decimal (suc n) (omega (arith, h)) in omega (arith, k)

binary_long : (width n : ℕ) → length (binary width n) ≡ width
binary_long zero n = refl
binary_long (suc k) n = ap suc (binary_long k n)

few_bits : (n : ℕ) → (nat_le 1 n && nat_le n 32) ≡ true → n ≤ 32
few_bits n h = grind (arith, nat_tests)

short_value : (b : Base) (z : ℤ) → is_sound_base b ≡ true → IsSmall z → length (value_text b z) ≤ 34
short_value base.Bool z s h = by_test (is_zero z)
  where
    by_test : (b : Bool) → length {A = ℕ} ((if b then 48 else 49) ∷ []) ≤ 34
    by_test true = omega arith
    by_test false = omega arith
short_value (base.Nat n) z s h = short_signed z h
short_value (base.Int n) z s h = short_signed z h
short_value (base.Bv n) z s h =
    let few : n ≤ 32 = few_bits n s in
    let long : length (binary n (unsigned_abs z)) ≡ n = binary_long n (unsigned_abs z) in
    omega (arith, few, long)

-- ---- types

abbrev pub AreSoundBases : List Base → Type 0
AreSoundBases [] = Unit {0}
AreSoundBases (b ∷ bs) = (is_sound_base b ≡ true) × AreSoundBases bs

both_sound : (n : ℕ) (b : Base) (bs : List Base) → is_sound_base b ≡ true → AreSoundBases bs → AreSoundBases (replicate n b ++ bs)
both_sound zero b bs h k = k
both_sound (suc n) b bs h k = (h, both_sound n b bs h k)

pub types_sound : (f : Flow) (vs : Vars) → have_sound_types vs ≡ true → AreSoundBases (types_with f vs)
types_sound f [] h = tt
types_sound f (v ∷ vs) h =
    let b = and_parts (is_sound_type v.decl.ty) (have_sound_types vs) h in
    by_test (same_flow f v.decl.flow) (and_parts (is_sound_base v.decl.ty.base) (is_sound_length v.decl.ty.len) b.0).0 (types_sound f vs b.1)
  where
    by_test : (t : Bool) → is_sound_base v.decl.ty.base ≡ true → AreSoundBases (types_with f vs) → AreSoundBases (if t then scalars v ++ types_with f vs else types_with f vs)
    by_test true s k = both_sound (count_in v) v.decl.ty.base (types_with f vs) s k
    by_test false s k = k

all_sound : (bs : List Base) → AreSoundBases bs → All (λ b. is_sound_base b ≡ true) bs
all_sound [] h i d l = absurd (omega (arith, l))
all_sound (b ∷ bs) h zero d l = h.0
all_sound (b ∷ bs) h (suc i) d l = all_sound bs h.1 i d (omega (arith, l))

-- ---- lines

closed_behind : (xs line : List ℕ) → has_line_end xs ≡ false → IsClosed line → IsClosed (xs ++ line)
closed_behind xs line h k = record {
  front = xs ++ k.front;
  is = ap (λ (l : List ℕ). xs ++ l) k.is ∙ sym (append_assoc xs k.front (10 ∷ []));
  open_front = line_end_append xs k.front ∙ ap₂ (λ (a b : Bool). a || b) h k.open_front;
}

end_closed : IsClosed (10 ∷ [])
end_closed = record { front = []; is = refl; open_front = refl }

closed_rest : (bs : List Base) (zs : List ℤ) → AreSmall zs → IsClosed (rest_of_line bs zs)
closed_rest [] zs h = end_closed
closed_rest (b ∷ bs) [] h = end_closed
closed_rest (b ∷ bs) (z ∷ zs) h = closed_behind (32 ∷ value_text b z) (rest_of_line bs zs) (plain_open (value_text b z) (plain_value b z h.0)) (closed_rest bs zs h.1)

-- a line of small values ends with its only LF
pub closed_line : (bs : List Base) (zs : List ℤ) → AreSmall zs → IsClosed (line_of_types bs zs)
closed_line [] zs h = end_closed
closed_line (b ∷ bs) [] h = end_closed
closed_line (b ∷ bs) (z ∷ zs) h = closed_behind (value_text b z) (rest_of_line bs zs) (plain_open (value_text b z) (plain_value b z h.0)) (closed_rest bs zs h.1)

short_rest : (bs : List Base) (zs : List ℤ) → AreSoundBases bs → AreSmall zs → length (rest_of_line bs zs) ≤ length bs * 35 + 1
short_rest [] zs s h = omega arith
short_rest (b ∷ bs) [] s h = omega arith
short_rest (b ∷ bs) (z ∷ zs) s h =
    let value_long : length (value_text b z) ≤ 34 = short_value b z s.0 h.0 in
    let rest_long : length (rest_of_line bs zs) ≤ length bs * 35 + 1 = short_rest bs zs s.1 h.1 in
    let both : length (value_text b z ++ rest_of_line bs zs) ≡ length (value_text b z) + length (rest_of_line bs zs) = length-append (value_text b z) (rest_of_line bs zs) in
    omega (arith, value_long, rest_long, both)

-- and it has at most 35 bytes for each value, or its LF alone
pub short_line : (bs : List Base) (zs : List ℤ) (most : ℕ) → AreSoundBases bs → AreSmall zs → length bs ≤ most → 1 ≤ most → length (line_of_types bs zs) ≤ most * 35
short_line [] zs m s h l k = omega (arith, k)
short_line (b ∷ bs) [] m s h l k = omega (arith, k)
short_line (b ∷ bs) (z ∷ zs) m s h l k =
    let value_long : length (value_text b z) ≤ 34 = short_value b z s.0 h.0 in
    let rest_long : length (rest_of_line bs zs) ≤ length bs * 35 + 1 = short_rest bs zs s.1 h.1 in
    let both : length (value_text b z ++ rest_of_line bs zs) ≡ length (value_text b z) + length (rest_of_line bs zs) = length-append (value_text b z) (rest_of_line bs zs) in
    omega (arith, value_long, rest_long, both, l)

rest_plain : (bs : List Base) (zs : List ℤ) → is_header (rest_of_line bs zs) ≡ false
rest_plain [] zs = refl
rest_plain (b ∷ bs) [] = refl
rest_plain (b ∷ bs) (z ∷ zs) = refl

line_plain : (bs : List Base) (zs : List ℤ) → AreSmall zs → is_header (line_of_types bs zs) ≡ false
line_plain [] zs h = refl
line_plain (b ∷ bs) [] h = refl
line_plain (b ∷ bs) (z ∷ zs) h = plain_header (value_text b z) (rest_of_line bs zs) (plain_value b z h.0) (rest_plain bs zs)

-- ---- generated lines

ranged_small : (bs : List Base) (zs : List ℤ) → AreSoundBases bs → AreSmall (all_in_range bs zs)
ranged_small [] zs s = tt
ranged_small (b ∷ bs) [] s = tt
ranged_small (b ∷ bs) (z ∷ zs) s = (by_test (is_in (base_interval b) z) refl, ranged_small bs zs s.1)
  where
    by_test : (t : Bool) → is_in (base_interval b) z ≡ t → IsSmall (if t then z else pos 0)
    by_test true e = base_small b z s.0 e
    by_test false e = omega arith

drawn_small : (bs : List Base) (s : ℕ) → AreSoundBases bs → AreSmall (drawn_values bs s)
drawn_small bs s h = subst AreSmall (drawn_in_range bs s (all_sound bs h)) (ranged_small bs (drawn_values bs s) h)

-- there are as many as steps
pub generated_counted : (bs : List Base) (s n : ℕ) → AreSoundBases bs → length (lines (generated_of bs s n)) ≡ n
generated_counted bs s zero h = refl
generated_counted bs s (suc n) h =
    ap length (closed_front (line_of_types bs (drawn_values bs s)) (generated_of bs (number_behind bs s) n) (closed_line bs (drawn_values bs s) (drawn_small bs s h)))
    ∙ ap suc (generated_counted bs (number_behind bs s) n h)

-- and the first of them is no header
pub generated_plain : (vs : Vars) (bs : List Base) (s n : ℕ) → AreSoundBases bs → steps vs (generated_of bs s n) ≡ line_steps vs (lines (generated_of bs s n))
generated_plain vs bs s zero h = refl
generated_plain vs bs s (suc n) h =
    let line : List ℕ = line_of_types bs (drawn_values bs s) in
    let rest : List (List ℕ) = lines (generated_of bs (number_behind bs s) n) in
    let cut : lines (generated_of bs s (suc n)) ≡ line ∷ rest = closed_front line (generated_of bs (number_behind bs s) n) (closed_line bs (drawn_values bs s) (drawn_small bs s h)) in
    ap (steps_of vs) cut
    ∙ (ap (λ (t : Bool). if t then headed_steps vs (head vs line) rest else line_steps vs (line ∷ rest)) (line_plain bs (drawn_values bs s) (drawn_small bs s h))
    ∙ ap (line_steps vs) (sym cut))
