-- The value of a typed expression lies in its interval, and none of its parts leaves the machine's numbers.
use Rattle.std.proofs.Common.{◌≡◌, ℕ, zero, suc, ◌+◌, ◌-◌, ◌^◌, ◌<◌, ◌≤◌, ℤ, pos, neg_ℤ, ◌≤ℤ◌, Bool, true, false, [], ◌∷◌, length, Option, Some, None, refl, sym, ap, ◌∙◌, subst, arith}
use Rattle.std.proofs.lemmas.Int.{ints}
use Rattle.std.proofs.lemmas.Bool.Decides.{nat_tests}
use Rattle.std.proofs.Math.Nat.{pow-le-pow_right}
use Rattle.std.specs.Prelude.{not, ◌&&◌, ◌||◌, nat_le, int_le, if◌then◌else◌}
use Rattle.quartz_tree.specs.declared.declare.Base.{Base}
use Rattle.quartz_tree.specs.declared.declare.Base.TheVariants as base
use Rattle.quartz_tree.specs.declared.place.Place.{Place}
use Rattle.quartz_tree.specs.declared.expr.Unary.TheVariants.{Not, Neg}
use Rattle.quartz_tree.specs.declared.expr.Binary.{Binary}
use Rattle.quartz_tree.specs.declared.expr.Binary.TheVariants.{Iff, Implies, Or, Xor, And, Eq, Ne, Lt, Le, Gt, Ge, Cat, Add, Sub, Mul, Div, Rem}
use Rattle.quartz_tree.specs.Tree.{Tree, one, two, slice}
use Rattle.quartz_expr.specs.Values.{Values, elements_in, element_at, of_bool, is_zero}
use Rattle.quartz_expr.specs.Vars.{Vars, base_of, is_array}
use Rattle.quartz_expr.specs.Kinds.{Kind, boolean, numeric, vector, counted, kind_of_base, same_kind, is_numeric, is_vector, kind_if, kind_with, one_kind, two_kind, choice_kind, slice_width, slice_kind, kind}
use Rattle.quartz_expr.specs.Value.{value, apply_two, complement, joined, bits_of, width_in}
use Rattle.quartz_expr.specs.Intervals.{Interval, are_sound_bits, span, only, Lies, is_inside, sound_or_nought, is_sound_base, is_sound_length, is_sound_type, base_interval, range_of, kind_interval, is_small, hull, two_interval, is_sound_two, is_sound_width, is_sound_slice, is_sound_target, bits_interval, interval}
use Rattle.quartz_expr.specs.Typed.{Fits, AreSound, IsTyped, have_sound_types}
use Rattle.quartz_expr.specs.Computable.{IsSmall, Suits, IsComputable}
use Rattle.quartz_expr.proofs.OperatorLemmas.{sum_lies, difference_lies, negated_lies, product_lies, quotient_lies, remainder_lies, hull_left, hull_right, bool_lies, and_lies, or_lies, xor_lies, slice_lies, flipped_lies, cat_lies, element_lies}
use Rattle.quartz_expr.proofs.TypingLemmas.{is_logical, is_bitwise, is_equation, is_order, is_arithmetic, Typed, of_truth, of_number, of_bits, of_named, of_element, of_not, of_neg, of_logical, of_bitwise, of_equation, of_order, of_cat, of_arithmetic, of_choice, of_bit, of_slice, of_to_nat, of_to_bv, of_paren, IsSoundKind, counted_is, typed_of}
use Rattle.quartz_expr.proofs.TruthLemmas.{and_parts}
use Rattle.quartz_expr.proofs.RangeLemmas.{base_has_zero}

-- ---- kinds

logical_kind_is : (op : Binary) → is_logical op ≡ true → two_kind op boolean boolean ≡ Some boolean
logical_kind_is Iff e = refl
logical_kind_is Implies e = refl
logical_kind_is _ e = absurd (cc)

same_self : (k : Kind) → same_kind k k ≡ true
same_self boolean = refl
same_self numeric = refl
same_self (vector n) = grind (arith, nat_tests)

bitwise_kind_is : (op : Binary) (k : Kind) → is_bitwise op ≡ true → is_numeric k ≡ false → two_kind op k k ≡ Some k
bitwise_kind_is Or k e f = rw (f, same_self k) refl
bitwise_kind_is Xor k e f = rw (f, same_self k) refl
bitwise_kind_is And k e f = rw (f, same_self k) refl
bitwise_kind_is _ k e f = absurd (cc)

equation_kind_is : (op : Binary) (k : Kind) → is_equation op ≡ true → two_kind op k k ≡ Some boolean
equation_kind_is Eq k e = rw (same_self k) refl
equation_kind_is Ne k e = rw (same_self k) refl
equation_kind_is _ k e = absurd (cc)

order_kind_is : (op : Binary) → is_order op ≡ true → two_kind op numeric numeric ≡ Some boolean
order_kind_is Lt e = refl
order_kind_is Le e = refl
order_kind_is Gt e = refl
order_kind_is Ge e = refl
order_kind_is _ e = absurd (cc)

arithmetic_kind_is : (op : Binary) → is_arithmetic op ≡ true → two_kind op numeric numeric ≡ Some numeric
arithmetic_kind_is Add e = refl
arithmetic_kind_is Sub e = refl
arithmetic_kind_is Mul e = refl
arithmetic_kind_is Div e = refl
arithmetic_kind_is Rem e = refl
arithmetic_kind_is _ e = absurd (cc)

abbrev two_kinds : Binary → Option Kind → Option Kind → Option Kind
two_kinds op o l = kind_with o (λ k. kind_with l (two_kind op k))

two_kinds_is : (op : Binary) (o l : Option Kind) (k m : Kind) (n : Option Kind) → o ≡ Some k → l ≡ Some m → two_kind op k m ≡ n → two_kinds op o l ≡ n
two_kinds_is op o l k m n e f g = ap (λ o. two_kinds op o l) e ∙ ap (two_kinds op (Some k)) f ∙ g

abbrev choice_kinds : Option Kind → Option Kind → Option Kind → Option Kind
choice_kinds n o l = kind_with n (λ i. kind_with o (λ j. kind_with l (choice_kind i j)))

choice_kinds_is : (n o l : Option Kind) (k : Kind) → n ≡ Some boolean → o ≡ Some k → l ≡ Some k → choice_kinds n o l ≡ Some k
choice_kinds_is n o l k e f g = ap (λ n. choice_kinds n o l) e ∙ ap (λ o. choice_kinds (Some boolean) o l) f ∙ ap (choice_kinds (Some boolean) (Some k)) g ∙ ap (λ b. kind_if b k) (same_self k)

not_kind_is : (k : Kind) → is_numeric k ≡ false → one_kind Not k ≡ Some k
not_kind_is k e = ap (λ b. kind_if (not b) k) e

-- the kind of a typed expression
pub kind_is : (vs : Vars) (t : Tree ℕ) (k : Kind) → Typed vs t k → kind vs t ≡ Some k
kind_is vs _ _ (of_truth b p) = refl
kind_is vs _ _ (of_number n p h) = refl
kind_is vs _ _ (of_bits w n p low high h) = ap (λ m. Some (vector m)) (counted_is w low high)
kind_is vs _ _ (of_named x p k h a e) = ap (λ b. kind_if (not b) (kind_of_base (base_of vs x))) a ∙ ap (λ k. Some k) (sym e)
kind_is vs _ _ (of_element x i p k h a t e) = ap (λ o. kind_with o (λ k. kind_if (is_array vs x && is_numeric k) (kind_of_base (base_of vs x)))) (kind_is vs i numeric t) ∙ ap (λ b. kind_if (b && true) (kind_of_base (base_of vs x))) a ∙ ap (λ k. Some k) (sym e)
kind_is vs _ _ (of_not a p k t e) = ap (λ o. kind_with o (one_kind Not)) (kind_is vs a k t) ∙ not_kind_is k e
kind_is vs _ _ (of_neg a p t h) = ap (λ o. kind_with o (one_kind Neg)) (kind_is vs a numeric t)
kind_is vs _ _ (of_logical op a b p e t u) = two_kinds_is op _ _ _ _ _ (kind_is vs a boolean t) (kind_is vs b boolean u) (logical_kind_is op e)
kind_is vs _ _ (of_bitwise op a b p k e f t u) = two_kinds_is op _ _ _ _ _ (kind_is vs a k t) (kind_is vs b k u) (bitwise_kind_is op k e f)
kind_is vs _ _ (of_equation op a b p k e t u) = two_kinds_is op _ _ _ _ _ (kind_is vs a k t) (kind_is vs b k u) (equation_kind_is op k e)
kind_is vs _ _ (of_order op a b p e t u) = two_kinds_is op _ _ _ _ _ (kind_is vs a numeric t) (kind_is vs b numeric u) (order_kind_is op e)
kind_is vs _ _ (of_cat a b p m n low high t u) = two_kinds_is Cat _ _ _ _ _ (kind_is vs a (vector m) t) (kind_is vs b (vector n) u) (ap (λ w. Some (vector w)) (counted_is (m + n) low high))
kind_is vs _ _ (of_arithmetic op a b p e h t u) = two_kinds_is op _ _ _ _ _ (kind_is vs a numeric t) (kind_is vs b numeric u) (arithmetic_kind_is op e)
kind_is vs _ _ (of_choice c a b p k s t u) = choice_kinds_is _ _ _ k (kind_is vs c boolean s) (kind_is vs a k t) (kind_is vs b k u)
kind_is vs _ _ (of_bit a high n p t h) = ap (λ o. kind_with o (slice_kind high None)) (kind_is vs a (vector n) t)
kind_is vs _ _ (of_slice a high low n p t h j) = ap (λ o. kind_with o (slice_kind high (Some low))) (kind_is vs a (vector n) t)
kind_is vs _ _ (of_to_nat a n p t) = ap (λ o. kind_with o (λ k. kind_if (is_vector k) numeric)) (kind_is vs a (vector n) t)
kind_is vs _ _ (of_to_bv a n q p t low high h) = ap (λ o. kind_with o (λ k. kind_if (is_numeric k) (vector (counted n)))) (kind_is vs a numeric t) ∙ ap (λ m. Some (vector m)) (counted_is n low high)
kind_is vs _ _ (of_paren a p k t) = kind_is vs a k t

-- ---- types

sound_base_at : (vs : Vars) (x : ℕ) → have_sound_types vs ≡ true → is_sound_base (base_of vs x) ≡ true
sound_base_at [] x e = refl
sound_base_at (v ∷ vs) zero e = (and_parts (is_sound_base v.decl.ty.base) (is_sound_length v.decl.ty.len) (and_parts (is_sound_type v.decl.ty) (have_sound_types vs) e).0).0
sound_base_at (v ∷ vs) (suc x) e = sound_base_at vs x (and_parts (is_sound_type v.decl.ty) (have_sound_types vs) e).1

pub range_at : (vs : Vars) (x : ℕ) → have_sound_types vs ≡ true → x < length vs → range_of vs x ≡ base_interval (base_of vs x)
range_at [] x e h = absurd (omega arith)
range_at (v ∷ vs) zero e h = ap (λ b. sound_or_nought b (base_interval v.decl.ty.base)) (and_parts (is_sound_type v.decl.ty) (have_sound_types vs) e).0
range_at (v ∷ vs) (suc x) e h = range_at vs x (and_parts (is_sound_type v.decl.ty) (have_sound_types vs) e).1 (omega arith)

sound_kind_of_base : (b : Base) → is_sound_base b ≡ true → IsSoundKind (kind_of_base b)
sound_kind_of_base base.Bool e = tt
sound_kind_of_base (base.Nat n) e = tt
sound_kind_of_base (base.Int n) e = tt
sound_kind_of_base (base.Bv n) e =
    let f = and_parts (nat_le 1 n) (nat_le n 32) e in
    let low : 1 ≤ n = grind (arith, nat_tests, f.0) in
    let high : n ≤ 32 = grind (arith, nat_tests, f.1) in
    subst (λ m. IsSoundKind (vector m)) (sym (counted_is n low high)) (low, high)

base_bits : (b : Base) (z : ℤ) → is_sound_base b ≡ true → is_numeric (kind_of_base b) ≡ false → Lies (base_interval b) z → Lies (kind_interval (Some (kind_of_base b))) z
base_bits base.Bool z e f h = h
base_bits (base.Nat n) z e f h = absurd (cc)
base_bits (base.Int n) z e f h = absurd (cc)
base_bits (base.Bv n) z e f h =
    let g = and_parts (nat_le 1 n) (nat_le n 32) e in
    subst (λ m. Lies (kind_interval (Some (vector m))) z) (sym (counted_is n (grind (arith, nat_tests, g.0)) (grind (arith, nat_tests, g.1)))) h

power_small : (n : ℕ) → n ≤ 32 → 2 ^ n ≤ 2 ^ 32
power_small n h = pow-le-pow_right (omega arith) h

-- a number that lies in a small interval is small
small_in : (i : Interval) (z : ℤ) → is_small i ≡ true → Lies i z → IsSmall z
small_in i z e h =
    let f = and_parts (int_le (neg_ℤ (pos (2 ^ 62))) i.low) (int_le i.high (pos (2 ^ 62))) e in
    let low : neg_ℤ (pos (2 ^ 62)) ≤ℤ i.low = grind (arith, ints, f.0) in
    let high : i.high ≤ℤ pos (2 ^ 62) = grind (arith, ints, f.1) in
    record { from = omega (arith, ints, h.above); upto = omega (arith, ints, h.below) }

base_small : (b : Base) (z : ℤ) → is_sound_base b ≡ true → Lies (base_interval b) z → IsSmall z
base_small base.Bool z e h = record { from = omega (arith, ints, h.above); upto = omega (arith, ints, h.below) }
base_small (base.Nat n) z e h = let f : n ≤ 2 ^ 31 = grind (arith, nat_tests, e) in record { from = omega (arith, ints, h.above); upto = omega (arith, ints, h.below) }
base_small (base.Int n) z e h = let f : n ≤ 2 ^ 31 = grind (arith, nat_tests, e) in record { from = omega (arith, ints, h.above); upto = omega (arith, ints, h.below) }
base_small (base.Bv n) z e h = let f : n ≤ 32 = grind (arith, nat_tests, e) in let g = power_small n f in record { from = omega (arith, ints, h.above); upto = omega (arith, ints, h.below) }

kind_small : (k : Kind) → IsSoundKind k → is_small (kind_interval (Some k)) ≡ true
kind_small boolean h = refl
kind_small numeric h = refl
kind_small (vector n) h = let g = power_small n h.1 in grind (arith, ints, nat_tests, g)

pub not_negative : (k : Kind) (z : ℤ) → Lies (kind_interval (Some k)) z → pos 0 ≤ℤ z
not_negative boolean z h = h.above
not_negative numeric z h = h.above
not_negative (vector n) z h = h.above

-- ---- values by kind

truth_lies : (op : Binary) → (is_logical op || (is_equation op || is_order op)) ≡ true → (n : ℕ) (x y : ℤ) → Lies (span (pos 0) (pos 1)) (apply_two op n x y)
truth_lies Iff e n x y = bool_lies _
truth_lies Implies e n x y = bool_lies _
truth_lies Eq e n x y = bool_lies _
truth_lies Ne e n x y = bool_lies _
truth_lies Lt e n x y = bool_lies _
truth_lies Le e n x y = bool_lies _
truth_lies Gt e n x y = bool_lies _
truth_lies Ge e n x y = bool_lies _
truth_lies _ e n x y = absurd (cc)

bitwise_lies : (op : Binary) (k : Kind) → is_bitwise op ≡ true → is_numeric k ≡ false → (n : ℕ) (x y : ℤ) → Lies (kind_interval (Some k)) x → Lies (kind_interval (Some k)) y → Lies (kind_interval (Some k)) (apply_two op n x y)
bitwise_lies Or boolean e f n x y h j = or_lies 1 x y h j
bitwise_lies Or (vector m) e f n x y h j = or_lies m x y h j
bitwise_lies Or numeric e f n x y h j = absurd (cc)
bitwise_lies Xor boolean e f n x y h j = xor_lies 1 x y h j
bitwise_lies Xor (vector m) e f n x y h j = xor_lies m x y h j
bitwise_lies Xor numeric e f n x y h j = absurd (cc)
bitwise_lies And boolean e f n x y h j = and_lies 1 x y h j
bitwise_lies And (vector m) e f n x y h j = and_lies m x y h j
bitwise_lies And numeric e f n x y h j = absurd (cc)
bitwise_lies _ k e f n x y h j = absurd (cc)

complement_lies : (k : Kind) → is_numeric k ≡ false → (z : ℤ) → Lies (kind_interval (Some k)) z → Lies (kind_interval (Some k)) (complement (Some k) z)
complement_lies boolean e z h = bool_lies (is_zero z)
complement_lies numeric e z h = absurd (cc)
complement_lies (vector n) e z h = flipped_lies n z h

arithmetic_lies : (op : Binary) → is_arithmetic op ≡ true → (k : Option Kind) (i j : Interval) (n : ℕ) (x y : ℤ) → Lies i x → Lies j y → Lies (two_interval op k i j) (apply_two op n x y)
arithmetic_lies Add e k i j n x y g h = sum_lies i j x y g h
arithmetic_lies Sub e k i j n x y g h = difference_lies i j x y g h
arithmetic_lies Mul e k i j n x y g h = product_lies i j x y g h
arithmetic_lies Div e k i j n x y g h = quotient_lies i j x y g h
arithmetic_lies Rem e k i j n x y g h = remainder_lies i j x y g h
arithmetic_lies _ e k i j n x y g h = absurd (cc)

arithmetic_sound : (op : Binary) → is_arithmetic op ≡ true → (k : Option Kind) (i : Interval) → is_sound_two op k i ≡ is_small i
arithmetic_sound Add e k i = refl
arithmetic_sound Sub e k i = refl
arithmetic_sound Mul e k i = refl
arithmetic_sound Div e k i = refl
arithmetic_sound Rem e k i = refl
arithmetic_sound _ e k i = absurd (cc)

arithmetic_any : (op : Binary) → is_arithmetic op ≡ true → (k l : Option Kind) (i j : Interval) → two_interval op k i j ≡ two_interval op l i j
arithmetic_any Add e k l i j = refl
arithmetic_any Sub e k l i j = refl
arithmetic_any Mul e k l i j = refl
arithmetic_any Div e k l i j = refl
arithmetic_any Rem e k l i j = refl
arithmetic_any _ e k l i j = absurd (cc)

-- an operator whose interval is that of its kind
abbrev is_plain : Binary → Bool
is_plain op = is_logical op || (is_bitwise op || (is_equation op || is_order op))

plain_interval : (op : Binary) → is_plain op ≡ true → (k : Option Kind) (i j : Interval) → two_interval op k i j ≡ kind_interval k
plain_interval Iff e k i j = refl
plain_interval Implies e k i j = refl
plain_interval Or e k i j = refl
plain_interval Xor e k i j = refl
plain_interval And e k i j = refl
plain_interval Eq e k i j = refl
plain_interval Ne e k i j = refl
plain_interval Lt e k i j = refl
plain_interval Le e k i j = refl
plain_interval Gt e k i j = refl
plain_interval Ge e k i j = refl
plain_interval _ e k i j = absurd (cc)

plain_sound : (op : Binary) → is_plain op ≡ true → (k : Option Kind) (i : Interval) → is_sound_two op k i ≡ is_small i
plain_sound Iff e k i = refl
plain_sound Implies e k i = refl
plain_sound Or e k i = refl
plain_sound Xor e k i = refl
plain_sound And e k i = refl
plain_sound Eq e k i = refl
plain_sound Ne e k i = refl
plain_sound Lt e k i = refl
plain_sound Le e k i = refl
plain_sound Gt e k i = refl
plain_sound Ge e k i = refl
plain_sound _ e k i = absurd (cc)

plain_logical : (op : Binary) → is_logical op ≡ true → is_plain op ≡ true
plain_logical op e = ap (λ b. b || (is_bitwise op || (is_equation op || is_order op))) e

plain_bitwise : (op : Binary) → is_bitwise op ≡ true → is_plain op ≡ true
plain_bitwise op e = grind (arith, e)

plain_equation : (op : Binary) → is_equation op ≡ true → is_plain op ≡ true
plain_equation op e = grind (arith, e)

plain_order : (op : Binary) → is_order op ≡ true → is_plain op ≡ true
plain_order op e = grind (arith, e)

-- a bound that holds leaves the interval as it is
within_bound : (b : Bool) (i : Interval) (z : ℤ) → b ≡ true → Lies i z → Lies (sound_or_nought b i) z
within_bound true i z e h = h
within_bound false i z e h = absurd (cc)

-- the value of an expression of that kind: its interval holds it, it is small, and bits have their width
pub record Sound (k : Kind) (i : Interval) (z : ℤ) : Type 0 where
  pub kind_sound : IsSoundKind k
  pub inside : Lies i z
  pub small : IsSmall z
  pub as_bits : is_numeric k ≡ false → Lies (kind_interval (Some k)) z

-- what lies in the interval of its kind
of_bits_kind : (k : Kind) (i : Interval) (z : ℤ) → IsSoundKind k → Lies i z → Lies (kind_interval (Some k)) z → Sound k i z
of_bits_kind k i z s h j = record { kind_sound = s; inside = h; small = small_in (kind_interval (Some k)) z (kind_small k s) j; as_bits = λ _. j }

of_number_kind : (i : Interval) (z : ℤ) → Lies i z → IsSmall z → Sound numeric i z
of_number_kind i z h s = record { kind_sound = tt; inside = h; small = s; as_bits = λ e. absurd (cc) }

plain_lies : (op : Binary) (o : Option Kind) (k : Kind) (i j : Interval) (z : ℤ) → is_plain op ≡ true → o ≡ Some k → IsSoundKind k → Lies (kind_interval (Some k)) z
    → Lies (sound_or_nought (is_sound_two op o (two_interval op o i j)) (two_interval op o i j)) z
plain_lies op o k i j z e f s h =
    let p : two_interval op o i j ≡ kind_interval (Some k) = plain_interval op e o i j ∙ ap kind_interval f in
    rw (plain_sound op e o (two_interval op o i j), p, kind_small k s) h

plain_value : (op : Binary) (o : Option Kind) (k : Kind) (i j : Interval) (z : ℤ) → is_plain op ≡ true → o ≡ Some k → IsSoundKind k → Lies (kind_interval (Some k)) z
    → Sound k (sound_or_nought (is_sound_two op o (two_interval op o i j)) (two_interval op o i j)) z
plain_value op o k i j z e f s h = of_bits_kind k _ z s (plain_lies op o k i j z e f s h) h

inside_lies : (i j : Interval) (z : ℤ) → is_inside i j ≡ true → Lies i z → Lies j z
inside_lies i j z e h =
    let f = and_parts (int_le j.low i.low) (int_le i.high j.high) e in
    let low : j.low ≤ℤ i.low = grind (arith, ints, f.0) in
    let high : i.high ≤ℤ j.high = grind (arith, ints, f.1) in
    record { above = omega (arith, ints, h.above); below = omega (arith, ints, h.below) }

chosen : (P : ℤ → Type 0) (b : Bool) (x y : ℤ) → P x → P y → P (if b then y else x)
chosen P true x y p q = q
chosen P false x y p q = p

-- of a choice, either side
choice_value : (k : Kind) (i j : Interval) (b : Bool) (x y : ℤ) → Sound k i x → Sound k j y → Sound k (hull i j) (if b then y else x)
choice_value k i j b x y p q = record {
  kind_sound = p.kind_sound;
  inside = chosen (Lies (hull i j)) b x y (hull_left i j x p.inside) (hull_right i j y q.inside);
  small = chosen IsSmall b x y p.small q.small;
  as_bits = λ e. chosen (Lies (kind_interval (Some k))) b x y (p.as_bits e) (q.as_bits e);
}

slice_width_is : (high low n : ℕ) → high < n → low ≤ high → n ≤ 32 → (slice_width high low ≡ high - low + 1) × IsSoundKind (vector (slice_width high low))
slice_width_is high low n h j k =
    let e : slice_width high low ≡ high - low + 1 = grind (arith, nat_tests) in
    (e, subst (λ m. IsSoundKind (vector m)) (sym e) (omega arith, omega arith))

module _ (vs : Vars) (env : Values) (types : have_sound_types vs ≡ true) (fits : Fits vs env) where
  -- an element of a variable
  element_value : (x : ℕ) (k : Kind) (n : ℤ) → x < length vs → k ≡ kind_of_base (base_of vs x) → Sound k (range_of vs x) (element_at (elements_in env x) n)
  element_value x k n h e =
      let s = sound_base_at vs x types in
      let r = range_at vs x types h in
      let z : Lies (range_of vs x) (pos 0) = rw r (base_has_zero (base_of vs x) s) in
      let l = element_lies (range_of vs x) (elements_in env x) n z (fits.ranges x h) in
      let m : Lies (base_interval (base_of vs x)) (element_at (elements_in env x) n) = subst (λ i. Lies i (element_at (elements_in env x) n)) r l in
      subst (λ k. Sound k (range_of vs x) (element_at (elements_in env x) n)) (sym e) (record {
        kind_sound = sound_kind_of_base (base_of vs x) s;
        inside = l;
        small = base_small (base_of vs x) _ s m;
        as_bits = λ f. base_bits (base_of vs x) _ s f m;
      })

  pub sound : (t : Tree ℕ) (k : Kind) → Typed vs t k → Sound k (interval vs t) (value vs env t)
  sound _ _ (of_truth b p) =
      let l = bool_lies b in
      of_bits_kind boolean (only (of_bool b)) (of_bool b) tt (record { above = omega (arith, ints); below = omega (arith, ints) }) l
  sound _ _ (of_number n p h) =
      let e : nat_le n (2 ^ 62) ≡ true = grind (arith, nat_tests) in
      of_number_kind _ _ (within_bound _ _ _ e (record { above = omega (arith, ints); below = omega (arith, ints) })) (record { from = omega (arith, ints); upto = omega (arith, ints) })
  sound _ _ (of_bits w n p low high h) =
      let e : are_sound_bits w n ≡ true = grind (arith, nat_tests) in
      of_bits_kind (vector w) _ _ (low, high) (within_bound _ _ _ e (record { above = omega (arith, ints); below = omega (arith, ints) })) (record { above = omega (arith, ints); below = omega (arith, ints, h) })
  sound _ _ (of_named x p k h a e) = element_value x k (pos 0) h e
  sound _ _ (of_element x i p k h a t e) = element_value x k (value vs env i) h e
  sound _ _ (of_not a p k t e) =
      let q = sound a k t in
      let c : complement (kind vs a) (value vs env a) ≡ complement (Some k) (value vs env a) = ap (λ o. complement o (value vs env a)) (kind_is vs a k t) in
      let l : Lies (kind_interval (Some k)) (complement (kind vs a) (value vs env a)) = rw c (complement_lies k e (value vs env a) (q.as_bits e)) in
      let o = kind_is vs (one Not a p) k (of_not a p k t e) in
      let i : kind_interval (kind vs (one Not a p)) ≡ kind_interval (Some k) = ap kind_interval o in
      let m : is_small (kind_interval (kind vs (one Not a p))) ≡ true = ap is_small i ∙ kind_small k q.kind_sound in
      of_bits_kind k _ _ q.kind_sound (within_bound _ _ _ m (subst (λ j. Lies j (complement (kind vs a) (value vs env a))) (sym i) l)) l
  sound _ _ (of_neg a p t h) =
      let q = sound a numeric t in
      let l = negated_lies (interval vs a) (value vs env a) q.inside in
      of_number_kind _ _ (within_bound _ _ _ h l) (small_in _ _ h l)
  sound _ _ (of_logical op a b p e t u) =
      plain_value op _ boolean _ _ _ (plain_logical op e) (kind_is vs _ boolean (of_logical op a b p e t u)) tt (truth_lies op (grind (arith, e)) _ (value vs env a) (value vs env b))
  sound _ _ (of_bitwise op a b p k e f t u) =
      let q = sound a k t in
      let r = sound b k u in
      plain_value op _ k _ _ _ (plain_bitwise op e) (kind_is vs _ k (of_bitwise op a b p k e f t u)) q.kind_sound (bitwise_lies op k e f _ (value vs env a) (value vs env b) (q.as_bits f) (r.as_bits f))
  sound _ _ (of_equation op a b p k e t u) =
      plain_value op _ boolean _ _ _ (plain_equation op e) (kind_is vs _ boolean (of_equation op a b p k e t u)) tt (truth_lies op (grind (arith, e)) _ (value vs env a) (value vs env b))
  sound _ _ (of_order op a b p e t u) =
      plain_value op _ boolean _ _ _ (plain_order op e) (kind_is vs _ boolean (of_order op a b p e t u)) tt (truth_lies op (grind (arith, e)) _ (value vs env a) (value vs env b))
  sound _ _ (of_cat a b p m n low high t u) =
      let q = sound a (vector m) t in
      let r = sound b (vector n) u in
      let w : width_in (kind vs b) ≡ n = ap width_in (kind_is vs b (vector n) u) in
      let l : Lies (kind_interval (Some (vector (m + n)))) (joined (width_in (kind vs b)) (value vs env a) (value vs env b)) =
      rw w (cat_lies m n (value vs env a) (value vs env b) (q.as_bits refl) (r.as_bits refl)) in
      let o = kind_is vs (two Cat a b p) (vector (m + n)) (of_cat a b p m n low high t u) in
      let i : kind_interval (kind vs (two Cat a b p)) ≡ kind_interval (Some (vector (m + n))) = ap kind_interval o in
      let s : is_sound_width (kind vs (two Cat a b p)) ≡ true = ap is_sound_width o ∙ (grind (arith, nat_tests)) in
      of_bits_kind (vector (m + n)) _ _ (low, high) (within_bound _ _ _ s (subst (λ j. Lies j (joined (width_in (kind vs b)) (value vs env a) (value vs env b))) (sym i) l)) l
  sound _ _ (of_arithmetic op a b p e h t u) =
      let q = sound a numeric t in
      let r = sound b numeric u in
      let o = kind vs (two op a b p) in
      let g : is_small (two_interval op o (interval vs a) (interval vs b)) ≡ true = ap is_small (arithmetic_any op e o (Some numeric) (interval vs a) (interval vs b)) ∙ h in
      let l = arithmetic_lies op e o (interval vs a) (interval vs b) (width_in (kind vs b)) (value vs env a) (value vs env b) q.inside r.inside in
      of_number_kind _ _ (within_bound _ _ _ (arithmetic_sound op e o _ ∙ g) l) (small_in _ _ g l)
  sound _ _ (of_choice c a b p k s t u) = choice_value k _ _ (is_zero (value vs env c)) _ _ (sound a k t) (sound b k u)
  sound _ _ (of_bit a high n p t h) =
      let e : high - high + 1 ≡ 1 = omega arith in
      let l : Lies (kind_interval (Some boolean)) (bits_of (value vs env a) high high) = subst (λ m. Lies (span (pos 0) (pos (2 ^ m - 1))) (bits_of (value vs env a) high high)) e (slice_lies (value vs env a) high high) in
      let w : width_in (kind vs a) ≡ n = ap width_in (kind_is vs a (vector n) t) in
      let s : is_sound_slice (width_in (kind vs a)) high None ≡ true = ap (λ n. is_sound_slice n high None) w ∙ (grind (arith, nat_tests)) in
      let o : kind_interval (kind vs (slice a high None p)) ≡ kind_interval (Some boolean) = ap kind_interval (kind_is vs _ boolean (of_bit a high n p t h)) in
      of_bits_kind boolean _ _ tt (within_bound _ _ _ s (subst (λ j. Lies j (bits_of (value vs env a) high high)) (sym o) l)) l
  sound _ _ (of_slice a high low n p t h j) =
      let q = sound a (vector n) t in
      let m = slice_width_is high low n h j q.kind_sound.1 in
      let l : Lies (kind_interval (Some (vector (slice_width high low)))) (bits_of (value vs env a) high low) =
      subst (λ m. Lies (span (pos 0) (pos (2 ^ m - 1))) (bits_of (value vs env a) high low)) (sym m.0) (slice_lies (value vs env a) high low) in
      let w : width_in (kind vs a) ≡ n = ap width_in (kind_is vs a (vector n) t) in
      let s : is_sound_slice (width_in (kind vs a)) high (Some low) ≡ true = ap (λ n. is_sound_slice n high (Some low)) w ∙ (grind (arith, nat_tests)) in
      let o : kind_interval (kind vs (slice a high (Some low) p)) ≡ kind_interval (Some (vector (slice_width high low))) = ap kind_interval (kind_is vs _ _ (of_slice a high low n p t h j)) in
      of_bits_kind (vector (slice_width high low)) _ _ m.1 (within_bound _ _ _ s (subst (λ j. Lies j (bits_of (value vs env a) high low)) (sym o) l)) l
  sound _ _ (of_to_nat a n p t) =
      let q = sound a (vector n) t in
      let o : kind_interval (kind vs a) ≡ kind_interval (Some (vector n)) = ap kind_interval (kind_is vs a (vector n) t) in
      of_number_kind _ _ (subst (λ j. Lies j (value vs env a)) (sym o) (q.as_bits refl)) q.small
  sound _ _ (of_to_bv a n q p t low high h) =
      let r = sound a numeric t in
      let l = inside_lies (interval vs a) (bits_interval n) (value vs env a) h r.inside in
      let s : (is_sound_target n && is_inside (interval vs a) (bits_interval n)) ≡ true = grind (arith, nat_tests, h) in
      of_bits_kind (vector n) _ _ (low, high) (within_bound _ _ _ s l) l
  sound _ _ (of_paren a p k t) = sound a k t

-- ---- evaluation

-- an operator that asks nothing of its parts' signs
abbrev is_free : Binary → Bool
is_free op = is_logical op || (is_equation op || (is_order op || is_arithmetic op))

suits_free : (op : Binary) → is_free op ≡ true → (n : ℕ) (x y : ℤ) → Suits op n x y
suits_free Or e n x y = absurd (cc)
suits_free Xor e n x y = absurd (cc)
suits_free And e n x y = absurd (cc)
suits_free Cat e n x y = absurd (cc)
suits_free _ e n x y = tt

suits_bitwise : (op : Binary) → is_bitwise op ≡ true → (n : ℕ) (x y : ℤ) → pos 0 ≤ℤ x → pos 0 ≤ℤ y → Suits op n x y
suits_bitwise Or e n x y h j = (h, j)
suits_bitwise Xor e n x y h j = (h, j)
suits_bitwise And e n x y h j = (h, j)
suits_bitwise _ e n x y h j = absurd (cc)

width_small : (k : Kind) → IsSoundKind k → width_in (Some k) ≤ 32
width_small boolean s = omega arith
width_small numeric s = omega arith
width_small (vector n) s = s.1

module _ (vs : Vars) (env : Values) (types : have_sound_types vs ≡ true) (fits : Fits vs env) where
  narrow : (t : Tree ℕ) (k : Kind) → Typed vs t k → width_in (kind vs t) ≤ 32
  narrow t k d = subst (λ o. width_in o ≤ 32) (sym (kind_is vs t k d)) (width_small k (sound vs env types fits t k d).kind_sound)

  -- the value of bits isn't negative
  signless : (t : Tree ℕ) (k : Kind) → Typed vs t k → is_numeric k ≡ false → pos 0 ≤ℤ value vs env t
  signless t k d e = not_negative k (value vs env t) ((sound vs env types fits t k d).as_bits e)

  two_computable : (op : Binary) (a b : Tree ℕ) (p : Place) (k l m : Kind) → Typed vs (two op a b p) m → Typed vs a k → Typed vs b l
      → IsComputable vs env a → IsComputable vs env b → Suits op (width_in (kind vs b)) (value vs env a) (value vs env b) → IsComputable vs env (two op a b p)
  two_computable op a b p k l m d t u f g s = (f, g, (sound vs env types fits a k t).small, (sound vs env types fits b l u).small, (sound vs env types fits (two op a b p) m d).small, s)

  computable : (t : Tree ℕ) (k : Kind) → Typed vs t k → IsComputable vs env t
  computable _ _ (of_truth b p) = tt
  computable _ _ (of_number n p h) = h
  computable _ _ (of_bits w n p low high h) = let g = power_small w high in omega (arith, h, g)
  computable _ _ (of_named x p k h a e) = tt
  computable _ _ (of_element x i p k h a t e) = computable i numeric t
  computable _ _ (of_not a p k t e) = (computable a k t, (sound vs env types fits a k t).small, narrow a k t)
  computable _ _ (of_neg a p t h) = (computable a numeric t, (sound vs env types fits a numeric t).small, narrow a numeric t)
  computable _ _ (of_logical op a b p e t u) =
      two_computable op a b p _ _ _ (of_logical op a b p e t u) t u (computable a boolean t) (computable b boolean u) (suits_free op (grind (arith, e)) _ (value vs env a) (value vs env b))
  computable _ _ (of_bitwise op a b p k e f t u) =
      two_computable op a b p _ _ _ (of_bitwise op a b p k e f t u) t u (computable a k t) (computable b k u) (suits_bitwise op e _ (value vs env a) (value vs env b) (signless a k t f) (signless b k u f))
  computable _ _ (of_equation op a b p k e t u) =
      two_computable op a b p _ _ _ (of_equation op a b p k e t u) t u (computable a k t) (computable b k u) (suits_free op (grind (arith, e)) _ (value vs env a) (value vs env b))
  computable _ _ (of_order op a b p e t u) =
      two_computable op a b p _ _ _ (of_order op a b p e t u) t u (computable a numeric t) (computable b numeric u) (suits_free op (grind (arith, e)) _ (value vs env a) (value vs env b))
  computable _ _ (of_cat a b p m n low high t u) =
      two_computable Cat a b p _ _ _ (of_cat a b p m n low high t u) t u (computable a (vector m) t) (computable b (vector n) u) (narrow b (vector n) u, signless a (vector m) t refl, signless b (vector n) u refl)
  computable _ _ (of_arithmetic op a b p e h t u) =
      two_computable op a b p _ _ _ (of_arithmetic op a b p e h t u) t u (computable a numeric t) (computable b numeric u) (suits_free op (grind (arith, e)) _ (value vs env a) (value vs env b))
  computable _ _ (of_choice c a b p k s t u) = (computable c boolean s, computable a k t, computable b k u)
  computable _ _ (of_bit a high n p t h) =
      let n_most = (sound vs env types fits a (vector n) t).kind_sound.1 in
      (computable a (vector n) t, signless a (vector n) t refl, omega (arith, h, n_most), omega arith)
  computable _ _ (of_slice a high low n p t h j) =
      let n_most = (sound vs env types fits a (vector n) t).kind_sound.1 in
      (computable a (vector n) t, signless a (vector n) t refl, omega (arith, h, n_most), j)
  computable _ _ (of_to_nat a n p t) = computable a (vector n) t
  computable _ _ (of_to_bv a n q p t low high h) = computable a numeric t
  computable _ _ (of_paren a p k t) = computable a k t

-- a typed expression can be evaluated under an environment that fits
pub computable_of : (vs : Vars) (env : Values) (t : Tree ℕ) → AreSound vs → IsTyped vs t → Fits vs env → IsComputable vs env t
computable_of vs env t s ty f = let d = typed_of vs t ty.over ty.written ty.kinds ty.bounds in computable vs env s.types f t d.0 d.2

-- and its value lies in its interval
pub within : (vs : Vars) (env : Values) (t : Tree ℕ) → AreSound vs → IsTyped vs t → Fits vs env → Lies (interval vs t) (value vs env t)
within vs env t s ty f = let d = typed_of vs t ty.over ty.written ty.kinds ty.bounds in (sound vs env s.types f t d.0 d.2).inside
