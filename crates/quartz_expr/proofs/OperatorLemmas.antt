-- What an operator gives lies in the interval that its parts' intervals give.
use Rattle.std.proofs.Common.{◌≡◌, ℕ, zero, suc, ◌+◌, ◌-◌, ◌*◌, ◌/◌, ◌%◌, ◌^◌, ◌<◌, ◌≤◌, ℤ, pos, negsuc, ◌+ℤ◌, ◌-ℤ◌, ◌*ℤ◌, neg_ℤ, ◌≤ℤ◌, Bool, true, false, List, [], ◌∷◌, refl, arith}
use Rattle.std.proofs.lemmas.Int.{ints, clamps}
use Rattle.std.proofs.lemmas.Bool.Decides.{nat_tests}
use Rattle.std.specs.Int.RustNames.{int_div, unsigned_abs, bit_and, bit_or, bit_xor}
use Rattle.std.specs.Int.{int_min, int_max}
use Rattle.std.proofs.Math.Nat.{div-le_self, mod-le, mod-lt, one-le-pow, mul-le-mul_right, mul-le-mul_left, div-mul-le_self, mul_comm}
use Rattle.std.proofs.Math.IntN.{*ℤ_comm}
use Rattle.std.proofs.lemmas.Nat.{and_le_l, or_lt, xor_lt, le-div, pow-add, mul-add-lt}
use Rattle.std.specs.Prelude.{slice_get, unwrap_or, if◌then◌else◌, int_le, ◌&&◌, ◌==◌}
use Rattle.quartz_expr.specs.Values.{is_zero, of_bool, element_at}
use Rattle.quartz_expr.specs.Value.{quotient, remainder, by_bits, joined, bits_of}
use Rattle.quartz_expr.specs.Intervals.{Interval, span, only, nought, Lies, hull, size_of, from_ends, sum_interval, difference_interval, product_interval, quotient_interval, remainder_interval}
use Rattle.quartz_expr.specs.Typed.{AllLie}

pub sum_lies : (a b : Interval) (x y : ℤ) → Lies a x → Lies b y → Lies (sum_interval a b) (x +ℤ y)
sum_lies a b x y h k = record { above = omega (arith, ints, h.above, k.above); below = omega (arith, ints, h.below, k.below) }

pub difference_lies : (a b : Interval) (x y : ℤ) → Lies a x → Lies b y → Lies (difference_interval a b) (x -ℤ y)
difference_lies a b x y h k = record { above = omega (arith, ints, h.above, k.below); below = omega (arith, ints, h.below, k.above) }

pub negated_lies : (a : Interval) (x : ℤ) → Lies a x → Lies (span (neg_ℤ a.high) (neg_ℤ a.low)) (neg_ℤ x)
negated_lies a x h = record { above = omega (arith, ints, h.below); below = omega (arith, ints, h.above) }

pub hull_left : (a b : Interval) (x : ℤ) → Lies a x → Lies (hull a b) x
hull_left a b x h = record { above = omega (arith, ints, clamps, h.above); below = omega (arith, ints, clamps, h.below) }

pub hull_right : (a b : Interval) (x : ℤ) → Lies b x → Lies (hull a b) x
hull_right a b x h = record { above = omega (arith, ints, clamps, h.above); below = omega (arith, ints, clamps, h.below) }

size_bounds : (a : Interval) (x : ℤ) → Lies a x → unsigned_abs x ≤ size_of a
size_bounds a x h = omega (arith, ints, h.above, h.below)

-- ---- products

crossed : (m n : ℕ) → neg_ℤ (pos m) ≤ℤ pos n
crossed m n = omega (arith, ints)

product_grows : (x y : ℤ) (k : ℕ) → x ≤ℤ y → (x *ℤ pos k) ≤ℤ (y *ℤ pos k)
product_grows (pos a) (pos b) k h = let le : a ≤ b = omega (arith, ints, h) in let m : a * k ≤ b * k = mul-le-mul_right k le in omega (arith, ints, m)
product_grows (pos a) (negsuc b) k h = absurd (omega (arith, ints, h))
product_grows (negsuc a) (pos b) k h = crossed (suc a * k) (b * k)
product_grows (negsuc a) (negsuc b) k h = let le : suc b ≤ suc a = omega (arith, ints, h) in let m : suc b * k ≤ suc a * k = mul-le-mul_right k le in omega (arith, ints, m)

product_falls : (x y : ℤ) (k : ℕ) → x ≤ℤ y → (y *ℤ negsuc k) ≤ℤ (x *ℤ negsuc k)
product_falls (pos a) (pos b) k h = let le : a ≤ b = omega (arith, ints, h) in let m : a * suc k ≤ b * suc k = mul-le-mul_right (suc k) le in omega (arith, ints, m)
product_falls (pos a) (negsuc b) k h = absurd (omega (arith, ints, h))
product_falls (negsuc a) (pos b) k h = crossed (b * suc k) (suc a * suc k)
product_falls (negsuc a) (negsuc b) k h = let le : suc b ≤ suc a = omega (arith, ints, h) in let m : suc b * suc k ≤ suc a * suc k = mul-le-mul_right (suc k) le in omega (arith, ints, m)

-- a number between x and y in one of the two orders
pub Between : (x y z : ℤ) → Type 0
Between x y z = Lies (hull (only x) (only y)) z

between_up : (x y z : ℤ) → x ≤ℤ z → z ≤ℤ y → Between x y z
unfolding Between
between_up x y z p q = record { above = omega (arith, ints, clamps); below = omega (arith, ints, clamps) }

between_down : (x y z : ℤ) → y ≤ℤ z → z ≤ℤ x → Between x y z
unfolding Between
between_down x y z p q = record { above = omega (arith, ints, clamps); below = omega (arith, ints, clamps) }

product_by_one : (l h x y : ℤ) → l ≤ℤ x → x ≤ℤ h → Between (l *ℤ y) (h *ℤ y) (x *ℤ y)
product_by_one l h x (pos k) p q = between_up _ _ _ (product_grows l x k p) (product_grows x h k q)
product_by_one l h x (negsuc k) p q = between_down _ _ _ (product_falls x h k q) (product_falls l x k p)

product_of_one : (l m n y : ℤ) → m ≤ℤ y → y ≤ℤ n → Between (l *ℤ m) (l *ℤ n) (l *ℤ y)
product_of_one l m n y p q = rw (*ℤ_comm l m, *ℤ_comm l n, *ℤ_comm l y) (product_by_one m n y l p q)

-- between the ends, each of which lies between two of the four
pub ends_lie : (ll lh hl hh l h z : ℤ) → Between ll lh l → Between hl hh h → Between l h z → Lies (hull (hull (only ll) (only lh)) (hull (only hl) (only hh))) z
unfolding Between
ends_lie ll lh hl hh l h z p q r = record { above = omega (arith, ints, clamps, p.above, q.above, r.above); below = omega (arith, ints, clamps, p.below, q.below, r.below) }

pub product_lies : (a b : Interval) (x y : ℤ) → Lies a x → Lies b y → Lies (product_interval a b) (x *ℤ y)
product_lies a b x y h k =
    ends_lie _ _ _ _ (a.low *ℤ y) (a.high *ℤ y) _ (product_of_one a.low b.low b.high y k.above k.below) (product_of_one a.high b.low b.high y k.above k.below) (product_by_one a.low a.high x y h.above h.below)

-- ---- quotients

div_grows : (a b k : ℕ) → 0 < k → a ≤ b → a / k ≤ b / k
div_grows a b k p h = le-div (a / k) b k p (omega (arith, div-mul-le_self a k))

div_falls : (a m n : ℕ) → 0 < m → m ≤ n → a / n ≤ a / m
div_falls a m n p h = let le : a / n * m ≤ a / n * n = mul-le-mul_left (a / n) h in le-div (a / n) a m p (omega (arith, div-mul-le_self a n))

quotient_grows : (x y : ℤ) (k : ℕ) → 0 < k → x ≤ℤ y → int_div x (pos k) ≤ℤ int_div y (pos k)
quotient_grows (pos a) (pos b) k p h = let le = div_grows a b k p (omega (arith, ints, h)) in omega (arith, ints, le)
quotient_grows (pos a) (negsuc b) k p h = absurd (omega (arith, ints, h))
quotient_grows (negsuc a) (pos b) k p h = crossed (suc a / k) (b / k)
quotient_grows (negsuc a) (negsuc b) k p h = let le = div_grows (suc b) (suc a) k p (omega (arith, ints, h)) in omega (arith, ints, le)

quotient_by_one : (l h x : ℤ) (k : ℕ) → 0 < k → l ≤ℤ x → x ≤ℤ h → Between (int_div l (pos k)) (int_div h (pos k)) (int_div x (pos k))
quotient_by_one l h x k p a b = between_up _ _ _ (quotient_grows l x k p a) (quotient_grows x h k p b)

quotient_of_one : (l : ℤ) (m k n : ℕ) → 0 < m → m ≤ k → k ≤ n → Between (int_div l (pos m)) (int_div l (pos n)) (int_div l (pos k))
quotient_of_one (pos a) m k n p h j = let s = div_falls a m k p h in let t = div_falls a k n (omega arith) j in between_down _ _ _ (omega (arith, ints, t)) (omega (arith, ints, s))
quotient_of_one (negsuc a) m k n p h j = let s = div_falls (suc a) m k p h in let t = div_falls (suc a) k n (omega arith) j in between_up _ _ _ (omega (arith, ints, s)) (omega (arith, ints, t))

quotient_small : (x y : ℤ) → unsigned_abs (int_div x y) ≤ unsigned_abs x
quotient_small (pos a) (pos b) = omega (arith, ints, div-le_self a b)
quotient_small (pos a) (negsuc b) = omega (arith, ints, div-le_self a (suc b))
quotient_small (negsuc a) (pos b) = omega (arith, ints, div-le_self (suc a) b)
quotient_small (negsuc a) (negsuc b) = omega (arith, ints, div-le_self (suc a) (suc b))

within_size : (n : ℕ) (z : ℤ) → unsigned_abs z ≤ n → Lies (span (neg_ℤ (pos n)) (pos n)) z
within_size n z h = record { above = omega (arith, ints); below = omega (arith, ints) }

quotient_by_any : (a : Interval) (x y : ℤ) → Lies a x → Lies (span (neg_ℤ (pos (size_of a))) (pos (size_of a))) (quotient x y)
quotient_by_any a x y h = within_size (size_of a) (quotient x y) (at (is_zero y))
  where
    at : (b : Bool) → unsigned_abs (if b then pos 0 else int_div x y) ≤ size_of a
    at true = omega (arith, ints)
    at false = omega (arith, quotient_small x y, size_bounds a x h)

-- by a divisor that is at least 1
quotient_from_one : (a b : Interval) (x y : ℤ) → int_le (pos 1) b.low ≡ true → Lies a x → Lies b y → Lies (from_ends int_div a b) (quotient x y)
quotient_from_one a b x (negsuc k) e h j = absurd (grind (arith, ints, e, j.above))
quotient_from_one a b x (pos k) e h j = at a b x k (low b.low e) e h j
  where
    low : (z : ℤ) → int_le (pos 1) z ≡ true → pos 1 ≤ℤ z
    low z e = grind (arith, ints, e)

    by_positive : (a : Interval) (m n k : ℕ) (x : ℤ) → 0 < m → m ≤ k → k ≤ n → Lies a x → Lies (from_ends int_div a (span (pos m) (pos n))) (int_div x (pos k))
    by_positive a m n k x p s t h =
        ends_lie _ _ _ _ (int_div a.low (pos k)) (int_div a.high (pos k)) _ (quotient_of_one a.low m k n p s t) (quotient_of_one a.high m k n p s t) (quotient_by_one a.low a.high x k (omega arith) h.above h.below)

    whole : (x : ℤ) (k : ℕ) → 0 < k → quotient x (pos k) ≡ int_div x (pos k)
    whole x zero p = absurd (omega arith)
    whole x (suc k) p = refl

    at : (a b : Interval) (x : ℤ) (k : ℕ) → pos 1 ≤ℤ b.low → int_le (pos 1) b.low ≡ true → Lies a x → Lies b (pos k) → Lies (from_ends int_div a b) (quotient x (pos k))
    at a b x k f e h j = cases b.low b.high f j.above j.below
      where
        cases : (m n : ℤ) → pos 1 ≤ℤ m → m ≤ℤ pos k → pos k ≤ℤ n → Lies (from_ends int_div a (span m n)) (quotient x (pos k))
        cases (negsuc m) n f p q = absurd (omega (arith, ints, f))
        cases (pos m) (negsuc n) f p q = absurd (omega (arith, ints, q))
        cases (pos m) (pos n) f p q =
            let s : 0 < k = omega (arith, ints) in
            rw (whole x k s) (by_positive a m n k x (omega (arith, ints)) (omega (arith, ints)) (omega (arith, ints)) h)

-- of numbers that aren't negative
quotient_from_zero : (a : Interval) (x y : ℤ) → int_le (pos 0) a.low ≡ true → (m : ℤ) → int_le (pos 0) m ≡ true → m ≤ℤ y → Lies a x → Lies (span (pos 0) a.high) (quotient x y)
quotient_from_zero a x (negsuc k) e m f p h = absurd (grind (arith, ints, f, p))
quotient_from_zero a (negsuc n) (pos k) e m f p h = absurd (grind (arith, ints, e, h.above))
quotient_from_zero a (pos n) (pos zero) e m f p h = record { above = omega (arith, ints); below = omega (arith, ints, h.below) }
quotient_from_zero a (pos n) (pos (suc k)) e m f p h = let le = div-le_self n (suc k) in record { above = omega (arith, ints); below = omega (arith, ints, h.below, le) }

pub quotient_lies : (a b : Interval) (x y : ℤ) → Lies a x → Lies b y → Lies (quotient_interval a b) (quotient x y)
quotient_lies a b x y h k = cases (int_le (pos 1) b.low) (int_le (pos 0) a.low) (int_le (pos 0) b.low) refl refl refl
  where
    cases : (s t u : Bool) → int_le (pos 1) b.low ≡ s → int_le (pos 0) a.low ≡ t → int_le (pos 0) b.low ≡ u
        → Lies (if s then from_ends int_div a b else (if t && u then span (pos 0) a.high else span (neg_ℤ (pos (size_of a))) (pos (size_of a)))) (quotient x y)
    cases true t u e f g = quotient_from_one a b x y e h k
    cases false true true e f g = quotient_from_zero a x y f b.low g k.above h
    cases false true false e f g = quotient_by_any a x y h
    cases false false u e f g = quotient_by_any a x y h

-- ---- remainders

-- the remainder is nearer to 0 than the dividend and than the divisor, and has the dividend's sign
remainder_of_pos : (a : ℕ) (y : ℤ) (n : ℕ) → unsigned_abs y ≤ n → (r : ℕ) × (remainder (pos a) y ≡ pos r) × (r ≤ a) × (r ≤ n - 1)
remainder_of_pos a (pos zero) n h = (0, refl, omega arith, omega arith)
remainder_of_pos a (pos (suc k)) n h = (a % suc k, refl, mod-le a (suc k), omega (arith, ints, h, mod-lt a {m = suc k} (omega arith)))
remainder_of_pos a (negsuc k) n h = (a % suc k, refl, mod-le a (suc k), omega (arith, ints, h, mod-lt a {m = suc k} (omega arith)))

remainder_of_neg : (a : ℕ) (y : ℤ) (n : ℕ) → unsigned_abs y ≤ n → (r : ℕ) × (remainder (negsuc a) y ≡ neg_ℤ (pos r)) × (r ≤ suc a) × (r ≤ n - 1)
remainder_of_neg a (pos zero) n h = (0, refl, omega arith, omega arith)
remainder_of_neg a (pos (suc k)) n h = (suc a % suc k, refl, mod-le (suc a) (suc k), omega (arith, ints, h, mod-lt (suc a) {m = suc k} (omega arith)))
remainder_of_neg a (negsuc k) n h = (suc a % suc k, refl, mod-le (suc a) (suc k), omega (arith, ints, h, mod-lt (suc a) {m = suc k} (omega arith)))

abbrev remainders : Interval → ℕ → Interval
remainders a n = span (neg_ℤ (int_min (int_max (pos 0) (neg_ℤ a.low)) (pos (n - 1)))) (int_min (int_max (pos 0) a.high) (pos (n - 1)))

remainder_within : (a : Interval) (x y : ℤ) (n : ℕ) → unsigned_abs y ≤ n → Lies a x → Lies (remainders a n) (remainder x y)
remainder_within a (pos x) y n h k =
    let r = remainder_of_pos x y n h in
    rw (r.1) (record { above = omega (arith, ints, clamps, k.above, k.below, r.2, r.3); below = omega (arith, ints, clamps, k.above, k.below, r.2, r.3) })
remainder_within a (negsuc x) y n h k =
    let r = remainder_of_neg x y n h in
    rw (r.1) (record { above = omega (arith, ints, clamps, k.above, k.below, r.2, r.3); below = omega (arith, ints, clamps, k.above, k.below, r.2, r.3) })

remainder_by_zero : (x y : ℤ) → unsigned_abs y ≤ 0 → remainder x y ≡ pos 0
remainder_by_zero x (pos zero) h = refl
remainder_by_zero x (pos (suc k)) h = absurd (omega (arith, h))
remainder_by_zero x (negsuc k) h = absurd (omega (arith, ints, h))

pub remainder_lies : (a b : Interval) (x y : ℤ) → Lies a x → Lies b y → Lies (remainder_interval a b) (remainder x y)
remainder_lies a b x y h k = cases (size_of b == 0) refl
  where
    cases : (s : Bool) → (size_of b == 0) ≡ s → Lies (if s then nought else remainders a (size_of b)) (remainder x y)
    cases true e = rw (remainder_by_zero x y (grind (arith, nat_tests, e, size_bounds b y k))) (record { above = omega (arith, ints); below = omega (arith, ints) })
    cases false e = remainder_within a x y (size_of b) (size_bounds b y k) h

-- ---- truth values and bits

pub bool_lies : (b : Bool) → Lies (span (pos 0) (pos 1)) (of_bool b)
bool_lies true = record { above = omega (arith, ints); below = omega (arith, ints) }
bool_lies false = record { above = omega (arith, ints); below = omega (arith, ints) }

below_power : (n : ℕ) (z : ℤ) → Lies (span (pos 0) (pos (2 ^ n - 1))) z → unsigned_abs z < 2 ^ n
below_power n z h = let p = one-le-pow n 2 (omega arith) in omega (arith, ints, h.above, h.below)

lies_below : (n m : ℕ) → m < 2 ^ n → Lies (span (pos 0) (pos (2 ^ n - 1))) (pos m)
lies_below n m h = record { above = omega (arith, ints); below = omega (arith, ints) }

pub and_lies : (n : ℕ) (x y : ℤ) → Lies (span (pos 0) (pos (2 ^ n - 1))) x → Lies (span (pos 0) (pos (2 ^ n - 1))) y → Lies (span (pos 0) (pos (2 ^ n - 1))) (by_bits bit_and x y)
and_lies n x y h k = lies_below n _ (omega (arith, and_le_l (unsigned_abs x) (unsigned_abs y), below_power n x h))

pub or_lies : (n : ℕ) (x y : ℤ) → Lies (span (pos 0) (pos (2 ^ n - 1))) x → Lies (span (pos 0) (pos (2 ^ n - 1))) y → Lies (span (pos 0) (pos (2 ^ n - 1))) (by_bits bit_or x y)
or_lies n x y h k = lies_below n _ (or_lt n (unsigned_abs x) (unsigned_abs y) (below_power n x h) (below_power n y k))

pub xor_lies : (n : ℕ) (x y : ℤ) → Lies (span (pos 0) (pos (2 ^ n - 1))) x → Lies (span (pos 0) (pos (2 ^ n - 1))) y → Lies (span (pos 0) (pos (2 ^ n - 1))) (by_bits bit_xor x y)
xor_lies n x y h k = lies_below n _ (xor_lt n (unsigned_abs x) (unsigned_abs y) (below_power n x h) (below_power n y k))

pub slice_lies : (a : ℤ) (high low : ℕ) → Lies (span (pos 0) (pos (2 ^ (high - low + 1) - 1))) (bits_of a high low)
slice_lies a high low = lies_below (high - low + 1) _ (mod-lt (unsigned_abs a / 2 ^ low) {m = 2 ^ (high - low + 1)} (one-le-pow (high - low + 1) 2 (omega arith)))

pub flipped_lies : (n : ℕ) (x : ℤ) → Lies (span (pos 0) (pos (2 ^ n - 1))) x → Lies (span (pos 0) (pos (2 ^ n - 1))) (pos (2 ^ n - 1) -ℤ x)
flipped_lies n x h = record { above = omega (arith, ints, h.above, h.below); below = omega (arith, ints, h.above, h.below) }

-- ---- elements

element_in : (i : Interval) (zs : List ℤ) (n : ℕ) → Lies i (pos 0) → AllLie i zs → Lies i (unwrap_or (slice_get zs n) (pos 0))
element_in i [] n z h = z
element_in i (x ∷ xs) zero z h = h.0
element_in i (x ∷ xs) (suc n) z h = element_in i xs n z h.1

pub element_lies : (i : Interval) (zs : List ℤ) (n : ℤ) → Lies i (pos 0) → AllLie i zs → Lies i (element_at zs n)
element_lies i zs (negsuc n) z h = z
element_lies i zs (pos n) z h = element_in i zs n z h

cat_below : (m n a b : ℕ) → a < 2 ^ m → b < 2 ^ n → a * 2 ^ n + b < 2 ^ (m + n)
cat_below m n a b h k = let p : 2 ^ (m + n) ≡ 2 ^ m * 2 ^ n = pow-add 2 m n in let q : a * 2 ^ n + b < 2 ^ n * 2 ^ m = mul-add-lt a (2 ^ n) b (2 ^ m) h k in rw (p, mul_comm (2 ^ m) (2 ^ n)) q

pub cat_lies : (m n : ℕ) (x y : ℤ) → Lies (span (pos 0) (pos (2 ^ m - 1))) x → Lies (span (pos 0) (pos (2 ^ n - 1))) y → Lies (span (pos 0) (pos (2 ^ (m + n) - 1))) (joined n x y)
cat_lies m n (pos a) (pos b) h k = lies_below (m + n) _ (cat_below m n a b (below_power m (pos a) h) (below_power n (pos b) k))
cat_lies m n (negsuc a) y h k = absurd (omega (arith, ints, h.above))
cat_lies m n (pos a) (negsuc b) h k = absurd (omega (arith, ints, k.above))
