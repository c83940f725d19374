-- Wrapping at 64 bits, and chains of trees.
use Rattle.std.proofs.Common.{◌≡◌, ℕ, zero, suc, ◌+◌, ◌-◌, ◌*◌, ◌/◌, ◌%◌, ◌^◌, ◌<◌, ◌≤◌, ℤ, pos, negsuc, ◌*ℤ◌, neg_ℤ, Bool, true, false, List, [], ◌∷◌, map, Option, Some, refl, sym, ap, ◌∙◌, arith}
use Rattle.std.specs.Prelude.{◌||◌, unwrap_or, if◌then◌else◌}
use Rattle.std.proofs.lemmas.Int.{ints, to_z-of_z, of_z-to_z, int_wrap-add_left, int_wrap-mul_right, SFits-int_wrap, wrapping_add_is, wrapping_mul_is, wrapping_neg_is}
use Rattle.std.specs.Int.{w64, int_wrap, int_wrapping_add, int_wrapping_mul, int_wrapping_neg, int_wrapping_div, cast_signed, cast_unsigned}
use Rattle.std.specs.Int.RustNames.{int_div, unsigned_abs, FitsSigned, bit_xor}
use Rattle.std.proofs.Math.Nat.{div-le_self, mul-mod_left, mod-eq_of_lt, div-eq_of_lt, one-le-pow, pow-le-pow_right}
use Rattle.std.proofs.lemmas.Nat.{pow-add, mod_below}
use Rattle.quartz_expr.specs.Values.{of_bool, is_zero}
use Rattle.quartz_expr.specs.Value.{quotient}
use Rattle.aif_cells.specs.Tree.{Tree, trees, cases, any}
use Rattle.aif_cells.specs.Worth.{Assignment, case_worth, holds, one_holds, worth, worths, wrapped, stacked, flipped, bits_between}

-- a number that is small enough wraps as its 64 bits say
pub wrap_cast : (z : ℤ) → unsigned_abs z < 18446744073709551616 → int_wrap w64 z ≡ cast_signed w64 (cast_unsigned w64 z)
unfolding int_wrap
wrap_cast (pos n) h = let e : n % 18446744073709551616 ≡ n = omega arith in ap (cast_signed w64) e
wrap_cast (negsuc n) h = let e : 18446744073709551616 - 1 - n % 18446744073709551616 ≡ 18446744073709551616 - suc n = omega arith in ap (cast_signed w64) e

-- what a natural number leaves
pub wrap_pos : (n : ℕ) → int_wrap w64 (pos n) ≡ cast_signed w64 (n % 18446744073709551616)
unfolding int_wrap
wrap_pos n = refl

pub quotient_small : (a b : ℤ) → unsigned_abs (int_div a b) ≤ unsigned_abs a
quotient_small (pos a) (pos b) = omega (arith, div-le_self a b)
quotient_small (pos a) (negsuc b) = omega (arith, ints, div-le_self a (suc b))
quotient_small (negsuc a) (pos b) = omega (arith, ints, div-le_self (suc a) b)
quotient_small (negsuc a) (negsuc b) = omega (arith, ints, div-le_self (suc a) (suc b))

fits_small : (a : ℤ) → FitsSigned w64 a → unsigned_abs a < 18446744073709551616
fits_small (pos n) f = omega (arith, f.sfits)
fits_small (negsuc n) f = omega (arith, f.sfits)

pub negated : (a r : ℤ) → FitsSigned w64 a → FitsSigned w64 r → r ≡ int_wrapping_neg w64 (cast_signed w64 (cast_unsigned w64 a)) → cast_signed w64 (cast_unsigned w64 r) ≡ wrapped (neg_ℤ a)
negated a r f g e = to_z-of_z w64 r g ∙ e ∙ ap (int_wrapping_neg w64) (to_z-of_z w64 a f) ∙ wrapping_neg_is w64 a f

pub divided : (a b r : ℤ) → FitsSigned w64 a → FitsSigned w64 b → FitsSigned w64 r → is_zero b ≡ false
    → r ≡ int_wrapping_div w64 (cast_signed w64 (cast_unsigned w64 a)) (cast_signed w64 (cast_unsigned w64 b)) → cast_signed w64 (cast_unsigned w64 r) ≡ wrapped (quotient a b)
divided a b r f g k z e =
    let small : unsigned_abs (int_div a b) < 18446744073709551616 = omega (arith, quotient_small a b, fits_small a f) in
    rw z (to_z-of_z w64 r k ∙ e ∙ ap (λ x. int_wrapping_div w64 x (cast_signed w64 (cast_unsigned w64 b))) (to_z-of_z w64 a f) ∙ ap (int_wrapping_div w64 a) (to_z-of_z w64 b g) ∙ sym (wrap_cast (int_div a b) small))

pub power_small : (k : ℕ) (r : ℤ) → FitsSigned w64 r → r ≡ cast_signed w64 (1 * 2 ^ k % 18446744073709551616) → cast_signed w64 (cast_unsigned w64 r) ≡ wrapped (pos (2 ^ k))
power_small k r f e =
    let one : 1 * 2 ^ k ≡ 2 ^ k = omega arith in
    to_z-of_z w64 r f ∙ e ∙ ap (λ n. cast_signed w64 (n % 18446744073709551616)) one ∙ sym (wrap_pos (2 ^ k))

-- a great power of two leaves nothing
pub power_great : (k : ℕ) → 64 ≤ k → pos 0 ≡ wrapped (pos (2 ^ k))
power_great k h =
    let e : k ≡ k - 64 + 64 = omega arith in
    let f : 2 ^ k % 18446744073709551616 ≡ 0 = ap (λ n. 2 ^ n % 18446744073709551616) e ∙ ap (λ n. n % 18446744073709551616) (pow-add 2 (k - 64) 64) ∙ mul-mod_left (2 ^ (k - 64)) 18446744073709551616 in
    sym (wrap_pos (2 ^ k) ∙ ap (cast_signed w64) f)

-- the bits of what is left of a natural number
bits_left : (n : ℕ) → cast_unsigned w64 (wrapped (pos n)) ≡ n % 18446744073709551616
bits_left n = ap (cast_unsigned w64) (wrap_pos n) ∙ of_z-to_z w64 (n % 18446744073709551616) (omega arith)

pub flips : (k : ℕ) (a p : ℤ) → p ≡ wrapped (pos (2 ^ k)) → cast_signed w64 (bit_xor (cast_unsigned w64 a) ((cast_unsigned w64 p + 18446744073709551615) % 18446744073709551616)) ≡ flipped k a
flips k a p e =
    let one : 1 ≤ 2 ^ k = one-le-pow k 2 (omega arith) in
    let q : cast_unsigned w64 p ≡ 2 ^ k % 18446744073709551616 = ap (cast_unsigned w64) e ∙ bits_left (2 ^ k) in
    let m : (cast_unsigned w64 p + 18446744073709551615) % 18446744073709551616 ≡ (2 ^ k - 1) % 18446744073709551616 = omega (arith, q, one) in
    ap (λ n. cast_signed w64 (bit_xor (cast_unsigned w64 a) n)) (m ∙ sym (bits_left (2 ^ k - 1)))

pub stacks : (k : ℕ) (a b p : ℤ) → FitsSigned w64 a → FitsSigned w64 b → FitsSigned w64 p → p ≡ wrapped (pos (2 ^ k))
    → cast_signed w64 (((cast_unsigned w64 a * cast_unsigned w64 p) % 18446744073709551616 + cast_unsigned w64 b) % 18446744073709551616) ≡ stacked k a b
stacks k a b p f g h e =
    let x : ℕ = (cast_unsigned w64 a * cast_unsigned w64 p) % 18446744073709551616 in
    let there : cast_unsigned w64 (cast_signed w64 x) ≡ x = of_z-to_z w64 x (mod_below (cast_unsigned w64 a * cast_unsigned w64 p) 18446744073709551616 (omega arith)) in
    let m : int_wrapping_mul w64 a p ≡ int_wrap w64 (a *ℤ pos (2 ^ k)) = wrapping_mul_is w64 a p f h ∙ ap (λ x. int_wrap w64 (a *ℤ x)) e ∙ int_wrap-mul_right w64 a (pos (2 ^ k)) in
    ap (λ n. cast_signed w64 ((n + cast_unsigned w64 b) % 18446744073709551616)) (sym there) ∙ ap (λ y. int_wrapping_add w64 y b) m ∙ wrapping_add_is w64 (int_wrap w64 (a *ℤ pos (2 ^ k))) b (SFits-int_wrap w64 (a *ℤ pos (2 ^ k))) g ∙ int_wrap-add_left w64 (a *ℤ pos (2 ^ k)) b

-- so many bits are below a great power of two
below_power : (n k : ℕ) → n < 18446744073709551616 → 64 ≤ k → n < 2 ^ k
below_power n k h le = let p : 2 ^ 64 ≤ 2 ^ k = pow-le-pow_right (omega arith) le in omega (arith, p)

pub no_bits : (n k : ℕ) → n < 18446744073709551616 → 64 ≤ k → 0 ≡ n / 2 ^ k
no_bits n k h le = sym (div-eq_of_lt (below_power n k h le))

pub all_bits : (n k : ℕ) → n < 18446744073709551616 → 63 ≤ k → n ≡ n % 2 ^ (k + 1)
all_bits n k h le = sym (mod-eq_of_lt (below_power n (k + 1) h (omega arith)))

pub sliced : (high low n m : ℕ) (a r : ℤ) → FitsSigned w64 a → FitsSigned w64 r → r ≡ cast_signed w64 m → m < 18446744073709551616 → m ≡ n % 2 ^ (high - low + 1) → n ≡ cast_unsigned w64 a / 2 ^ low → cast_signed w64 (cast_unsigned w64 r) ≡ bits_between high low a
sliced high low n m a r f g e small k l =
    let w : m ≡ cast_unsigned w64 a / 2 ^ low % 2 ^ (high - low + 1) = k ∙ ap (λ x. x % 2 ^ (high - low + 1)) l in
    let same : m % 18446744073709551616 ≡ m = omega arith in
    to_z-of_z w64 r g ∙ e ∙ ap (cast_signed w64) (sym same) ∙ sym (wrap_pos m) ∙ ap (λ x. wrapped (pos x)) w

-- ---- chains

or-false : (b : Bool) → (b || false) ≡ b
or-false true = refl
or-false false = refl

or-assoc : (a b c : Bool) → (a || (b || c)) ≡ ((a || b) || c)
or-assoc true b c = refl
or-assoc false b c = refl

-- a list without items
abbrev pub is_empty : {A : Type 0} → List A → Bool
is_empty [] = true
is_empty (x ∷ xs) = false

pub holds_of_bool : (b : Bool) → holds (of_bool b) ≡ b
holds_of_bool true = refl
holds_of_bool false = refl

-- a chain of alternatives, with its last one
pub worth_any : (σ : Assignment) (ts : List Tree) (b : Tree) → worth σ (any ts b) ≡ (if is_empty ts then worth σ b else of_bool (one_holds σ ts || holds (worth σ b)))
worth_any σ [] b = refl
worth_any σ (t ∷ []) b = ap (λ x. of_bool (x || holds (worth σ b))) (sym (or-false (holds (worth σ t))))
worth_any σ (t ∷ u ∷ us) b =
    ap (λ x. of_bool (holds (worth σ t) || holds x)) (worth_any σ (u ∷ us) b)
    ∙ ap (λ x. of_bool (holds (worth σ t) || x)) (holds_of_bool (one_holds σ (u ∷ us) || holds (worth σ b)))
    ∙ ap of_bool (or-assoc (holds (worth σ t)) (one_holds σ (u ∷ us)) (holds (worth σ b)))

case_step : (x : Bool) (y : ℤ) (o : Option ℤ) (z w : ℤ) → w ≡ unwrap_or o z → (if x then y else w) ≡ unwrap_or (if x then Some y else o) z
case_step true y o z w e = refl
case_step false y o z w e = e

-- a chain of choices, with its last tree
pub worth_cases : (σ : Assignment) (arms : List (Tree × Tree)) (b : Tree) → worth σ (cases arms b) ≡ unwrap_or (case_worth σ arms) (worth σ b)
worth_cases σ [] b = refl
worth_cases σ (a ∷ more) b = case_step (holds (worth σ a.0)) (worth σ a.1) (case_worth σ more) (worth σ b) (worth σ (cases more b)) (worth_cases σ more b)

-- the value of the tree with that number
pub worth_at : (σ : Assignment) (ts : List Tree) → worths σ (trees ts) ≡ map (worth σ) ts
worth_at σ [] = refl
worth_at σ (t ∷ ts) = ap (λ l. worth σ t ∷ l) (worth_at σ ts)
