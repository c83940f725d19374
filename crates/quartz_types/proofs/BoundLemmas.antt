-- Intervals of types are ordered, and no kind is wider than 33.
use Rattle.std.proofs.Common.{◌≡◌, ℕ, ◌-◌, ◌^◌, ◌<◌, ◌≤◌, ℤ, pos, neg_ℤ, ◌-ℤ◌, ◌≤ℤ◌, int_le, Bool, true, false, ◌&&◌, nat_le, nat_lt, refl, arith}
use Rattle.std.proofs.Math.Nat.{pow-le-pow_right}
use Rattle.std.proofs.lemmas.Int.{ints}
use Rattle.std.proofs.lemmas.Bool.Decides.{nat_tests}
use Rattle.quartz_tree.specs.declared.declare.Base.{Base}
use Rattle.quartz_tree.specs.declared.declare.Base.TheVariants as base
use Rattle.quartz_tree.specs.declared.declare.Ty.{Ty}
use Rattle.quartz_expr.specs.Intervals.{Interval, are_sound_bits, base_interval, is_sound_base, is_sound_length, is_sound_type, sound_or_nought, type_interval}
use Rattle.quartz_expr.proofs.TruthLemmas.{and_parts}
use Rattle.quartz_expr.proofs.RangeLemmas.{base_ordered}

no_less : (n : ℕ) → pos 0 ≤ℤ pos n
no_less n = omega (arith, ints)

ordered_if : (b : Bool) (i : Interval) → (b ≡ true → i.low ≤ℤ i.high) → (sound_or_nought b i).low ≤ℤ (sound_or_nought b i).high
ordered_if true i h = h refl
ordered_if false i h = no_less 0

pub type_ordered : (t : Ty) → (type_interval t).low ≤ℤ (type_interval t).high
type_ordered t = ordered_if (is_sound_type t) (base_interval t.base) (λ h. base_ordered t.base (and_parts (is_sound_base t.base) (is_sound_length t.len) h).0)

below_all : (w n : ℕ) → w ≤ 32 → n < 2 ^ w → n < 2 ^ 32
below_all w n h k = let p : 2 ^ w ≤ 2 ^ 32 = pow-le-pow_right (omega arith) h in omega (arith, k, p)

pub bits_below : (w n : ℕ) → are_sound_bits w n ≡ true → n ≤ 2 ^ 62
bits_below w n h =
    let k = and_parts (nat_le 1 w) (nat_le w 32 && nat_lt n (2 ^ w)) h in
    let j = and_parts (nat_le w 32) (nat_lt n (2 ^ w)) k.1 in
    let small : w ≤ 32 = grind (arith, nat_tests, j.0) in
    let less : n < 2 ^ w = grind (arith, nat_tests, j.1) in
    let g : n < 2 ^ 32 = below_all w n small less in
    omega (arith, g)

many : (n : ℕ) (h : ℤ) → 63 ≤ n → h ≤ℤ pos (2 ^ 63 - 1) → h ≤ℤ pos (2 ^ n - 1)
many n h k le = let p : 2 ^ 63 ≤ 2 ^ n = pow-le-pow_right (omega arith) k in omega (arith, ints, p, le)

pub in_many_bits : (n : ℕ) (h : ℤ) → 63 ≤ n → h ≤ℤ pos (2 ^ 63 - 1) → int_le h (pos (2 ^ n - 1)) ≡ true
in_many_bits n h k le = let m : h ≤ℤ pos (2 ^ n - 1) = many n h k le in grind (arith, nat_tests)
