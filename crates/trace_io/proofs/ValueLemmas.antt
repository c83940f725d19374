-- Digits of which the number is kept below a bound.
use Rattle.std.proofs.Common.{◌≡◌, ◌<◌, ◌≤◌, ◌+◌, ◌-◌, ◌*◌, ◌^◌, ◌⊎◌, inl, inr, ℕ, zero, suc, ℤ, pos, negsuc, neg_ℤ, ◌≤ℤ◌, nat_le, Bool, true, false, ◌&&◌, if◌then◌else◌, List, [], ◌∷◌, length, drop, Option, Some, None, refl, sym, ap, ◌∙◌, arith, min, get_or, add-one}
use Rattle.std.proofs.Math.Nat.{le-mul_of_pos_right, pow-le-pow_right}
use Rattle.std.proofs.Math.Seq.{drop-cons}
use Rattle.std.proofs.lemmas.Int.{ints}
use Rattle.std.proofs.lemmas.Bool.Decides.{nat_tests}
use Rattle.std.specs.Prelude.{option_map, option_and_then}
use Rattle.quartz_tree.specs.declared.declare.Base.{Base}
use Rattle.quartz_tree.specs.declared.declare.Base.TheVariants as base
use Rattle.quartz_expr.specs.Intervals.{Interval, base_interval, is_in, is_sound_base}
use Rattle.trace_io.specs.Values.{is_digit, digits_behind, if_in_range}
use Rattle.trace_io.specs.Capped.{most, capped, capped_value}

-- one more digit, behind a number or behind its bound
capped_step : (r n m d : ℕ) → 1 ≤ r → capped n ≡ capped m → capped (n * r + d) ≡ capped (m * r + d)
capped_step r n m d h e = both (which n m e) (grown n) (grown m)
  where
    which : (a b : ℕ) → capped a ≡ capped b → (a ≡ b) ⊎ ((most ≤ a) × (most ≤ b))
    which a b k = grind arith

    grown : (a : ℕ) → a ≤ a * r
    grown a = le-mul_of_pos_right a (omega arith)

    both : (n ≡ m) ⊎ ((most ≤ n) × (most ≤ m)) → n ≤ n * r → m ≤ m * r → min (n * r + d) most ≡ min (m * r + d) most
    both (inl k) p q = ap (λ (x : ℕ). min (x * r + d) most) k
    both (inr k) p q = omega arith

-- the digits behind a number, or behind its bound
pub behind_capped : (r n m : ℕ) (ds : List ℕ) → 1 ≤ r → capped n ≡ capped m → option_map capped (digits_behind r n ds) ≡ option_map capped (digits_behind r m ds)
behind_capped r n m [] h e = ap Some e
behind_capped r n m (c ∷ cs) h e = step (is_digit r c) (behind_capped r (n * r + (c - 48)) (m * r + (c - 48)) cs h (capped_step r n m (c - 48) h e))
  where
    step : (b : Bool) → option_map capped (digits_behind r (n * r + (c - 48)) cs) ≡ option_map capped (digits_behind r (m * r + (c - 48)) cs)
        → option_map capped (if b then digits_behind r (n * r + (c - 48)) cs else None) ≡ option_map capped (if b then digits_behind r (m * r + (c - 48)) cs else None)
    step true k = k
    step false k = refl

-- one more of the digits
pub one_more_digit : (r n m i : ℕ) (ds : List ℕ) → 1 ≤ r → i < length ds → is_digit r (get_or ds i 0) ≡ true → capped m ≡ capped (n * r + (get_or ds i 0 - 48))
    → option_map capped (digits_behind r n (drop i ds)) ≡ option_map capped (digits_behind r m (drop (i + 1) ds))
one_more_digit r n m i ds h k d e =
    rw (drop-cons ds i 0) (step (is_digit r (get_or ds i 0)) d)
  where
    step : (b : Bool) → b ≡ true → option_map capped (if b then digits_behind r (n * r + (get_or ds i 0 - 48)) (drop (suc i) ds) else None) ≡ option_map capped (digits_behind r m (drop (i + 1) ds))
    step true f = rw add-one (behind_capped r (n * r + (get_or ds i 0 - 48)) m (drop (suc i) ds) h (sym e))
    step false f = absurd (cc f)

-- a `-` before a number, or before its bound
capped_minus : (n : ℕ) → capped_value (neg_ℤ (pos n)) ≡ neg_ℤ (pos (capped n))
capped_minus zero = refl
capped_minus (suc n) = ap negsuc (fewer n) ∙ sym (ap (λ (m : ℕ). neg_ℤ (pos m)) (more n))
  where
    fewer : (n : ℕ) → min n (most - 1) ≡ min n (most - 1)
    fewer n = refl

    more : (n : ℕ) → min (suc n) most ≡ suc (min n (most - 1))
    more n = omega arith

pub capped_negative : (x : Option ℕ) → option_map capped_value (option_map (λ n. neg_ℤ (pos n)) x) ≡ option_map (λ n. neg_ℤ (pos n)) (option_map capped x)
capped_negative None = refl
capped_negative (Some n) = ap Some (capped_minus n)

pub capped_positive : (x : Option ℕ) → option_map capped_value (option_map pos x) ≡ option_map pos (option_map capped x)
capped_positive None = refl
capped_positive (Some n) = refl

-- two numbers that are the same or both out of range
same_in_range : (b : Base) (y z : ℤ) → (y ≡ z) ⊎ ((is_in (base_interval b) y ≡ false) × (is_in (base_interval b) z ≡ false)) → if_in_range b y ≡ if_in_range b z
same_in_range b y z (inl e) = ap (if_in_range b) e
same_in_range b y z (inr (f, g)) = ap (λ (p : Bool). if p then Some y else None) f ∙ sym (ap (λ (q : Bool). if q then Some z else None) g)

-- every range ends before 2^32 on both sides
low_end : (b : Base) → is_sound_base b ≡ true → neg_ℤ (pos (2 ^ 32)) ≤ℤ (base_interval b).low
low_end base.Bool h = grind (arith, ints)
low_end (base.Nat n) h = grind (arith, ints)
low_end (base.Int n) h = grind (arith, ints, nat_tests)
low_end (base.Bv n) h = grind (arith, ints)

high_end : (b : Base) → is_sound_base b ≡ true → (base_interval b).high ≤ℤ pos (2 ^ 32)
high_end base.Bool h = grind (arith, ints)
high_end (base.Nat n) h = grind (arith, ints, nat_tests)
high_end (base.Int n) h = grind (arith, ints, nat_tests)
high_end (base.Bv n) h = ends n (few n h)
  where
    few : (n : ℕ) → nat_le 1 n && nat_le n 32 ≡ true → n ≤ 32
    few n h = grind (arith, nat_tests)

    ends : (n : ℕ) → n ≤ 32 → pos (2 ^ n - 1) ≤ℤ pos (2 ^ 32)
    ends n h = let k : 2 ^ n ≤ 2 ^ 32 = pow-le-pow_right {n = 2} (omega arith) h in grind (arith, ints)

above : (i : Interval) (m : ℕ) → i.high ≤ℤ pos (2 ^ 32) → 2 ^ 32 < m → is_in i (pos m) ≡ false
above i m h k = grind (arith, ints, nat_tests)

below : (i : Interval) (m : ℕ) → neg_ℤ (pos (2 ^ 32)) ≤ℤ i.low → 2 ^ 32 ≤ m → is_in i (negsuc m) ≡ false
below i m h k = grind (arith, ints, nat_tests)

-- a number and its bound are the same, or both out of range
capped_out : (b : Base) (z : ℤ) → is_sound_base b ≡ true → if_in_range b (capped_value z) ≡ if_in_range b z
capped_out b (pos n) h = same_in_range b (pos (min n most)) (pos n) (which (split n))
  where
    split : (n : ℕ) → (min n most ≡ n) ⊎ ((2 ^ 32 < min n most) × (2 ^ 32 < n))
    split n = grind arith

    which : (min n most ≡ n) ⊎ ((2 ^ 32 < min n most) × (2 ^ 32 < n)) → (pos (min n most) ≡ pos n) ⊎ ((is_in (base_interval b) (pos (min n most)) ≡ false) × (is_in (base_interval b) (pos n) ≡ false))
    which (inl e) = inl (ap pos e)
    which (inr (p, q)) = inr (above (base_interval b) (min n most) (high_end b h) p, above (base_interval b) n (high_end b h) q)
capped_out b (negsuc n) h = same_in_range b (negsuc (min n (most - 1))) (negsuc n) (which (split n))
  where
    split : (n : ℕ) → (min n (most - 1) ≡ n) ⊎ ((2 ^ 32 ≤ min n (most - 1)) × (2 ^ 32 ≤ n))
    split n = grind arith

    which : (min n (most - 1) ≡ n) ⊎ ((2 ^ 32 ≤ min n (most - 1)) × (2 ^ 32 ≤ n))
        → (negsuc (min n (most - 1)) ≡ negsuc n) ⊎ ((is_in (base_interval b) (negsuc (min n (most - 1))) ≡ false) × (is_in (base_interval b) (negsuc n) ≡ false))
    which (inl e) = inl (ap negsuc e)
    which (inr (p, q)) = inr (below (base_interval b) (min n (most - 1)) (low_end b h) p, below (base_interval b) n (low_end b h) q)

pub read_capped : (b : Base) (x : Option ℤ) → is_sound_base b ≡ true → option_and_then (if_in_range b) (option_map capped_value x) ≡ option_and_then (if_in_range b) x
read_capped b None h = refl
read_capped b (Some z) h = capped_out b z h
