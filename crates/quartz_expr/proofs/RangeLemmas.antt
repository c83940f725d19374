-- Ranges of types: 0 lies in each and none is empty. Variables of sound types have from 1 to 64 elements.
use Rattle.std.proofs.Common.{◌≡◌, ℕ, zero, suc, ◌+◌, ◌-◌, ◌^◌, ◌<◌, ◌≤◌, ℤ, pos, ◌≤ℤ◌, Bool, true, false, ◌&&◌, nat_le, ◌∷◌, [], Option, Some, None, unwrap_or, refl, arith}
use Rattle.std.proofs.lemmas.Int.{ints}
use Rattle.std.proofs.lemmas.Bool.Decides.{nat_tests}
use Rattle.std.proofs.Math.Nat.{one-le-pow}
use Rattle.quartz_tree.specs.declared.declare.Base.{Base}
use Rattle.quartz_tree.specs.declared.declare.Base.TheVariants as base
use Rattle.quartz_tree.specs.declared.declare.Ty.{Ty}
use Rattle.quartz_expr.specs.Vars.{Vars, count_of}
use Rattle.quartz_expr.specs.Intervals.{Interval, Lies, base_interval, is_in, is_sound_base, is_sound_length, is_sound_type, sound_or_nought, type_interval}
use Rattle.quartz_expr.specs.Typed.{have_sound_types}
use Rattle.quartz_expr.proofs.TruthLemmas.{and_parts}

pub in_lies : (i : Interval) (z : ℤ) → is_in i z ≡ true → Lies i z
in_lies i z e = record { above = grind (arith, ints, e); below = grind (arith, ints, e) }

pub lies_in : (i : Interval) (z : ℤ) → Lies i z → is_in i z ≡ true
lies_in i z h =
    let above : i.low ≤ℤ z = h.above in
    let below : z ≤ℤ i.high = h.below in
    grind (arith, ints, above, below)

pub base_has_zero : (b : Base) → is_sound_base b ≡ true → Lies (base_interval b) (pos 0)
base_has_zero base.Bool e = record { above = omega (arith, ints); below = omega (arith, ints) }
base_has_zero (base.Nat n) e = let h : 1 ≤ n = grind (arith, nat_tests, e) in record { above = omega (arith, ints); below = omega (arith, ints) }
base_has_zero (base.Int n) e = let h : 1 ≤ n = grind (arith, nat_tests, e) in record { above = omega (arith, ints); below = omega (arith, ints) }
base_has_zero (base.Bv n) e = record { above = omega (arith, ints); below = omega (arith, ints) }

pub zero_in_base : (b : Base) → is_sound_base b ≡ true → is_in (base_interval b) (pos 0) ≡ true
zero_in_base b e = lies_in (base_interval b) (pos 0) (base_has_zero b e)

pub zero_in_type : (t : Ty) → is_in (type_interval t) (pos 0) ≡ true
zero_in_type t = either (is_sound_base t.base) (is_sound_length t.len) refl
  where
    either : (a b : Bool) → is_sound_base t.base ≡ a → is_in (sound_or_nought (a && b) (base_interval t.base)) (pos 0) ≡ true
    either true true e = zero_in_base t.base e
    either true false e = refl
    either false b e = refl

pub base_ordered : (b : Base) → is_sound_base b ≡ true → (base_interval b).low ≤ℤ (base_interval b).high
base_ordered base.Bool h = grind (arith, ints)
base_ordered (base.Nat n) h = grind (arith, ints, nat_tests)
base_ordered (base.Int n) h = grind (arith, ints, nat_tests)
base_ordered (base.Bv n) h = let k : 1 ≤ 2 ^ n = one-le-pow n 2 (omega arith) in grind (arith, ints)

pub small_length : (l : Option ℕ) → is_sound_length l ≡ true → unwrap_or l 1 ≤ 64
small_length None h = omega arith
small_length (Some m) h = grind (arith, nat_tests, (and_parts (nat_le 1 m) (nat_le m 64) h).1)

pub some_length : (l : Option ℕ) → is_sound_length l ≡ true → 1 ≤ unwrap_or l 1
some_length None h = omega arith
some_length (Some m) h = grind (arith, nat_tests, (and_parts (nat_le 1 m) (nat_le m 64) h).0)

-- a variable has at most 64 elements
pub count_small : (vs : Vars) (x : ℕ) → have_sound_types vs ≡ true → count_of vs x ≤ 64
count_small [] x h = omega arith
count_small (v ∷ vs) zero h = small_length v.decl.ty.len (and_parts (is_sound_base v.decl.ty.base) (is_sound_length v.decl.ty.len) (and_parts (is_sound_type v.decl.ty) (have_sound_types vs) h).0).1
count_small (v ∷ vs) (suc x) h = count_small vs x (and_parts (is_sound_type v.decl.ty) (have_sound_types vs) h).1

-- and at least one
pub some_element : (vs : Vars) (x : ℕ) → have_sound_types vs ≡ true → 1 ≤ count_of vs x
some_element [] x h = omega arith
some_element (v ∷ vs) zero h = some_length v.decl.ty.len (and_parts (is_sound_base v.decl.ty.base) (is_sound_length v.decl.ty.len) (and_parts (is_sound_type v.decl.ty) (have_sound_types vs) h).0).1
some_element (v ∷ vs) (suc x) h = some_element vs x (and_parts (is_sound_type v.decl.ty) (have_sound_types vs) h).1
