-- The intervals in which values lie, and where an expression or a type leaves its bounds.
use Rattle.std.specs.Prelude.{ℕ, ◌-◌, ◌^◌, max, ℤ, pos, ◌+ℤ◌, ◌-ℤ◌, ◌*ℤ◌, neg_ℤ, ◌≤ℤ◌, int_le, int_div, unsigned_abs, Bool, true, false, not, ◌&&◌, ◌==◌, nat_lt, nat_le, List, [], ◌++◌, Option, Some, None, slice_get, if◌then◌else◌}
use Rattle.std.specs.Int.{int_min, int_max}
use Rattle.quartz_tree.specs.declared.declare.Base.{Base}
use Rattle.quartz_tree.specs.declared.declare.Base.TheVariants as base
use Rattle.quartz_tree.specs.declared.declare.Ty.{Ty}
use Rattle.quartz_tree.specs.declared.declare.Decl.{Decl}
use Rattle.quartz_tree.specs.declared.declare.Var.{Var}
use Rattle.quartz_tree.specs.declared.expr.Unary.{Unary}
use Rattle.quartz_tree.specs.declared.expr.Unary.TheVariants.{Not, Neg}
use Rattle.quartz_tree.specs.declared.expr.Binary.{Binary}
use Rattle.quartz_tree.specs.declared.expr.Binary.TheVariants.{Cat, Add, Sub, Mul, Div, Rem}
use Rattle.quartz_tree.specs.declared.place.Place.{Place}
use Rattle.quartz_tree.specs.Tree.{Tree, truth, number, bits, named, element, one, two, choice, slice, to_nat, to_bv, paren}
use Rattle.quartz_expr.specs.Values.{of_bool}
use Rattle.quartz_expr.specs.Vars.{Vars}
use Rattle.quartz_expr.specs.Kinds.{Kind, boolean, vector, kind, place_if}
use Rattle.quartz_expr.specs.Value.{width_in}

-- the whole numbers from low to high
pub record Interval : Type 0 where
  pub low : ℤ
  pub high : ℤ

abbrev pub span : ℤ → ℤ → Interval
span l h = record { low = l; high = h }

abbrev pub only : ℤ → Interval
only z = span z z

pub record Lies (i : Interval) (z : ℤ) : Type 0 where
  pub above : i.low ≤ℤ z
  pub below : z ≤ℤ i.high

-- the number lies in the interval
abbrev pub is_in : Interval → ℤ → Bool
is_in i z = int_le i.low z && int_le z i.high

-- the first interval lies in the second
abbrev pub is_inside : Interval → Interval → Bool
is_inside i j = int_le j.low i.low && int_le i.high j.high

-- 0..0 stands for what breaks a bound
abbrev pub nought : Interval
nought = only (pos 0)

abbrev pub sound_or_nought : Bool → Interval → Interval
sound_or_nought true i = i
sound_or_nought false i = nought

-- the bounds of a type's parameter
abbrev pub is_sound_base : Base → Bool
is_sound_base base.Bool = true
is_sound_base (base.Nat n) = nat_le 1 n && nat_le n (2 ^ 31)
is_sound_base (base.Int n) = nat_le 1 n && nat_le n (2 ^ 31)
is_sound_base (base.Bv n) = nat_le 1 n && nat_le n 32

-- the bounds of an array's length
abbrev pub is_sound_length : Option ℕ → Bool
is_sound_length None = true
is_sound_length (Some m) = nat_le 1 m && nat_le m 64

abbrev pub is_sound_type : Ty → Bool
is_sound_type t = is_sound_base t.base && is_sound_length t.len

-- the values of a scalar type
abbrev pub base_interval : Base → Interval
base_interval base.Bool = span (pos 0) (pos 1)
base_interval (base.Nat n) = span (pos 0) (pos n -ℤ pos 1)
base_interval (base.Int n) = span (neg_ℤ (pos n)) (pos n -ℤ pos 1)
base_interval (base.Bv n) = span (pos 0) (pos (2 ^ n - 1))

-- the values of an element of that type; 0..0 for a type out of its bounds
abbrev pub type_interval : Ty → Interval
type_interval t = sound_or_nought (is_sound_type t) (base_interval t.base)

abbrev interval_in : Option Var → Interval
interval_in None = nought
interval_in (Some v) = type_interval v.decl.ty

-- the range of a variable's elements
abbrev pub range_of : Vars → ℕ → Interval
range_of vs x = interval_in (slice_get vs x)

-- truth values, or bits; 0..0 where there is no such kind
abbrev pub kind_interval : Option Kind → Interval
kind_interval (Some boolean) = span (pos 0) (pos 1)
kind_interval (Some (vector n)) = span (pos 0) (pos (2 ^ n - 1))
kind_interval _ = nought

-- the bounds of an operator's interval
abbrev pub is_small : Interval → Bool
is_small i = is_inside i (span (neg_ℤ (pos (2 ^ 62))) (pos (2 ^ 62)))

-- the greatest distance from 0
abbrev pub size_of : Interval → ℕ
size_of i = max (unsigned_abs i.low) (unsigned_abs i.high)

-- the least interval that holds both
abbrev pub hull : Interval → Interval → Interval
hull a b = span (int_min a.low b.low) (int_max a.high b.high)

-- from the least to the greatest of what the ends of two intervals give
abbrev pub from_ends : (ℤ → ℤ → ℤ) → Interval → Interval → Interval
from_ends f a b = hull (hull (only (f a.low b.low)) (only (f a.low b.high))) (hull (only (f a.high b.low)) (only (f a.high b.high)))

abbrev pub sum_interval : Interval → Interval → Interval
sum_interval a b = span (a.low +ℤ b.low) (a.high +ℤ b.high)

abbrev pub difference_interval : Interval → Interval → Interval
difference_interval a b = span (a.low -ℤ b.high) (a.high -ℤ b.low)

abbrev pub product_interval : Interval → Interval → Interval
product_interval a b = from_ends (λ x y. x *ℤ y) a b

abbrev pub quotient_interval : Interval → Interval → Interval
quotient_interval a b =
    if int_le (pos 1) b.low then from_ends int_div a b
    else (if int_le (pos 0) a.low && int_le (pos 0) b.low then span (pos 0) a.high
    else span (neg_ℤ (pos (size_of a))) (pos (size_of a)))

abbrev pub remainder_interval : Interval → Interval → Interval
remainder_interval a b =
    if size_of b == 0 then nought
    else span (neg_ℤ (int_min (int_max (pos 0) (neg_ℤ a.low)) (pos (size_of b - 1)))) (int_min (int_max (pos 0) a.high) (pos (size_of b - 1)))

-- an operator before a part, where the whole has that kind
abbrev pub one_interval : Unary → Option Kind → Interval → Interval
one_interval Neg k a = span (neg_ℤ a.high) (neg_ℤ a.low)
one_interval Not k a = kind_interval k

-- an operator between two parts, where the whole has that kind
abbrev pub two_interval : Binary → Option Kind → Interval → Interval → Interval
two_interval Add k a b = sum_interval a b
two_interval Sub k a b = difference_interval a b
two_interval Mul k a b = product_interval a b
two_interval Div k a b = quotient_interval a b
two_interval Rem k a b = remainder_interval a b
two_interval _ k a b = kind_interval k

-- bits have at most 32 digits
abbrev pub is_sound_width : Option Kind → Bool
is_sound_width k = nat_le (width_in k) 32

-- an operator's own bounds: those of its interval, and of `@` the width
abbrev pub is_sound_two : Binary → Option Kind → Interval → Bool
is_sound_two Cat k i = is_sound_width k
is_sound_two _ k i = is_small i

-- the high end of a slice is a bit of its part, which has so many, and isn't below the low end
abbrev pub is_sound_slice : (width high : ℕ) → Option ℕ → Bool
is_sound_slice n high None = nat_lt high n
is_sound_slice n high (Some low) = nat_lt high n && nat_le low high

-- the width of `nat2bv`
abbrev pub is_sound_target : ℕ → Bool
is_sound_target n = nat_le 1 n && nat_le n 32

-- the numbers of so many bits
abbrev pub bits_interval : ℕ → Interval
bits_interval n = span (pos 0) (pos (2 ^ n - 1))

-- bits have 1 to 32 digits, and a value that these can write
abbrev pub are_sound_bits : (width value : ℕ) → Bool
are_sound_bits w n = nat_le 1 w && (nat_le w 32 && nat_lt n (2 ^ w))

-- the interval of an expression; a part that breaks a bound counts as 0..0 for what stands above it
abbrev pub interval : Vars → Tree ℕ → Interval
interval vs (truth b _) = only (of_bool b)
interval vs (number n _) = sound_or_nought (nat_le n (2 ^ 62)) (only (pos n))
interval vs (bits w n _) = sound_or_nought (are_sound_bits w n) (only (pos n))
interval vs (named x _) = range_of vs x
interval vs (element x _ _) = range_of vs x
interval vs (one op a p) =
    let i = one_interval op (kind vs (one op a p)) (interval vs a) in
    sound_or_nought (is_small i) i
interval vs (two op a b p) =
    let k = kind vs (two op a b p) in
    let i = two_interval op k (interval vs a) (interval vs b) in
    sound_or_nought (is_sound_two op k i) i
interval vs (choice c a b _) = hull (interval vs a) (interval vs b)
interval vs (slice a high low p) = sound_or_nought (is_sound_slice (width_in (kind vs a)) high low) (kind_interval (kind vs (slice a high low p)))
interval vs (to_nat a _) = kind_interval (kind vs a)
interval vs (to_bv a n _ _) = sound_or_nought (is_sound_target n && is_inside (interval vs a) (bits_interval n)) (bits_interval n)
interval vs (paren a _) = interval vs a

-- where an expression breaks a bound
abbrev pub bound_breaks : Vars → Tree ℕ → List Place
bound_breaks vs (truth _ _) = []
bound_breaks vs (number n p) = place_if (not (nat_le n (2 ^ 62))) p
bound_breaks vs (bits w n p) = place_if (not (are_sound_bits w n)) p
bound_breaks vs (named _ _) = []
bound_breaks vs (element _ i _) = bound_breaks vs i
bound_breaks vs (one op a p) = bound_breaks vs a ++ place_if (not (is_small (one_interval op (kind vs (one op a p)) (interval vs a)))) p
bound_breaks vs (two op a b p) =
    let k = kind vs (two op a b p) in
    bound_breaks vs a ++ (bound_breaks vs b ++ place_if (not (is_sound_two op k (two_interval op k (interval vs a) (interval vs b)))) p)
bound_breaks vs (choice c a b _) = bound_breaks vs c ++ (bound_breaks vs a ++ bound_breaks vs b)
bound_breaks vs (slice a high low p) = bound_breaks vs a ++ place_if (not (is_sound_slice (width_in (kind vs a)) high low)) p
bound_breaks vs (to_nat a _) = bound_breaks vs a
bound_breaks vs (to_bv a n q p) = bound_breaks vs a ++ (place_if (not (is_sound_target n)) q ++ place_if (not (is_inside (interval vs a) (bits_interval n))) p)
bound_breaks vs (paren a _) = bound_breaks vs a

-- where a declared type breaks its bounds
abbrev pub type_breaks : Decl → List Place
type_breaks d = place_if (not (is_sound_base d.ty.base)) d.base_place ++ place_if (not (is_sound_length d.ty.len)) d.len_place
