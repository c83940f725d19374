-- The texts of values: `0` or `1`, decimal digits behind a `-` where the value is negative, or `0b` and binary digits.
use Rattle.std.specs.Prelude.{ℕ, zero, suc, ◌+◌, ◌-◌, ◌*◌, ◌/◌, ◌%◌, ◌^◌, ℤ, pos, neg_ℤ, unsigned_abs, Bool, ◌==◌, ◌&&◌, nat_lt, nat_le, List, [], ◌∷◌, length, Option, Some, None, option_map, option_and_then, if◌then◌else◌}
use Rattle.std.specs.Fmt.{signed_decimal}
use Rattle.quartz_tree.specs.declared.declare.Base.{Base}
use Rattle.quartz_tree.specs.declared.declare.Base.TheVariants as base
use Rattle.quartz_expr.specs.Values.{is_zero}
use Rattle.quartz_expr.specs.Intervals.{base_interval, is_in}

-- a digit of a base up to ten
abbrev pub is_digit : (radix : ℕ) → ℕ → Bool
is_digit radix c = nat_le 48 c && nat_lt c (48 + radix)

-- the number that digits spell behind those of n; none where a byte is no digit
abbrev pub digits_behind : (radix n : ℕ) → List ℕ → Option ℕ
digits_behind radix n [] = Some n
digits_behind radix n (c ∷ cs) = if is_digit radix c then digits_behind radix (n * radix + (c - 48)) cs else None

-- the number that digits spell, at least one
abbrev pub number_in : (radix : ℕ) → List ℕ → Option ℕ
number_in radix [] = None
number_in radix (c ∷ cs) = digits_behind radix 0 (c ∷ cs)

-- `0` or `1`
abbrev pub truth_in : List ℕ → Option ℤ
truth_in (c ∷ []) = if c == 48 then Some (pos 0) else (if c == 49 then Some (pos 1) else None)
truth_in _ = None

-- decimal digits, behind a `-` or not
abbrev pub integer_in : List ℕ → Option ℤ
integer_in [] = None
integer_in (c ∷ cs) = if c == 45 then option_map (λ n. neg_ℤ (pos n)) (number_in 10 cs) else option_map pos (number_in 10 (c ∷ cs))

-- `0b` and so many binary digits, the highest bit first
abbrev pub bits_in : (width : ℕ) → List ℕ → Option ℤ
bits_in n (a ∷ b ∷ ds) = if a == 48 && (b == 98 && length ds == n) then option_map pos (number_in 2 ds) else None
bits_in n _ = None

-- the number that a word spells as a value of that type, in its range or not
abbrev pub spelled : Base → List ℕ → Option ℤ
spelled base.Bool w = truth_in w
spelled (base.Nat n) w = integer_in w
spelled (base.Int n) w = integer_in w
spelled (base.Bv n) w = bits_in n w

-- the number, if it lies in the type's range
abbrev pub if_in_range : Base → ℤ → Option ℤ
if_in_range b z = if is_in (base_interval b) z then Some z else None

-- the value that a word is: readable, and in the type's range
abbrev pub reads_value : Base → List ℕ → Option ℤ
reads_value b w = option_and_then (if_in_range b) (spelled b w)

-- the lowest bits of a number, so many, the highest first
abbrev pub binary : (width : ℕ) → ℕ → List ℕ
binary zero n = []
binary (suc k) n = (48 + n / 2 ^ k % 2) ∷ binary k n

-- the text of a value
abbrev pub value_text : Base → ℤ → List ℕ
value_text base.Bool z = (if is_zero z then 48 else 49) ∷ []
value_text (base.Nat n) z = signed_decimal z
value_text (base.Int n) z = signed_decimal z
value_text (base.Bv n) z = 48 ∷ 98 ∷ binary n (unsigned_abs z)

-- the value itself, or 0 where it is out of the type's range
abbrev pub in_range : Base → ℤ → ℤ
in_range b z = if is_in (base_interval b) z then z else pos 0
