-- The value of an expression. Every expression has one.
use Rattle.std.specs.Prelude.{ℕ, ◌+◌, ◌-◌, ◌/◌, ◌%◌, ◌^◌, ℤ, pos, ◌+ℤ◌, ◌-ℤ◌, ◌*ℤ◌, neg_ℤ, int_div, int_rem, int_lt, int_le, bit_and, bit_or, bit_xor, unsigned_abs, not, ◌||◌, Option, Some, None, unwrap_or, if◌then◌else◌}
use Rattle.quartz_tree.specs.declared.expr.Unary.{Unary}
use Rattle.quartz_tree.specs.declared.expr.Unary.TheVariants.{Not, Neg}
use Rattle.quartz_tree.specs.declared.expr.Binary.{Binary}
use Rattle.quartz_tree.specs.declared.expr.Binary.TheVariants.{Iff, Implies, Or, Xor, And, Eq, Ne, Lt, Le, Gt, Ge, Cat, Add, Sub, Mul, Div, Rem}
use Rattle.quartz_tree.specs.Tree.{Tree, truth, number, bits, named, element, one, two, choice, slice, to_nat, to_bv, paren}
use Rattle.quartz_expr.specs.Values.{Values, elements_in, element_at, of_bool, is_zero, same_value}
use Rattle.quartz_expr.specs.Vars.{Vars}
use Rattle.quartz_expr.specs.Kinds.{Kind, boolean, vector, width_of, kind}

-- the quotient rounded towards zero, and 0 for a zero divisor
abbrev pub quotient : ℤ → ℤ → ℤ
quotient a b = if is_zero b then pos 0 else int_div a b

-- the remainder with the dividend's sign, and 0 for a zero divisor
abbrev pub remainder : ℤ → ℤ → ℤ
remainder a b = if is_zero b then pos 0 else int_rem a b

-- an operator bit by bit, on the numbers that stand for the bits
abbrev pub by_bits : (ℕ → ℕ → ℕ) → ℤ → ℤ → ℤ
by_bits f a b = pos (f (unsigned_abs a) (unsigned_abs b))

-- `!`: the other truth value, or each bit flipped
abbrev pub complement : Option Kind → ℤ → ℤ
complement (Some boolean) a = of_bool (is_zero a)
complement (Some (vector n)) a = pos (2 ^ n - 1) -ℤ a
complement _ a = pos 0

-- the left bits above the right ones, of which there are so many
abbrev pub joined : ℕ → ℤ → ℤ → ℤ
joined n a b = (a *ℤ pos (2 ^ n)) +ℤ b

-- the bits from high down to low, bit 0 the lowest
abbrev pub bits_of : ℤ → (high low : ℕ) → ℤ
bits_of a high low = pos (unsigned_abs a / 2 ^ low % 2 ^ (high - low + 1))

-- the width of bits, and 0 for another kind
abbrev pub width_in : Option Kind → ℕ
width_in None = 0
width_in (Some k) = width_of k

-- an operator before a part of that kind
abbrev pub apply_one : Unary → Option Kind → ℤ → ℤ
apply_one Not k a = complement k a
apply_one Neg k a = neg_ℤ a

-- an operator between two parts, the right one of that many bits
abbrev pub apply_two : Binary → (width : ℕ) → ℤ → ℤ → ℤ
apply_two Iff n a b = of_bool (same_value a b)
apply_two Implies n a b = of_bool (is_zero a || not (is_zero b))
apply_two Or n a b = by_bits bit_or a b
apply_two Xor n a b = by_bits bit_xor a b
apply_two And n a b = by_bits bit_and a b
apply_two Eq n a b = of_bool (same_value a b)
apply_two Ne n a b = of_bool (not (same_value a b))
apply_two Lt n a b = of_bool (int_lt a b)
apply_two Le n a b = of_bool (int_le a b)
apply_two Gt n a b = of_bool (int_lt b a)
apply_two Ge n a b = of_bool (int_le b a)
apply_two Cat n a b = joined n a b
apply_two Add n a b = a +ℤ b
apply_two Sub n a b = a -ℤ b
apply_two Mul n a b = a *ℤ b
apply_two Div n a b = quotient a b
apply_two Rem n a b = remainder a b

-- the value of an expression under an environment
abbrev pub value : Vars → Values → Tree ℕ → ℤ
value vs env (truth b _) = of_bool b
value vs env (number n _) = pos n
value vs env (bits _ n _) = pos n
value vs env (named x _) = element_at (elements_in env x) (pos 0)
value vs env (element x i _) = element_at (elements_in env x) (value vs env i)
value vs env (one op a _) = apply_one op (kind vs a) (value vs env a)
value vs env (two op a b _) = apply_two op (width_in (kind vs b)) (value vs env a) (value vs env b)
value vs env (choice c a b _) = if is_zero (value vs env c) then value vs env b else value vs env a
value vs env (slice a high low _) = bits_of (value vs env a) high (unwrap_or low high)
value vs env (to_nat a _) = value vs env a
value vs env (to_bv a _ _ _) = value vs env a
value vs env (paren a _) = value vs env a
