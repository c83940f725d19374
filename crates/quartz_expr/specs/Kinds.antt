-- The kinds of expressions, and where an expression has none.
use Rattle.std.specs.Prelude.{ℕ, ◌+◌, ◌-◌, Bool, true, false, not, ◌==◌, ◌&&◌, nat_lt, nat_le, List, [], ◌∷◌, ◌++◌, Option, Some, None, is_some, is_none, if◌then◌else◌}
use Rattle.quartz_tree.specs.declared.declare.Base.{Base}
use Rattle.quartz_tree.specs.declared.declare.Base.TheVariants as base
use Rattle.quartz_tree.specs.declared.expr.Unary.{Unary}
use Rattle.quartz_tree.specs.declared.expr.Unary.TheVariants.{Not, Neg}
use Rattle.quartz_tree.specs.declared.expr.Binary.{Binary}
use Rattle.quartz_tree.specs.declared.expr.Binary.TheVariants.{Iff, Implies, Or, Xor, And, Eq, Ne, Lt, Le, Gt, Ge, Cat, Add, Sub, Mul, Div, Rem}
use Rattle.quartz_tree.specs.declared.place.Place.{Place}
use Rattle.quartz_tree.specs.Tree.{Tree, truth, number, bits, named, element, one, two, choice, slice, to_nat, to_bv, paren}
use Rattle.quartz_expr.specs.Vars.{Vars, base_of, is_array}
-- a truth value, a number, or so many bits
pub use Rattle.quartz_expr.specs.declared.kind.ExprKind.{ExprKind as Kind}
pub use Rattle.quartz_expr.specs.declared.kind.ExprKind.TheVariants.{Boolean as boolean, Numeric as numeric, Vector as vector}

-- a width outside 1 to 32 counts as 33
abbrev pub counted : ℕ → ℕ
counted n = if nat_le 1 n && nat_le n 32 then n else 33

abbrev pub kind_of_base : Base → Kind
kind_of_base base.Bool = boolean
kind_of_base (base.Nat n) = numeric
kind_of_base (base.Int n) = numeric
kind_of_base (base.Bv n) = vector (counted n)

abbrev pub same_kind : Kind → Kind → Bool
same_kind boolean boolean = true
same_kind numeric numeric = true
same_kind (vector m) (vector n) = m == n
same_kind _ _ = false

-- the kind, where the parts have it
abbrev pub kind_if : Bool → Kind → Option Kind
kind_if true k = Some k
kind_if false k = None

abbrev pub is_numeric : Kind → Bool
is_numeric k = same_kind k numeric

abbrev pub is_boolean : Kind → Bool
is_boolean k = same_kind k boolean

abbrev pub is_vector : Kind → Bool
is_vector (vector n) = true
is_vector _ = false

abbrev pub width_of : Kind → ℕ
width_of (vector n) = n
width_of _ = 0

-- an operator before a part of that kind
abbrev pub one_kind : Unary → Kind → Option Kind
one_kind Not k = kind_if (not (is_numeric k)) k
one_kind Neg k = kind_if (is_numeric k) numeric

-- both are truth values, or both are as many bits
abbrev pub bitwise_kind : Kind → Kind → Option Kind
bitwise_kind a b = kind_if (same_kind a b && not (is_numeric a)) a

abbrev pub logical_kind : Kind → Kind → Option Kind
logical_kind a b = kind_if (is_boolean a && is_boolean b) boolean

abbrev pub ordered_kind : Kind → Kind → Option Kind
ordered_kind a b = kind_if (is_numeric a && is_numeric b) boolean

abbrev pub arithmetic_kind : Kind → Kind → Option Kind
arithmetic_kind a b = kind_if (is_numeric a && is_numeric b) numeric

-- an operator between parts of these kinds
abbrev pub two_kind : Binary → Kind → Kind → Option Kind
two_kind Iff a b = logical_kind a b
two_kind Implies a b = logical_kind a b
two_kind Or a b = bitwise_kind a b
two_kind Xor a b = bitwise_kind a b
two_kind And a b = bitwise_kind a b
two_kind Eq a b = kind_if (same_kind a b) boolean
two_kind Ne a b = kind_if (same_kind a b) boolean
two_kind Lt a b = ordered_kind a b
two_kind Le a b = ordered_kind a b
two_kind Gt a b = ordered_kind a b
two_kind Ge a b = ordered_kind a b
two_kind Cat a b = kind_if (is_vector a && is_vector b) (vector (counted (width_of a + width_of b)))
two_kind Add a b = arithmetic_kind a b
two_kind Sub a b = arithmetic_kind a b
two_kind Mul a b = arithmetic_kind a b
two_kind Div a b = arithmetic_kind a b
two_kind Rem a b = arithmetic_kind a b

-- `c ? a : b`
abbrev pub choice_kind : Kind → Kind → Kind → Option Kind
choice_kind c a b = kind_if (is_boolean c && same_kind a b) a

-- bit `high`, or the bits from `high` down to `low`
abbrev pub slice_width : ℕ → ℕ → ℕ
slice_width high low = if nat_lt high low then 33 else counted (high - low + 1)

abbrev pub slice_kind : ℕ → Option ℕ → Kind → Option Kind
slice_kind high None k = kind_if (is_vector k) boolean
slice_kind high (Some low) k = kind_if (is_vector k) (vector (slice_width high low))

-- a kind made of the kinds of the parts, if all have one
abbrev pub kind_with : Option Kind → (Kind → Option Kind) → Option Kind
kind_with None f = None
kind_with (Some k) f = f k

-- the kind of an expression, if it has one
abbrev pub kind : Vars → Tree ℕ → Option Kind
kind vs (truth _ _) = Some boolean
kind vs (number _ _) = Some numeric
kind vs (bits w _ _) = Some (vector (counted w))
kind vs (named x _) = kind_if (not (is_array vs x)) (kind_of_base (base_of vs x))
kind vs (element x i _) = kind_with (kind vs i) (λ k. kind_if (is_array vs x && is_numeric k) (kind_of_base (base_of vs x)))
kind vs (one op a _) = kind_with (kind vs a) (one_kind op)
kind vs (two op a b _) = kind_with (kind vs a) (λ k. kind_with (kind vs b) (two_kind op k))
kind vs (choice c a b _) = kind_with (kind vs c) (λ l. kind_with (kind vs a) (λ k. kind_with (kind vs b) (choice_kind l k)))
kind vs (slice a high low _) = kind_with (kind vs a) (slice_kind high low)
kind vs (to_nat a _) = kind_with (kind vs a) (λ k. kind_if (is_vector k) numeric)
kind vs (to_bv a w _ _) = kind_with (kind vs a) (λ k. kind_if (is_numeric k) (vector (counted w)))
kind vs (paren a _) = kind vs a

-- the place, where the test holds
abbrev pub place_if : Bool → Place → List Place
place_if true p = p ∷ []
place_if false p = []

-- an index is a number; one without a kind is reported by itself
abbrev pub is_index : Option Kind → Bool
is_index None = true
is_index (Some k) = is_numeric k

-- where an expression breaks the rule of kinds: it has no kind while all its parts have one,
-- or it is an array without an index or a scalar with one
abbrev pub kind_breaks : Vars → Tree ℕ → List Place
kind_breaks vs (truth _ _) = []
kind_breaks vs (number _ _) = []
kind_breaks vs (bits _ _ _) = []
kind_breaks vs (named x p) = place_if (is_array vs x) p
kind_breaks vs (element x i p) = place_if (not (is_array vs x && is_index (kind vs i))) p ++ kind_breaks vs i
kind_breaks vs (one op a p) = kind_breaks vs a ++ place_if (is_some (kind vs a) && is_none (kind vs (one op a p))) p
kind_breaks vs (two op a b p) = kind_breaks vs a ++ (kind_breaks vs b ++ place_if (is_some (kind vs a) && (is_some (kind vs b) && is_none (kind vs (two op a b p)))) p)
kind_breaks vs (choice c a b p) = kind_breaks vs c ++ (kind_breaks vs a ++ (kind_breaks vs b ++ place_if (is_some (kind vs c) && (is_some (kind vs a) && (is_some (kind vs b) && is_none (kind vs (choice c a b p))))) p))
kind_breaks vs (slice a high low p) = kind_breaks vs a ++ place_if (is_some (kind vs a) && is_none (kind vs (slice a high low p))) p
kind_breaks vs (to_nat a p) = kind_breaks vs a ++ place_if (is_some (kind vs a) && is_none (kind vs (to_nat a p))) p
kind_breaks vs (to_bv a w q p) = kind_breaks vs a ++ place_if (is_some (kind vs a) && is_none (kind vs (to_bv a w q p))) p
kind_breaks vs (paren a _) = kind_breaks vs a
