-- Start values: what a declared constant is, and whether it suits its declaration.
use Rattle.std.specs.Prelude.{ℕ, ◌^◌, ℤ, pos, neg_ℤ, Bool, true, ◌&&◌, nat_le, Option, Some, None, if◌then◌else◌}
use Rattle.quartz_tree.specs.declared.declare.Start.{Start}
use Rattle.quartz_tree.specs.declared.declare.Start.TheVariants as start
use Rattle.quartz_tree.specs.declared.declare.Init.{Init}
use Rattle.quartz_tree.specs.declared.declare.Ty.{Ty}
use Rattle.quartz_tree.specs.declared.declare.Decl.{Decl}
use Rattle.quartz_expr.specs.Values.{of_bool}
use Rattle.quartz_expr.specs.declared.kind.ExprKind.{ExprKind as Kind}
use Rattle.quartz_expr.specs.declared.kind.ExprKind.TheVariants.{Boolean as boolean, Numeric as numeric, Vector as vector}
use Rattle.quartz_expr.specs.Kinds.{counted, kind_of_base, same_kind}
use Rattle.quartz_expr.specs.Intervals.{is_in, type_interval}

abbrev pub constant_kind : Start → Kind
constant_kind (start.Truth b) = boolean
constant_kind (start.Number negative n) = numeric
constant_kind (start.Bits w n) = vector (counted w)

abbrev pub constant_value : Start → ℤ
constant_value (start.Truth b) = of_bool b
constant_value (start.Number negative n) = if negative then neg_ℤ (pos n) else pos n
constant_value (start.Bits w n) = pos n

-- a number is at most 2^62, and bits have at most 32 digits, and so a number that is far below
abbrev pub is_sound_constant : Start → Bool
is_sound_constant (start.Truth b) = true
is_sound_constant (start.Number negative n) = nat_le n (2 ^ 62)
is_sound_constant (start.Bits w n) = nat_le w 32 && nat_le n (2 ^ 62)

-- the constant has the kind of the declared element
abbrev pub has_kind_of : Ty → Start → Bool
has_kind_of t s = same_kind (constant_kind s) (kind_of_base t.base)

-- the constant keeps its own bounds, and lies in the range of its type; a type that breaks its
-- bounds has the range 0..0
abbrev pub is_within : Ty → Start → Bool
is_within t s = is_sound_constant s && is_in (type_interval t) (constant_value s)

-- the start value: that of the constant where it suits the type, and else 0
abbrev pub start_of_init : Ty → Option Init → ℤ
start_of_init t None = pos 0
start_of_init t (Some i) = if has_kind_of t i.value && is_within t i.value then constant_value i.value else pos 0

abbrev pub start_value : Decl → ℤ
start_value d = start_of_init d.ty d.init
