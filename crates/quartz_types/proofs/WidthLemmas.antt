-- No kind is wider than 33, which stands for every width outside 1 to 32.
use Rattle.std.proofs.Common.{◌≡◌, ℕ, ◌+◌, ◌-◌, ◌≤◌, Bool, true, false, not, ◌&&◌, nat_le, nat_lt, Option, Some, None, if◌then◌else◌, refl, sym, ap, ◌∙◌, arith}
use Rattle.std.proofs.lemmas.Bool.Decides.{nat_tests}
use Rattle.quartz_tree.specs.declared.declare.Base.{Base}
use Rattle.quartz_tree.specs.declared.declare.Base.TheVariants as base
use Rattle.quartz_tree.specs.declared.expr.Unary.{Unary}
use Rattle.quartz_tree.specs.declared.expr.Unary.TheVariants.{Not, Neg}
use Rattle.quartz_tree.specs.declared.expr.Binary.{Binary}
use Rattle.quartz_tree.specs.declared.expr.Binary.TheVariants.{Iff, Implies, Or, Xor, And, Eq, Ne, Lt, Le, Gt, Ge, Cat, Add, Sub, Mul, Div, Rem}
use Rattle.quartz_tree.specs.declared.place.Place.{Place}
use Rattle.quartz_tree.specs.Tree.{Tree, truth, number, bits, named, element, one, two, choice, slice, to_nat, to_bv, paren}
use Rattle.quartz_expr.specs.declared.kind.ExprKind.{ExprKind as Kind}
use Rattle.quartz_expr.specs.declared.kind.ExprKind.TheVariants.{Boolean as boolean, Numeric as numeric, Vector as vector}
use Rattle.quartz_expr.specs.Vars.{Vars, base_of, is_array}
use Rattle.quartz_expr.specs.Kinds.{choice_kind, counted, is_boolean, is_numeric, is_vector, kind, kind_if, kind_of_base, kind_with, one_kind, same_kind, slice_kind, slice_width, two_kind, width_of}
use Rattle.quartz_expr.specs.Value.{width_in}

counted_if : (b : Bool) (n : ℕ) → (b ≡ true → n ≤ 33) → (if b then n else 33) ≤ 33
counted_if true n h = h refl
counted_if false n h = omega arith

within : (n : ℕ) → (nat_le 1 n && nat_le n 32) ≡ true → n ≤ 33
within n h = grind (arith, nat_tests)

counted_small : (n : ℕ) → counted n ≤ 33
counted_small n = counted_if (nat_le 1 n && nat_le n 32) n (within n)

base_small : (b : Base) → width_of (kind_of_base b) ≤ 33
base_small base.Bool = omega arith
base_small (base.Nat n) = omega arith
base_small (base.Int n) = omega arith
base_small (base.Bv n) = counted_small n

if_small : (b : Bool) (k : Kind) → width_of k ≤ 33 → width_in (kind_if b k) ≤ 33
if_small true k h = h
if_small false k h = omega arith

with_small : (o : Option Kind) (f : Kind → Option Kind) → ((k : Kind) → width_of k ≤ 33 → width_in (f k) ≤ 33) → width_in o ≤ 33 → width_in (kind_with o f) ≤ 33
with_small None f h e = omega arith
with_small (Some k) f h e = h k e

zero_small : 0 ≤ 33
zero_small = omega arith

one_small : (op : Unary) (k : Kind) → width_of k ≤ 33 → width_in (one_kind op k) ≤ 33
one_small Not k h = if_small (not (is_numeric k)) k h
one_small Neg k h = if_small (is_numeric k) numeric zero_small

two_small : (op : Binary) (a b : Kind) → width_of a ≤ 33 → width_in (two_kind op a b) ≤ 33
two_small Iff a b h = if_small (is_boolean a && is_boolean b) boolean zero_small
two_small Implies a b h = if_small (is_boolean a && is_boolean b) boolean zero_small
two_small Or a b h = if_small (same_kind a b && not (is_numeric a)) a h
two_small Xor a b h = if_small (same_kind a b && not (is_numeric a)) a h
two_small And a b h = if_small (same_kind a b && not (is_numeric a)) a h
two_small Eq a b h = if_small (same_kind a b) boolean zero_small
two_small Ne a b h = if_small (same_kind a b) boolean zero_small
two_small Lt a b h = if_small (is_numeric a && is_numeric b) boolean zero_small
two_small Le a b h = if_small (is_numeric a && is_numeric b) boolean zero_small
two_small Gt a b h = if_small (is_numeric a && is_numeric b) boolean zero_small
two_small Ge a b h = if_small (is_numeric a && is_numeric b) boolean zero_small
two_small Cat a b h = if_small (is_vector a && is_vector b) (vector (counted (width_of a + width_of b))) (counted_small (width_of a + width_of b))
two_small Add a b h = if_small (is_numeric a && is_numeric b) numeric zero_small
two_small Sub a b h = if_small (is_numeric a && is_numeric b) numeric zero_small
two_small Mul a b h = if_small (is_numeric a && is_numeric b) numeric zero_small
two_small Div a b h = if_small (is_numeric a && is_numeric b) numeric zero_small
two_small Rem a b h = if_small (is_numeric a && is_numeric b) numeric zero_small

cut_small : (b : Bool) (n : ℕ) → (if b then 33 else counted n) ≤ 33
cut_small true n = omega arith
cut_small false n = counted_small n

slice_small : (high : ℕ) (low : Option ℕ) (k : Kind) → width_in (slice_kind high low k) ≤ 33
slice_small high None k = if_small (is_vector k) boolean zero_small
slice_small high (Some low) k = if_small (is_vector k) (vector (slice_width high low)) (cut_small (nat_lt high low) (high - low + 1))

pub kind_small : (vs : Vars) (t : Tree ℕ) → width_in (kind vs t) ≤ 33
kind_small vs (truth _ _) = zero_small
kind_small vs (number _ _) = zero_small
kind_small vs (bits w _ _) = counted_small w
kind_small vs (named x _) = if_small (not (is_array vs x)) (kind_of_base (base_of vs x)) (base_small (base_of vs x))
kind_small vs (element x i _) = with_small (kind vs i) _ (λ k h. if_small (is_array vs x && is_numeric k) (kind_of_base (base_of vs x)) (base_small (base_of vs x))) (kind_small vs i)
kind_small vs (one op a _) = with_small (kind vs a) (one_kind op) (one_small op) (kind_small vs a)
kind_small vs (two op a b _) = with_small (kind vs a) _ (λ k h. with_small (kind vs b) _ (λ j g. two_small op k j h) (kind_small vs b)) (kind_small vs a)
kind_small vs (choice c a b _) = with_small (kind vs c) _ (λ l f. with_small (kind vs a) _ (λ k h. with_small (kind vs b) _ (λ j g. if_small (is_boolean l && same_kind k j) k h) (kind_small vs b)) (kind_small vs a)) (kind_small vs c)
kind_small vs (slice a high low _) = with_small (kind vs a) (slice_kind high low) (λ k h. slice_small high low k) (kind_small vs a)
kind_small vs (to_nat a _) = with_small (kind vs a) _ (λ k h. if_small (is_vector k) numeric zero_small) (kind_small vs a)
kind_small vs (to_bv a w _ _) = with_small (kind vs a) _ (λ k h. if_small (is_numeric k) (vector (counted w)) (counted_small w)) (kind_small vs a)
kind_small vs (paren a _) = kind_small vs a

-- the kind of a choice, from those of its parts
pub choice_is : (vs : Vars) (t c a b : Tree ℕ) (p : Place) (l m n k : Option Kind) → t ≡ choice c a b p → l ≡ kind vs c → m ≡ kind vs a → n ≡ kind vs b
    → k ≡ kind_with l (λ h. kind_with m (λ i. kind_with n (choice_kind h i))) → k ≡ kind vs t
choice_is vs t c a b p l m n k whole d e f h =
    h ∙ ap (λ o. kind_with o (λ h. kind_with m (λ i. kind_with n (choice_kind h i)))) d
    ∙ ap (λ o. kind_with (kind vs c) (λ h. kind_with o (λ i. kind_with n (choice_kind h i)))) e
    ∙ ap (λ o. kind_with (kind vs c) (λ h. kind_with (kind vs a) (λ i. kind_with o (choice_kind h i)))) f
    ∙ ap (kind vs) (sym whole)
