-- The value of a tree under values of what it names. Every tree has one.
use Rattle.std.specs.Prelude.{ℕ, ◌+◌, ◌-◌, ◌/◌, ◌%◌, ◌^◌, ℤ, pos, ◌+ℤ◌, ◌-ℤ◌, ◌*ℤ◌, neg_ℤ, int_lt, int_le, Bool, false, not, ◌&&◌, ◌||◌, List, [], ◌∷◌, slice_get, Option, Some, None, unwrap_or, if◌then◌else◌}
use Rattle.std.specs.Int.{w64, int_wrap, int_bit_and, int_bit_or, int_bit_xor, cast_unsigned}
use Rattle.quartz_expr.specs.Values.{of_bool, is_zero, same_value, element_at}
use Rattle.quartz_expr.specs.Value.{quotient, remainder}
use Rattle.quartz_expr.specs.Resolve.{same_bool}
use Rattle.aif_cells.specs.declared.reference.Ref.{Ref}
use Rattle.aif_cells.specs.declared.reference.Ref.TheVariants as ref
use Rattle.aif_cells.specs.declared.tree.TreeOne.{TreeOne}
use Rattle.aif_cells.specs.declared.tree.TreeOne.TheVariants as one_op
use Rattle.aif_cells.specs.declared.tree.TreeTwo.{TreeTwo}
use Rattle.aif_cells.specs.declared.tree.TreeTwo.TheVariants as two_op
use Rattle.aif_cells.specs.Tree.{Tree, value, one, two, ite, sel, fit, bnot, cat, bits, Trees, none, item}

-- values of all input elements, registers and cells
pub record Assignment : Type 0 where
  pub inputs : ℕ → ℤ
  pub registers : ℕ → ℤ
  pub cells : ℕ → ℤ

-- the number at an index, and 0 where there is none
abbrev pub number_at : List ℤ → ℕ → ℤ
number_at zs i = unwrap_or (slice_get zs i) (pos 0)

-- the values in three lists, and 0 for what they lack
abbrev pub listed : (inputs registers cells : List ℤ) → Assignment
listed is rs cs = record { inputs = number_at is; registers = number_at rs; cells = number_at cs }

-- the value of a reference
abbrev pub read : Assignment → Ref → ℤ
read σ (ref.Lit z) = z
read σ (ref.Input i) = σ.inputs i
read σ (ref.Reg r) = σ.registers r
read σ (ref.Cell c) = σ.cells c

-- 0 is false, and every other number is true
abbrev pub holds : ℤ → Bool
holds z = not (is_zero z)

abbrev pub truth : Assignment → Ref → Bool
truth σ r = holds (read σ r)

-- the number from -2^63 to 2^63 - 1 that differs from this one by a multiple of 2^64
abbrev pub wrapped : ℤ → ℤ
wrapped z = int_wrap w64 z

abbrev pub apply_one : TreeOne → ℤ → ℤ
apply_one one_op.Not a = of_bool (is_zero a)
apply_one one_op.Neg a = wrapped (neg_ℤ a)

-- the operators on bits read a number as its 64 bits in two's complement
abbrev pub apply_two : TreeTwo → ℤ → ℤ → ℤ
apply_two two_op.And a b = of_bool (holds a && holds b)
apply_two two_op.Or a b = of_bool (holds a || holds b)
apply_two two_op.Xor a b = of_bool (not (same_bool (holds a) (holds b)))
apply_two two_op.Eq a b = of_bool (same_value a b)
apply_two two_op.Ne a b = of_bool (not (same_value a b))
apply_two two_op.Lt a b = of_bool (int_lt a b)
apply_two two_op.Le a b = of_bool (int_le a b)
apply_two two_op.Gt a b = of_bool (int_lt b a)
apply_two two_op.Ge a b = of_bool (int_le b a)
apply_two two_op.Add a b = wrapped (a +ℤ b)
apply_two two_op.Sub a b = wrapped (a -ℤ b)
apply_two two_op.Mul a b = wrapped (a *ℤ b)
apply_two two_op.Div a b = wrapped (quotient a b)
apply_two two_op.Rem a b = remainder a b
apply_two two_op.Band a b = int_bit_and w64 a b
apply_two two_op.Bor a b = int_bit_or w64 a b
apply_two two_op.Bxor a b = int_bit_xor w64 a b

-- the number where it lies from low to high, else 0
abbrev pub fitted : (low high a : ℤ) → ℤ
fitted low high a = if int_le low a && int_le a high then a else pos 0

-- the n lowest bits flipped
abbrev pub flipped : ℕ → ℤ → ℤ
flipped n a = int_bit_xor w64 a (wrapped (pos (2 ^ n - 1)))

-- a above the n bits of b
abbrev pub stacked : ℕ → ℤ → ℤ → ℤ
stacked n a b = wrapped ((a *ℤ pos (2 ^ n)) +ℤ b)

-- the bits from high down to low, bit 0 the lowest
abbrev pub bits_between : (high low : ℕ) → ℤ → ℤ
bits_between high low a = wrapped (pos (cast_unsigned w64 a / 2 ^ low % 2 ^ (high - low + 1)))

-- the value of a tree, and those of a list of trees
abbrev mutual
  pub worth : Assignment → Tree → ℤ
  worth σ (value r) = read σ r
  worth σ (one op a) = apply_one op (worth σ a)
  worth σ (two op a b) = apply_two op (worth σ a) (worth σ b)
  worth σ (ite c a b) = if holds (worth σ c) then worth σ a else worth σ b
  worth σ (sel i ts) = element_at (worths σ ts) (worth σ i)
  worth σ (fit a low high) = fitted low high (worth σ a)
  worth σ (bnot a n) = flipped n (worth σ a)
  worth σ (cat a b n) = stacked n (worth σ a) (worth σ b)
  worth σ (bits a high low) = bits_between high low (worth σ a)

  pub worths : Assignment → Trees → List ℤ
  worths σ none = []
  worths σ (item t ts) = worth σ t ∷ worths σ ts

-- the value beside the first condition that holds
abbrev pub case_worth : Assignment → List (Tree × Tree) → Option ℤ
case_worth σ [] = None
case_worth σ (a ∷ more) = if holds (worth σ a.0) then Some (worth σ a.1) else case_worth σ more

-- one of the trees holds
abbrev pub one_holds : Assignment → List Tree → Bool
one_holds σ [] = false
one_holds σ (t ∷ ts) = holds (worth σ t) || one_holds σ ts
