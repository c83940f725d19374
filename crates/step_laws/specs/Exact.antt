-- Trees in which no number wraps around.
use Rattle.std.specs.Prelude.{◌≡◌, ℕ, ◌+◌, ◌-◌, ◌/◌, ◌%◌, ◌^◌, ℤ, pos, ◌+ℤ◌, ◌-ℤ◌, ◌*ℤ◌, neg_ℤ, List, Some, slice_get}
use Rattle.std.specs.Int.{w64, cast_unsigned}
use Rattle.quartz_expr.specs.Value.{quotient}
use Rattle.quartz_expr.specs.Vars.{Vars}
use Rattle.quartz_expr.specs.Terms.{Term}
use Rattle.quartz_expr.specs.Steps.{State}
use Rattle.aif_cells.specs.declared.tree.TreeOne.{TreeOne}
use Rattle.aif_cells.specs.declared.tree.TreeOne.TheVariants as one_op
use Rattle.aif_cells.specs.declared.tree.TreeTwo.{TreeTwo}
use Rattle.aif_cells.specs.declared.tree.TreeTwo.TheVariants as two_op
use Rattle.aif_cells.specs.Tree.{Tree, value, one, two, ite, sel, fit, bnot, cat, bits, Trees, none, item}
use Rattle.aif_cells.specs.Built.{Defined}
use Rattle.aif_cells.specs.Worth.{Assignment, worth, wrapped}
use Rattle.causality_check.specs.Order.{HasNoCycle}
use Rattle.statement_cells.specs.Whole.{compiled}
use Rattle.statement_cells.specs.Meaning.{IsSoundModule, StandsFor}
use Rattle.macro_steps.specs.Laws.{IsSolved}
use Rattle.step_laws.specs.Bits.{RegistersAreBits}
use Rattle.step_laws.specs.Conditions.{HasConditions}

-- the number is one of the machine's, so that it stays as it is
abbrev pub Stays : ℤ → Type 0
Stays z = wrapped z ≡ z

-- what an operator makes of that number stays as it is
abbrev pub StaysOne : TreeOne → ℤ → Type 0
StaysOne one_op.Not a = Unit {0}
StaysOne one_op.Neg a = Stays (neg_ℤ a)

-- and of these two; other operators make numbers that need no wrapping
abbrev pub StaysTwo : TreeTwo → ℤ → ℤ → Type 0
StaysTwo two_op.Add a b = Stays (a +ℤ b)
StaysTwo two_op.Sub a b = Stays (a -ℤ b)
StaysTwo two_op.Mul a b = Stays (a *ℤ b)
StaysTwo two_op.Div a b = Stays (quotient a b)
StaysTwo _ a b = Unit {0}

-- no number that is made in the tree wraps around
abbrev mutual
  pub IsExact : Assignment → Tree → Type 0
  IsExact σ (value r) = Unit {0}
  IsExact σ (one op a) = IsExact σ a × StaysOne op (worth σ a)
  IsExact σ (two op a b) = IsExact σ a × IsExact σ b × StaysTwo op (worth σ a) (worth σ b)
  IsExact σ (ite c a b) = IsExact σ c × IsExact σ a × IsExact σ b
  IsExact σ (sel i ts) = IsExact σ i × AreExact σ ts
  IsExact σ (fit a _ _) = IsExact σ a
  IsExact σ (bnot a n) = IsExact σ a × Stays (pos (2 ^ n - 1))
  IsExact σ (cat a b n) = IsExact σ a × IsExact σ b × Stays ((worth σ a *ℤ pos (2 ^ n)) +ℤ worth σ b)
  IsExact σ (bits a high low) = IsExact σ a × Stays (pos (cast_unsigned w64 (worth σ a) / 2 ^ low % 2 ^ (high - low + 1)))

  pub AreExact : Assignment → Trees → Type 0
  AreExact σ none = Unit {0}
  AreExact σ (item t ts) = IsExact σ t × AreExact σ ts

-- in a macro step from registers that are bits no number that is made in a cell's tree wraps around
abbrev pub TreesAreExact : Type 0
TreesAreExact = (vs : Vars) (body : Term) (s : State) (ins : List (List ℤ)) (σ : Assignment)
    → IsSoundModule vs body → HasConditions vs body → HasNoCycle (compiled vs body).cells → StandsFor vs body σ.registers s → IsSolved vs body ins σ → RegistersAreBits vs body σ.registers
    → (k : ℕ) (c : Defined) → slice_get (compiled vs body).cells k ≡ Some c → IsExact σ c.tree
