-- How heavy the computation of a cell is.
use Rattle.std.specs.Prelude.{ℕ, ◌+◌, min}
use Rattle.aif_cells.specs.declared.tree.Tree.{Tree as Boxes}
use Rattle.aif_cells.specs.Tree.{Tree, value, one, two, ite, sel, fit, bnot, cat, bits, Trees, none, item, tree}

-- the operators of a tree, and those of a list of trees. Numbers that an operator takes are none
abbrev mutual
  pub operators : Tree → ℕ
  operators (value _) = 0
  operators (one _ a) = operators a + 1
  operators (two _ a b) = operators a + operators b + 1
  operators (ite c a b) = operators c + operators a + operators b + 1
  operators (sel i ts) = operators i + operators_in ts + 1
  operators (fit a _ _) = operators a + 1
  operators (bnot a _) = operators a + 1
  operators (cat a b _) = operators a + operators b + 1
  operators (bits a _ _) = operators a + 1

  pub operators_in : Trees → ℕ
  operators_in none = 0
  operators_in (item t ts) = operators t + operators_in ts

-- a number that is held at the greatest one of 32 bits
abbrev pub held : ℕ → ℕ
held n = min n 4294967295

-- 1 and the operators
abbrev pub weight : Tree → ℕ
weight t = held (operators t + 1)

-- the operators of a tree of a list, of a choice before the last tree of a chain with its `ite`, and of an alternative before it
-- with its `or`
abbrev pub item_operators : Boxes → ℕ
item_operators t = operators (tree t)

abbrev pub arm_operators : Boxes × Boxes → ℕ
arm_operators a = operators (tree a.0) + operators (tree a.1) + 1

abbrev pub alternative_operators : Boxes → ℕ
alternative_operators t = operators (tree t) + 1
