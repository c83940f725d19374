-- The cells on which a cell depends: those that its tree names.
use Rattle.std.specs.Prelude.{◌≡◌, ℕ, List, [], ◌∷◌, ◌++◌, Some, Contains, slice_get}
use Rattle.aif_cells.specs.declared.reference.Ref.{Ref}
use Rattle.aif_cells.specs.declared.reference.Ref.TheVariants as ref
use Rattle.aif_cells.specs.Tree.{Tree, value, one, two, ite, sel, fit, bnot, cat, bits, Trees, none, item}
use Rattle.aif_cells.specs.Built.{Defined}

abbrev pub cells_named : Ref → List ℕ
cells_named (ref.Cell c) = c ∷ []
cells_named _ = []

-- the cells in a tree, from left to right
abbrev mutual
  pub cells_in : Tree → List ℕ
  cells_in (value r) = cells_named r
  cells_in (one _ a) = cells_in a
  cells_in (two _ a b) = cells_in a ++ cells_in b
  cells_in (ite c a b) = cells_in c ++ (cells_in a ++ cells_in b)
  cells_in (sel i ts) = cells_in i ++ cells_in_all ts
  cells_in (fit a _ _) = cells_in a
  cells_in (bnot a _) = cells_in a
  cells_in (cat a b _) = cells_in a ++ cells_in b
  cells_in (bits a _ _) = cells_in a

  pub cells_in_all : Trees → List ℕ
  cells_in_all none = []
  cells_in_all (item t ts) = cells_in t ++ cells_in_all ts

-- a cell depends on another one
abbrev pub DependsOn : List Defined → (k d : ℕ) → Type 0
DependsOn cs k d = (c : Defined) × (slice_get cs k ≡ Some c) × Contains (cells_in c.tree) d
