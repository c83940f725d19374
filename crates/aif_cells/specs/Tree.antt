-- Trees as plain trees, with no pointers.
use Rattle.std.specs.Prelude.{ℕ, ℤ, List, [], ◌∷◌}
use Rattle.aif_cells.specs.declared.reference.Ref.{Ref}
use Rattle.aif_cells.specs.declared.tree.TreeOne.{TreeOne}
use Rattle.aif_cells.specs.declared.tree.TreeTwo.{TreeTwo}
use Rattle.aif_cells.specs.declared.tree.TreeTwo.TheVariants.{Or}
use Rattle.aif_cells.specs.declared.tree.Tree.{Tree as Boxes}
use Rattle.aif_cells.specs.declared.tree.Tree.TheOpen.{Tree-F}
use Rattle.aif_cells.specs.declared.tree.Tree.TheFolds.{fold-Tree}

-- a tree, and a list of trees
mutual
  pub data Tree : Type 0 where
    value : Ref → Tree
    one : TreeOne → Tree → Tree
    two : TreeTwo → (left right : Tree) → Tree
    ite : (c a b : Tree) → Tree
    sel : Tree → Trees → Tree
    fit : Tree → (low high : ℤ) → Tree
    bnot : Tree → ℕ → Tree
    cat : (high low : Tree) → ℕ → Tree
    bits : Tree → (high low : ℕ) → Tree

  pub data Trees : Type 0 where
    none : Trees
    item : Tree → Trees → Trees

abbrev pub trees : List Tree → Trees
trees [] = none
trees (t ∷ ts) = item t (trees ts)

-- the first tree whose condition holds, else the last one
abbrev pub cases : List (Tree × Tree) → Tree → Tree
cases [] b = b
cases (a ∷ more) b = ite a.0 a.1 (cases more b)

-- one of the trees holds
abbrev pub any : List Tree → Tree → Tree
any [] b = b
any (t ∷ ts) b = two Or t (any ts b)

-- one level, with the plain tree of each part in its place
abbrev pub tree_step : Tree-F Tree → Tree
tree_step (Tree-F.Value r) = value r
tree_step (Tree-F.One op a) = one op a.value
tree_step (Tree-F.Two op a b) = two op a.value b.value
tree_step (Tree-F.Ite c a b) = ite c.value a.value b.value
tree_step (Tree-F.Sel i ts) = sel i.value (trees ts.items)
tree_step (Tree-F.Fit a low high) = fit a.value low high
tree_step (Tree-F.Bnot a n) = bnot a.value n
tree_step (Tree-F.Cat a b n) = cat a.value b.value n
tree_step (Tree-F.Bits a high low) = bits a.value high low
tree_step (Tree-F.Cases arms b) = cases arms.items b.value
tree_step (Tree-F.Any ts b) = any ts.items b.value

-- the plain tree
abbrev pub tree : Boxes → Tree
tree = fold-Tree Tree tree_step
