-- What a guard that acts says of inputs, registers and cells.
use Rattle.std.specs.Prelude.{◌≡◌, ℕ, Bool, true, false, not, List, Some, slice_get}
use Rattle.aif_cells.specs.declared.reference.Ref.{Ref}
use Rattle.aif_cells.specs.declared.reference.Ref.TheVariants as ref
use Rattle.aif_cells.specs.declared.tree.TreeOne.TheVariants.{Not}
use Rattle.aif_cells.specs.declared.tree.TreeTwo.TheVariants.{And, Or}
use Rattle.aif_cells.specs.Tree.{Tree, value, one, two}
use Rattle.aif_cells.specs.Built.{Defined}

-- a signed reference: with plus (true) it says that the reference isn't 0, with minus that it is. Those of a tree with a sign say
-- what holds wherever the tree isn't 0, or is 0: the tree's own reference and what its cell's tree says; all that both parts of an
-- `and` with plus and of an `or` with minus say; and what both parts of an `or` with plus and of an `and` with minus say alike
pub data Must (cs : List Defined) : Tree → (sign : Bool) → Ref → (its_sign : Bool) → Type 0 where
  of_input : (i : ℕ) (s : Bool) → Must cs (value (ref.Input i)) s (ref.Input i) s
  of_register : (k : ℕ) (s : Bool) → Must cs (value (ref.Reg k)) s (ref.Reg k) s
  of_cell : (c : ℕ) (s : Bool) → Must cs (value (ref.Cell c)) s (ref.Cell c) s
  of_cell_tree : (c : ℕ) (s : Bool) (d : Defined) (r : Ref) (t : Bool) → slice_get cs c ≡ Some d → Must cs d.tree s r t → Must cs (value (ref.Cell c)) s r t
  of_not : (a : Tree) (s : Bool) (r : Ref) (t : Bool) → Must cs a (not s) r t → Must cs (one Not a) s r t
  of_left_and : (a b : Tree) (r : Ref) (t : Bool) → Must cs a true r t → Must cs (two And a b) true r t
  of_right_and : (a b : Tree) (r : Ref) (t : Bool) → Must cs b true r t → Must cs (two And a b) true r t
  of_left_or : (a b : Tree) (r : Ref) (t : Bool) → Must cs a false r t → Must cs (two Or a b) false r t
  of_right_or : (a b : Tree) (r : Ref) (t : Bool) → Must cs b false r t → Must cs (two Or a b) false r t
  of_both_or : (a b : Tree) (r : Ref) (t : Bool) → Must cs a true r t → Must cs b true r t → Must cs (two Or a b) true r t
  of_both_and : (a b : Tree) (r : Ref) (t : Bool) → Must cs a false r t → Must cs b false r t → Must cs (two And a b) false r t
