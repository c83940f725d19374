-- Which numbers trees name, and the blocks and tables that hold what cells' trees say.
use Rattle.std.specs.Prelude.{◌≡◌, ℕ, ◌/◌, ◌<◌, ◌≤◌, max, Bool, true, false, List, [], ◌∷◌, length, Some, Contains, slice_get, slice_index_or, unwrap_or}
use Rattle.aif_cells.specs.declared.reference.Ref.{Ref}
use Rattle.aif_cells.specs.declared.cells.Action.{Action}
use Rattle.aif_cells.specs.Tree.{Tree, value, one, two}
use Rattle.aif_cells.specs.Built.{Defined}
use Rattle.write_conflicts.specs.declared.block.Group.{Group}
use Rattle.write_conflicts.specs.declared.block.Block.{Block}
use Rattle.write_conflicts.specs.declared.block.Said.{Said}
use Rattle.write_conflicts.specs.declared.block.Both.{Both}
use Rattle.write_conflicts.specs.Must.{Must}
use Rattle.write_conflicts.specs.Blocks.{Marks, Says, in_addition, nothing, number_in, own, ref_at, silent, told}

-- the number of a reference of the group, or 0
abbrev pub greatest_number : Group → Ref → ℕ
greatest_number g r = unwrap_or (number_in g r) 0

-- the greatest number of the group that a tree names under operators of one and of two trees, or 0
abbrev pub greatest_in : Group → Tree → ℕ
greatest_in g (value r) = greatest_number g r
greatest_in g (one _ a) = greatest_in g a
greatest_in g (two _ a b) = max (greatest_in g a) (greatest_in g b)
greatest_in g _ = 0

-- the greatest of some numbers and a last one
abbrev pub greatest_of_all : List ℕ → ℕ → ℕ
greatest_of_all [] n = n
greatest_of_all (m ∷ ms) n = max m (greatest_of_all ms n)

-- a reference has its place in one of the blocks
pub record HasPlace (bs : List Block) (r : Ref) : Type 0 where
  pub block : Block
  pub at_block : ℕ
  pub is_block : slice_get bs at_block ≡ Some block
  pub at_bit : ℕ
  pub within : at_bit < 64
  pub is_there : ref_at block at_bit ≡ r

-- all that a guard says where it acts is said of references in the blocks
abbrev pub IsCovered : List Defined → List Block → (guard : Ref) → Type 0
IsCovered cs bs g = (r : Ref) (s : Bool) → Must cs (value g) true r s → HasPlace bs r

-- so it is for each action's guard
abbrev pub AreCovered : List Defined → List Block → List Action → Type 0
AreCovered cs bs actions = (i : ℕ) (a : Action) → slice_get actions i ≡ Some a → IsCovered cs bs a.guard

-- the blocks of a group reach to the greatest number that cells and guards name
pub record HoldsGroup (cs : List Defined) (actions : List Action) (bs : List Block) (g : Group) : Type 0 where
  pub greatest : ℕ
  pub of_cells : (c : ℕ) (d : Defined) → slice_get cs c ≡ Some d → greatest_in g d.tree ≤ greatest
  pub of_guards : (i : ℕ) (a : Action) → slice_get actions i ≡ Some a → greatest_number g a.guard ≤ greatest
  pub held : (n : ℕ) → n ≤ greatest / 64 → Contains bs (record { group = g; at = n })

-- the table has for each cell what its tree says
pub record IsTable (cs : List Defined) (b : Block) (τ : List Both) : Type 0 where
  pub size : length τ ≡ length cs
  pub rows : (c : ℕ) (d : Defined) → slice_get cs c ≡ Some d → Says cs b d.tree (slice_index_or τ c nothing)

-- the table has what their trees say for the cells that are taken
pub record IsTableFor (cs : List Defined) (b : Block) (taken : List ℕ) (τ : List Both) : Type 0 where
  pub size : length τ ≡ length cs
  pub rows : (c : ℕ) (d : Defined) → Contains taken c → slice_get cs c ≡ Some d → Says cs b d.tree (slice_index_or τ c nothing)

-- what a guard says of a block's references where it acts
abbrev pub guard_says : Block → List Both → Action → Said
guard_says b τ a = (in_addition (own b a.guard) (told τ a.guard)).plus

-- the words say exactly what the guard says where it acts
pub record Tells (cs : List Defined) (b : Block) (guard : Ref) (v : Said) : Type 0 where
  pub yes : Marks v.yes b (λ x. Must cs (value guard) true x true)
  pub no : Marks v.no b (λ x. Must cs (value guard) true x false)

-- what an action's guard says of a block's references, from a column for each block
abbrev pub said_at : List (List Said) → (p i : ℕ) → Said
said_at columns p i = slice_index_or (slice_index_or columns p []) i silent

-- a column for each block, with what each action's guard says of its references
pub record AreColumns (cs : List Defined) (bs : List Block) (actions : List Action) (columns : List (List Said)) : Type 0 where
  pub size : length columns ≡ length bs
  pub tells : (p i : ℕ) (b : Block) (a : Action) → slice_get bs p ≡ Some b → slice_get actions i ≡ Some a → Tells cs b a.guard (said_at columns p i)
