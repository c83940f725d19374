-- The order in which cells are computed, and the cycle that is named where there is none.
use Rattle.std.specs.Prelude.{◌≡◌, ℕ, ◌<◌, ◌≤◌, ◌⊎◌, List, [], ◌∷◌, length, take, Some, Contains, slice_get}
use Rattle.aif_cells.specs.Built.{Defined}
use Rattle.aif_cells.specs.Dependences.{DependsOn}

-- a cell that isn't taken, and all that it depends on are
pub record IsReady (cs : List Defined) (taken : List ℕ) (k : ℕ) : Type 0 where
  pub is_cell : k < length cs
  pub left : ¬ Contains taken k
  pub free : (d : ℕ) → DependsOn cs k d → Contains taken d

-- the least-numbered of the ready cells
pub record IsNext (cs : List Defined) (taken : List ℕ) (k : ℕ) : Type 0 where
  pub ready : IsReady cs taken k
  pub least : (j : ℕ) → IsReady cs taken j → k ≤ j

-- each cell of the list is the next one after those before it
abbrev pub TakesInTurn : List Defined → List ℕ → Type 0
TakesInTurn cs order = (i k : ℕ) → slice_get order i ≡ Some k → IsNext cs (take i order) k

-- the order of all cells
pub record IsOrder (cs : List Defined) (order : List ℕ) : Type 0 where
  pub in_turn : TakesInTurn cs order
  pub all : length order ≡ length cs

-- each cell of the path depends on the next one, and the last on this one
abbrev pub LeadsTo : List Defined → (target k : ℕ) → List ℕ → Type 0
LeadsTo cs target k [] = DependsOn cs k target
LeadsTo cs target k (j ∷ path) = DependsOn cs k j × LeadsTo cs target j path

-- a cycle from this cell through the others back to it
abbrev pub IsCycle : List Defined → (k : ℕ) → List ℕ → Type 0
IsCycle cs k path = LeadsTo cs k k path

-- the first list is not after the second, by the first number at which they differ
abbrev pub IsNotAfter : List ℕ → List ℕ → Type 0
IsNotAfter [] ys = Unit {0}
IsNotAfter (x ∷ xs) [] = ⊥
IsNotAfter (x ∷ xs) (y ∷ ys) = (x < y) ⊎ ((x ≡ y) × IsNotAfter xs ys)

-- the cycle that is named: it starts at the least-numbered cell that lies on a cycle, is a shortest
-- one through it, and is the least such list
pub record IsNamedCycle (cs : List Defined) (k : ℕ) (path : List ℕ) : Type 0 where
  pub cycle : IsCycle cs k path
  pub first : (j : ℕ) (other : List ℕ) → IsCycle cs j other → k ≤ j
  pub shortest : (other : List ℕ) → IsCycle cs k other → length path ≤ length other
  pub least : (other : List ℕ) → IsCycle cs k other → length other ≡ length path → IsNotAfter path other
