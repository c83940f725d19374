-- What the order of cells asks of them, and what it says where there is none.
use Rattle.std.specs.Prelude.{◌≡◌, ℕ, ◌<◌, List, [], ◌∷◌, length, Some, slice_get}
use Rattle.quartz_tree.specs.declared.place.Place.{Place}
use Rattle.aif_cells.specs.Built.{Defined}
use Rattle.aif_cells.specs.Dependences.{DependsOn}
use Rattle.aif_cells.specs.Order.{IsCycle, IsNamedCycle}
use Rattle.causality_check.specs.declared.fault.OrderFault.{OrderFault}
use Rattle.causality_check.specs.declared.fault.OrderFault.TheVariants.{Cycle, NoMemory}

-- each cell that a tree names exists
abbrev pub NamesCells : List Defined → Type 0
NamesCells cs = (k d : ℕ) → DependsOn cs k d → d < length cs

-- no cell depends on itself, by whatever way
abbrev pub HasNoCycle : List Defined → Type 0
HasNoCycle cs = (k : ℕ) (path : List ℕ) → ¬ IsCycle cs k path

-- the place is that of the cell
abbrev pub IsPlaceOf : List Defined → (k : ℕ) → Place → Type 0
IsPlaceOf cs k place = (c : Defined) × (slice_get cs k ≡ Some c) × (place ≡ c.place)

-- the cells are the cycle that is named, from its first cell on, and the place is that of the first one
abbrev pub IsCycleAt : List Defined → (cells : List ℕ) → Place → Type 0
IsCycleAt cs [] place = ⊥
IsCycleAt cs (k ∷ path) place = IsNamedCycle cs k path × IsPlaceOf cs k place

-- a fault says which cycle there is; want of memory says nothing
abbrev pub IsFaultOf : List Defined → OrderFault → Type 0
IsFaultOf cs (Cycle cells place) = IsCycleAt cs cells.items place
IsFaultOf cs NoMemory = Unit {0}
