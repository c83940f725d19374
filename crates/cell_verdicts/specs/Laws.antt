-- What is decided of cells and of actions over them.
use Rattle.std.specs.Prelude.{◌≡◌, ◌⊎◌, ◌↔◌, ℕ, true, List, ◌∷◌, Contains}
use Rattle.quartz_tree.specs.declared.place.Place.{Place}
use Rattle.quartz_expr.specs.Terms.{Term}
use Rattle.quartz_expr.specs.Vars.{Vars}
use Rattle.aif_cells.specs.declared.cells.Action.{Action}
use Rattle.aif_cells.specs.Built.{Defined}
use Rattle.aif_cells.specs.Order.{IsOrder}
use Rattle.absence_reaction.specs.Meaning.{is_among}
use Rattle.statement_cells.specs.Earlier.{value_cells}
use Rattle.statement_cells.specs.Whole.{compiled}
use Rattle.causality_check.specs.Order.{HasNoCycle, IsCycleAt, NamesCells}
use Rattle.write_conflicts.specs.Loose.{Scene, IsLoosePair}

-- cells that name cells alone have no cycle, or one is named
abbrev pub CyclesAreNamed : Type 0
CyclesAreNamed = (cs : List Defined) → NamesCells cs → HasNoCycle cs ⊎ ((cells : List ℕ) × (p : Place) × IsCycleAt cs cells p)

-- of the cells of a module the first one of a cycle that is named is a value cell of an output or of a local
abbrev pub CyclesBeginAtValueCells : Type 0
CyclesBeginAtValueCells = (vs : Vars) (t : Term) (k : ℕ) (path : List ℕ) (p : Place) → IsCycleAt (compiled vs t).cells (k ∷ path) p → is_among k (value_cells vs t) ≡ true

-- over cells in an order the loose pairs of actions are the elements of a list
abbrev pub LoosePairsAreListed : Type 0
LoosePairsAreListed = (s : Scene) (order : List ℕ) (actions : List Action) → IsOrder s.cells order
    → (pairs : List (ℕ × ℕ)) × ((i j : ℕ) → Contains pairs (i, j) ↔ IsLoosePair s actions i j)
