-- Values of cells that are computed one after another.
use Rattle.std.specs.Prelude.{◌≡◌, ℕ, ℤ, List, Some, Contains, slice_get}
use Rattle.aif_cells.specs.Worth.{listed, number_at, worth}
use Rattle.aif_cells.specs.Built.{Defined}
use Rattle.aif_cells.specs.Dependences.{DependsOn}

-- each cell that is done meets its equation, and all that it depends on are done
pub record AreDone (cs : List Defined) (inputs registers values : List ℤ) (done : List ℕ) : Type 0 where
  pub met : (k : ℕ) (c : Defined) → Contains done k → slice_get cs k ≡ Some c → number_at values k ≡ worth (listed inputs registers values) c.tree
  pub closed : (k d : ℕ) → Contains done k → DependsOn cs k d → Contains done d
