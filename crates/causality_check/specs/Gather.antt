-- The cells that trees name, as a table with a row for each cell.
use Rattle.std.specs.Prelude.{ℕ, List, [], ◌∷◌, ◌++◌, map}
use Rattle.aif_cells.specs.Tree.{Tree}
use Rattle.aif_cells.specs.Built.{Defined}
use Rattle.aif_cells.specs.Dependences.{cells_in}

-- the cells in the trees of a list
abbrev pub cells_in_each : List Tree → List ℕ
cells_in_each [] = []
cells_in_each (t ∷ ts) = cells_in t ++ cells_in_each ts

-- the cells in conditions and in what stands beside them
abbrev pub cells_in_arms : List (Tree × Tree) → List ℕ
cells_in_arms [] = []
cells_in_arms (a ∷ more) = (cells_in a.0 ++ cells_in a.1) ++ cells_in_arms more

-- for each cell those that its tree names
abbrev pub needs_of : List Defined → List (List ℕ)
needs_of cs = map (λ c. cells_in c.tree) cs
