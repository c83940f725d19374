-- Cells by number, each with the cells that it needs, and the ways along them.
use Rattle.std.specs.Prelude.{◌≡◌, ℕ, zero, suc, ◌<◌, List, [], length, Contains, slice_index_or}

-- what a cell needs, and nothing where there is no such cell
abbrev pub row : List (List ℕ) → ℕ → List ℕ
row g k = slice_index_or g k []

abbrev pub Needs : List (List ℕ) → (k d : ℕ) → Type 0
Needs g k d = Contains (row g k) d

-- each cell that is needed is one of the cells
abbrev pub IsClosed : List (List ℕ) → Type 0
IsClosed g = (k d : ℕ) → Needs g k d → d < length g

-- a way of so many steps from one cell to another
abbrev pub Walk : List (List ℕ) → ℕ → (a b : ℕ) → Type 0
Walk g zero a b = a ≡ b
Walk g (suc n) a b = (c : ℕ) × Needs g a c × Walk g n c b

abbrev pub Reaches : List (List ℕ) → (a b : ℕ) → Type 0
Reaches g a b = (n : ℕ) × Walk g n a b

-- a way of at least one step from a cell to itself
abbrev pub IsOnCycle : List (List ℕ) → ℕ → Type 0
IsOnCycle g k = (n : ℕ) × Walk g (suc n) k k
