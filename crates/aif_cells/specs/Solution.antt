-- Assignments that meet the equations of cells: each cell has the value of its tree.
use Rattle.std.specs.Prelude.{◌≡◌, ℕ, ◌<◌, ◌≤◌, Bool, false, List, length, Some, slice_get}
use Rattle.aif_cells.specs.Worth.{Assignment, worth}
use Rattle.aif_cells.specs.Built.{Defined}

-- each cell meets its equation, but perhaps those that are free
abbrev pub MeetsBut : (free : ℕ → Bool) → Assignment → List Defined → Type 0
MeetsBut free σ cs = (k : ℕ) (c : Defined) → slice_get cs k ≡ Some c → free k ≡ false → σ.cells k ≡ worth σ c.tree

-- each cell meets its equation
abbrev pub IsSolution : Assignment → List Defined → Type 0
IsSolution σ cs = MeetsBut (λ _. false) σ cs

-- each cell from that number on meets its equation
abbrev pub MeetsFrom : Assignment → (first : ℕ) → List Defined → Type 0
MeetsFrom σ n cs = (k : ℕ) (c : Defined) → n ≤ k → slice_get cs k ≡ Some c → σ.cells k ≡ worth σ c.tree

-- more cells stand behind those that were there, of which all but the free ones are as they were
pub record Extends (free : ℕ → Bool) (before after : List Defined) : Type 0 where
  pub longer : length before ≤ length after
  pub kept : (k : ℕ) → k < length before → free k ≡ false → slice_get after k ≡ slice_get before k

-- what meets the equations of all cells meets those of the cells that were there before
abbrev pub ExtensionKeeps : Type 0
ExtensionKeeps = (free : ℕ → Bool) (before after : List Defined) (σ : Assignment)
    → Extends free before after → MeetsBut free σ after → MeetsBut free σ before

-- what is extended twice is extended
abbrev pub ExtensionsFollow : Type 0
ExtensionsFollow = (free : ℕ → Bool) (a b c : List Defined) → Extends free a b → Extends free b c → Extends free a c

-- where more may be free, what was met still is, and what was extended still is
pub record MoreMayBeFree (f g : ℕ → Bool) : Type 0 where
  pub met : (σ : Assignment) (cs : List Defined) → MeetsBut f σ cs → MeetsBut g σ cs
  pub extended : (before after : List Defined) → Extends f before after → Extends g before after

abbrev pub FreeingKeeps : Type 0
FreeingKeeps = (f g : ℕ → Bool) → ((k : ℕ) → g k ≡ false → f k ≡ false) → MoreMayBeFree f g

-- where no cell from that number on is free, they all meet their equations
abbrev pub BoundCellsAreMet : Type 0
BoundCellsAreMet = (free : ℕ → Bool) (σ : Assignment) (n : ℕ) (cs : List Defined)
    → ((k : ℕ) → n ≤ k → k < length cs → free k ≡ false) → MeetsBut free σ cs → MeetsFrom σ n cs
