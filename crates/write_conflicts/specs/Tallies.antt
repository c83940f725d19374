-- The loose pairs among those that were looked at.
use Rattle.std.specs.Prelude.{◌≡◌, ◌↔◌, ◌⊎◌, ℕ, ◌+◌, ◌<◌, min, true, List, [], length, map, Some, Contains, slice_get, slice_index_or}
use Rattle.quartz_tree.specs.Least.{least_place}
use Rattle.aif_cells.specs.declared.cells.Action.{Action}
use Rattle.write_conflicts.specs.declared.pairs.Pairs.{Pairs}
use Rattle.write_conflicts.specs.Loose.{Scene, IsLoosePair}
use Rattle.write_conflicts.specs.Pairs.{HasNoRepeats, greatest_count, place_of}

-- all pairs whose greater number is before this one, and those of this one with the numbers in the list
abbrev pub IsSeen : (with : List ℕ) (second : ℕ) → (i j : ℕ) → Type 0
IsSeen with second i j = (j < second) ⊎ ((j ≡ second) × Contains with i)

-- each number of the list is less than the later ones
abbrev pub AreRising : List ℕ → Type 0
AreRising xs = (a b : ℕ) → a < b → b < length xs → slice_index_or xs a 0 < slice_index_or xs b 0

-- each variable has a row of its own, and all numbers that no variable has share the last one
abbrev pub row_of : (variables x : ℕ) → ℕ
row_of variables x = min x variables

-- the actions before this one, in the rows of the variables that they write
pub record AreByVariable (actions : List Action) (variables second : ℕ) (rows : List (List ℕ)) : Type 0 where
  pub size : length rows ≡ variables + 1
  pub complete : (i : ℕ) (a : Action) → i < second → slice_get actions i ≡ Some a → Contains (slice_index_or rows (row_of variables a.var) []) i
  pub before : (r i : ℕ) → Contains (slice_index_or rows r []) i → i < second
  pub rising : (r : ℕ) → AreRising (slice_index_or rows r [])

-- the list has the actions before this one that write its variable, each once
pub record AreEarlier (actions : List Action) (second : ℕ) (earlier : List ℕ) : Type 0 where
  pub complete : (i : ℕ) (a b : Action) → i < second → slice_get actions i ≡ Some a → slice_get actions second ≡ Some b → a.var ≡ b.var → Contains earlier i
  pub before : (i : ℕ) → Contains earlier i → i < second
  pub rising : AreRising earlier

-- a pair in the list writes the variable
pub record IsWrittenIn (actions : List Action) (pairs : List (ℕ × ℕ)) (x : ℕ) : Type 0 where
  pub i : ℕ
  pub j : ℕ
  pub among : Contains pairs (i, j)
  pub action : Action
  pub is_action : slice_get actions i ≡ Some action
  pub writes : action.var ≡ x

-- what is found is that of the loose pairs that were looked at
pub record IsTally (s : Scene) (actions : List Action) (variables : ℕ) (Seen : ℕ → ℕ → Type 0) (found : Pairs) : Type 0 where
  pub pairs : List (ℕ × ℕ)
  pub once : HasNoRepeats pairs
  pub sound : (i j : ℕ) → Contains pairs (i, j) → IsLoosePair s actions i j × Seen i j
  pub complete : (i j : ℕ) → IsLoosePair s actions i j → Seen i j → Contains pairs (i, j)
  pub counted : found.count ≡ min (length pairs) greatest_count
  pub least : found.least ≡ least_place (map (place_of actions) pairs)
  pub flags : length found.loose ≡ variables
  pub flagged : (x : ℕ) → x < variables → (slice_get found.loose x ≡ Some true) ↔ IsWrittenIn actions pairs x
