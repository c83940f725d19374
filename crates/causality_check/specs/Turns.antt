-- Cells that are taken in turn.
use Rattle.std.specs.Prelude.{◌≡◌, ℕ, zero, suc, ◌<◌, ◌≤◌, ◌⊎◌, ◌+◌, Bool, true, false, List, [], ◌∷◌, length, take, Contains, Some, slice_get, slice_index_or, if◌then◌else◌}
use Rattle.causality_check.specs.declared.turns.Turns.{Turns}
use Rattle.causality_check.specs.Graph.{row, Needs}

-- a cell that isn't taken, and all that it needs are
pub record IsFree (g : List (List ℕ)) (taken : List ℕ) (k : ℕ) : Type 0 where
  pub is_cell : k < length g
  pub left : ¬ Contains taken k
  pub free : (d : ℕ) → Needs g k d → Contains taken d

-- the least-numbered of these
pub record IsLeastFree (g : List (List ℕ)) (taken : List ℕ) (k : ℕ) : Type 0 where
  pub ready : IsFree g taken k
  pub least : (j : ℕ) → IsFree g taken j → k ≤ j

abbrev pub AreInTurn : List (List ℕ) → List ℕ → Type 0
AreInTurn g order = (i k : ℕ) → slice_get order i ≡ Some k → IsLeastFree g (take i order) k

-- a cell needs one that isn't taken
abbrev pub IsHeldUp : List (List ℕ) → List ℕ → ℕ → Type 0
IsHeldUp g taken k = (d : ℕ) × Needs g k d × (¬ Contains taken d)

-- what isn't taken needs something that isn't taken
abbrev pub AllLeftAreHeldUp : List (List ℕ) → List ℕ → Type 0
AllLeftAreHeldUp g taken = (k : ℕ) → k < length g → (¬ Contains taken k) → IsHeldUp g taken k

-- the list has as many numbers as there are cells, and each cell, or there is one that isn't in it
abbrev pub SomeIsLeft : List (List ℕ) → List ℕ → Type 0
SomeIsLeft g taken = ((length taken ≡ length g) × ((k : ℕ) → k < length g → Contains taken k)) ⊎ ((length taken < length g) × ((k : ℕ) × (k < length g) × (¬ Contains taken k)))

-- some cells are taken, and what isn't taken is held up
abbrev pub IsStuck : List (List ℕ) → Type 0
IsStuck g = (taken : List ℕ) × AllLeftAreHeldUp g taken × ((k : ℕ) × (k < length g) × (¬ Contains taken k))

-- so many numbers from i on
abbrev pub counted : (i count : ℕ) → List ℕ
counted i zero = []
counted i (suc count) = i ∷ counted (i + 1) count

abbrev pub count_true : List Bool → ℕ
count_true [] = 0
count_true (b ∷ bs) = (if b then 1 else 0) + count_true bs

-- the tables that are kept while cells are taken: which cells are taken, how many of those that a cell needs
-- are known to be taken, which cells wait for a cell, which are ready, and which are taken, in order
pub record Tables : Type 0 where
  pub taken : List Bool
  pub passed : List ℕ
  pub waiting : List (List ℕ)
  pub ready : List ℕ
  pub order : List ℕ

abbrev pub tables : Turns → Tables
tables s = record { taken = s.taken.items; passed = s.passed.items; waiting = s.waiting.items; ready = s.ready.keys; order = s.order }

-- a cell waits for one that it needs, and that isn't taken
pub record IsWaitingFor (g : List (List ℕ)) (s : Tables) (k d : ℕ) : Type 0 where
  pub needs : Needs g k d
  pub left : ¬ Contains s.order d
  pub listed : Contains (row s.waiting d) k

abbrev pub IsWaiting : List (List ℕ) → Tables → ℕ → Type 0
IsWaiting g s k = (d : ℕ) × IsWaitingFor g s k d

-- the tables have a row for each cell
pub record IsFit (g : List (List ℕ)) (s : Tables) : Type 0 where
  pub taken : length s.taken ≡ length g
  pub passed : length s.passed ≡ length g
  pub waiting : length s.waiting ≡ length g
  pub short : (k : ℕ) → slice_index_or s.passed k 0 ≤ length (row g k)

-- what holds while cells are taken; the cells of a list have no place yet
pub record IsSound (g : List (List ℕ)) (rest : List ℕ) (s : Tables) : Type 0 where
  pub fit : IsFit g s
  pub cells : (k : ℕ) → Contains s.order k → k < length g
  pub told : (k : ℕ) → slice_index_or s.taken k false ≡ true → Contains s.order k
  pub seen : (k : ℕ) → Contains s.order k → slice_index_or s.taken k false ≡ true
  pub counted : count_true s.taken ≡ length s.order
  pub in_turn : AreInTurn g s.order
  pub closed : (k d : ℕ) → Contains s.order k → Needs g k d → Contains s.order d
  pub passes : (k i : ℕ) → i < slice_index_or s.passed k 0 → Contains s.order (slice_index_or (row g k) i 0)
  pub waits : (d k : ℕ) → Contains (row s.waiting d) k → Needs g k d
  pub ready : (k : ℕ) → Contains s.ready k → IsFree g s.order k
  pub placed : (k : ℕ) → k < length g → (¬ Contains s.order k) → Contains rest k ⊎ (Contains s.ready k ⊎ IsWaiting g s k)

-- the first key, and the others behind it, each of them greater
pub record PopsLeast (before : List ℕ) (k : ℕ) (after : List ℕ) : Type 0 where
  pub parts : before ≡ k ∷ after
  pub greater : (j : ℕ) → Contains after j → k < j

-- one more key
abbrev pub Adds : (before : List ℕ) → ℕ → (after : List ℕ) → Type 0
Adds before k after = (j : ℕ) → (Contains after j → (j ≡ k) ⊎ Contains before j) × ((j ≡ k) ⊎ Contains before j → Contains after j)
