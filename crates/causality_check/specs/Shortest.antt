-- Distances, and the cycle that is named.
use Rattle.std.specs.Prelude.{◌≡◌, ℕ, ◌<◌, ◌≤◌, ◌⊎◌, ◌+◌, min, List, [], ◌∷◌, ◌++◌, length, Option, Some, None, Contains, slice_index_or}
use Rattle.aif_cells.specs.Order.{IsNotAfter}
use Rattle.causality_check.specs.Graph.{row, Needs, Walk, IsOnCycle}

-- which cells need each cell
pub record AreUsers (g users : List (List ℕ)) : Type 0 where
  pub count : length users ≡ length g
  pub from : (d k : ℕ) → Contains (row users d) k → Needs g k d
  pub all : (d k : ℕ) → d < length g → Needs g k d → Contains (row users d) k

-- a shortest way from a cell to the goal has so many steps
pub record IsDistance (g : List (List ℕ)) (goal k n : ℕ) : Type 0 where
  pub way : Walk g n k goal
  pub least : (m : ℕ) → Walk g m k goal → n ≤ m

-- the distance of each cell to the goal, and none where there is no way
abbrev pub DistanceIs : List (List ℕ) → (goal k : ℕ) → Option ℕ → Type 0
DistanceIs g goal k None = (n : ℕ) → Walk g n k goal → ⊥
DistanceIs g goal k (Some n) = IsDistance g goal k n

pub record AreDistances (g : List (List ℕ)) (goal : ℕ) (ds : List (Option ℕ)) : Type 0 where
  pub count : length ds ≡ length g
  pub each : (k : ℕ) → k < length g → DistanceIs g goal k (slice_index_or ds k None)

-- the least-numbered cell that lies on a cycle
pub record IsLeastOnCycle (g : List (List ℕ)) (k : ℕ) : Type 0 where
  pub on_cycle : IsOnCycle g k
  pub least : (j : ℕ) → IsOnCycle g j → k ≤ j

-- each cell of the path needs the next one, and the last needs the goal
abbrev pub Leads : List (List ℕ) → (goal k : ℕ) → List ℕ → Type 0
Leads g goal k [] = Needs g k goal
Leads g goal k (j ∷ path) = Needs g k j × Leads g goal j path

-- a path that leads to the goal, a shortest one, and the least of those
pub record IsBestPath (g : List (List ℕ)) (goal k : ℕ) (path : List ℕ) : Type 0 where
  pub leads : Leads g goal k path
  pub shortest : (other : List ℕ) → Leads g goal k other → length path ≤ length other
  pub first : (other : List ℕ) → Leads g goal k other → length other ≡ length path → IsNotAfter path other

-- a cell, and the rest of the cycle that is named
abbrev pub IsCycleList : List (List ℕ) → (k : ℕ) → List ℕ → Type 0
IsCycleList g k [] = ⊥
IsCycleList g k (j ∷ path) = (j ≡ k) × IsLeastOnCycle g k × IsBestPath g k k path

-- ---- how the distances are found

abbrev pub distance_at : List (Option ℕ) → ℕ → Option ℕ
distance_at ds k = slice_index_or ds k None

abbrev pub one_if_none : Option ℕ → ℕ
one_if_none None = 1
one_if_none (Some n) = 0

abbrev pub count_none : List (Option ℕ) → ℕ
count_none [] = 0
count_none (d ∷ ds) = one_if_none d + count_none ds

-- the cells of a list get this distance where they have none, and stand in another list then
pub record AreMarked (ks : List ℕ) (level : ℕ) (old new : List (Option ℕ)) (before after : List ℕ) : Type 0 where
  pub count : count_none new + length after ≡ count_none old + length before
  pub same_length : length new ≡ length old
  pub kept : (k d : ℕ) → distance_at old k ≡ Some d → distance_at new k ≡ Some d
  pub marked : (k : ℕ) → Contains ks k → (d : ℕ) × (distance_at new k ≡ Some d)
  pub fresh : (k d : ℕ) → distance_at new k ≡ Some d → (distance_at old k ≡ Some d) ⊎ ((d ≡ level) × Contains ks k × Contains after k)
  pub listed : (k : ℕ) → Contains after k → Contains before k ⊎ ((distance_at old k ≡ None) × (distance_at new k ≡ Some level))
  pub grows : (k : ℕ) → Contains before k → Contains after k

-- all distances up to a level are known, and the front has the cells at that distance
pub record AreLevels (g : List (List ℕ)) (goal : ℕ) (ds : List (Option ℕ)) (front : List ℕ) (level : ℕ) : Type 0 where
  pub count : length ds ≡ length g
  pub exact : (k d : ℕ) → distance_at ds k ≡ Some d → IsDistance g goal k d
  pub upto : (k d : ℕ) → distance_at ds k ≡ Some d → d ≤ level
  pub all : (k m : ℕ) → m ≤ level → Walk g m k goal → (d : ℕ) × (distance_at ds k ≡ Some d)
  pub listed : (k : ℕ) → Contains front k → distance_at ds k ≡ Some level
  pub fronts : (k : ℕ) → distance_at ds k ≡ Some level → Contains front k
  pub room : count_none ds + level + min 1 (length front) ≤ length g

-- the users of all cells of a list, one after another
abbrev pub users_of : List (List ℕ) → List ℕ → List ℕ
users_of users [] = []
users_of users (c ∷ cs) = row users c ++ users_of users cs

-- ---- how the path is found

-- among some cells the one with the least distance, and the least-numbered one of those
pub record IsNearestAmong (ds : List (Option ℕ)) (ks : List ℕ) (n j : ℕ) : Type 0 where
  pub among : Contains ks j
  pub distance : distance_at ds j ≡ Some n
  pub least : (d m : ℕ) → Contains ks d → distance_at ds d ≡ Some m → (n < m) ⊎ ((n ≡ m) × (j ≤ d))

abbrev pub NearestIs : List (Option ℕ) → List ℕ → Option (ℕ × ℕ) → Type 0
NearestIs ds ks None = (d : ℕ) → Contains ks d → distance_at ds d ≡ None
NearestIs ds ks (Some p) = IsNearestAmong ds ks p.0 p.1

-- of the cells that a cell needs the one with the shortest way to the goal, and the least-numbered one of those
pub record IsNearest (g : List (List ℕ)) (goal k n j : ℕ) : Type 0 where
  pub needs : Needs g k j
  pub way : Walk g n j goal
  pub least : (d m : ℕ) → Needs g k d → Walk g m d goal → n ≤ m
  pub first : (d : ℕ) → Needs g k d → Walk g n d goal → j ≤ d

-- each cell has a lower rank than one that needs it
abbrev pub RanksFall : List (List ℕ) → List ℕ → Type 0
RanksFall g ranks = (a b : ℕ) → Needs g a b → slice_index_or ranks b 0 < slice_index_or ranks a 0

-- ---- how the users are found

-- each cell of a list has this one as a user now
pub record HaveUser (needed : List ℕ) (k : ℕ) (before after : List (List ℕ)) : Type 0 where
  pub same_length : length after ≡ length before
  pub from : (d j : ℕ) → Contains (row after d) j → Contains (row before d) j ⊎ ((j ≡ k) × Contains needed d)
  pub kept : (d j : ℕ) → Contains (row before d) j → Contains (row after d) j
  pub new : (d : ℕ) → Contains needed d → Contains (row after d) k

-- the users among the first cells
pub record AreUsersBelow (g : List (List ℕ)) (n : ℕ) (users : List (List ℕ)) : Type 0 where
  pub count : length users ≡ length g
  pub from : (d k : ℕ) → Contains (row users d) k → Needs g k d
  pub all : (d k : ℕ) → k < n → Needs g k d → Contains (row users d) k

-- a cell needs one of its own component
abbrev pub NeedsOwn : List ℕ → (k : ℕ) → List ℕ → Type 0
NeedsOwn ranks k needed = (d : ℕ) × Contains needed d × (slice_index_or ranks d 0 ≡ slice_index_or ranks k 0)

-- a path so far, which leads to a cell, and the next cell on it
pub record IsUnderway (g : List (List ℕ)) (ds : List (Option ℕ)) (start : ℕ) (path : List ℕ) (k n next : ℕ) : Type 0 where
  pub nearest : IsNearest g start k n next
  pub distance : distance_at ds next ≡ Some n
  pub around : (rest : List ℕ) → IsBestPath g start k rest → IsBestPath g start start (path ++ rest)

-- of two distances with numbers the first is sooner, or the second is not later
abbrev pub IsSooner : (a b : ℕ × ℕ) → Type 0
IsSooner a b = (a.0 < b.0) ⊎ ((a.0 ≡ b.0) × (a.1 < b.1))

abbrev pub IsNotLater : (a b : ℕ × ℕ) → Type 0
IsNotLater a b = (a.0 < b.0) ⊎ ((a.0 ≡ b.0) × (a.1 ≤ b.1))
