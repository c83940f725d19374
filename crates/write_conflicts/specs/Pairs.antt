-- The loose pairs of a module: how many there are, where the first one is, and which variables they write.
use Rattle.std.specs.Prelude.{◌≡◌, ◌↔◌, ℕ, ◌-◌, ◌^◌, ◌<◌, min, true, List, [], ◌∷◌, length, map, Option, Some, None, Contains, slice_get}
use Rattle.quartz_tree.specs.declared.place.Place.{Place}
use Rattle.quartz_tree.specs.Least.{least_place}
use Rattle.aif_cells.specs.declared.aif.Aif.{Aif}
use Rattle.aif_cells.specs.declared.cells.Action.{Action}
use Rattle.aif_cells.specs.declared.cells.Path.{Path}
use Rattle.aif_cells.specs.Built.{all_defined}
use Rattle.write_conflicts.specs.declared.pairs.Pairs.{Pairs}
use Rattle.write_conflicts.specs.Clash.{Step}
use Rattle.write_conflicts.specs.Loose.{Scene, IsLoosePair, IsLooseVar, later_place}

abbrev pub steps_of : Path → List Step
steps_of p = p.steps

-- the cells of a module, the ways to its labels, and its copies
abbrev pub scene : Aif → Scene
scene a = record { cells = all_defined a.cells; ways = map steps_of a.paths; made = a.made }

-- no pair stands twice in the list
abbrev pub HasNoRepeats : List (ℕ × ℕ) → Type 0
HasNoRepeats [] = Unit {0}
HasNoRepeats (p ∷ ps) = (¬ Contains ps p) × HasNoRepeats ps

-- where an action writes, and 1:1 where there is no such action
abbrev pub place_in : Option Action → Place
place_in (Some a) = a.place
place_in None = record { line = 1; col = 1 }

-- the place of a pair of actions: the later of the places of its two writes
abbrev pub place_of : List Action → ℕ × ℕ → Place
place_of actions p = later_place (place_in (slice_get actions p.0)) (place_in (slice_get actions p.1))

-- the last value of a count
abbrev pub greatest_count : ℕ
greatest_count = 2 ^ 64 - 1

-- the count of the loose pairs, or the greatest count where there are more; the least of their places, if there is one; and for
-- each variable whether some loose pair writes it
pub record ArePairsOf (a : Aif) (found : Pairs) : Type 0 where
  pub pairs : List (ℕ × ℕ)
  pub once : HasNoRepeats pairs
  pub exact : (i j : ℕ) → Contains pairs (i, j) ↔ IsLoosePair (scene a) a.actions i j
  pub counted : found.count ≡ min (length pairs) greatest_count
  pub least : found.least ≡ least_place (map (place_of a.actions) pairs)
  pub flags : length found.loose ≡ length a.vars
  pub flagged : (x : ℕ) → x < length a.vars → (slice_get found.loose x ≡ Some true) ↔ IsLooseVar (scene a) a.actions x
