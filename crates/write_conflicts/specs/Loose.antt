-- Loose pairs: two writes to one variable of which the cells alone don't say that they never meet.
use Rattle.std.specs.Prelude.{◌≡◌, ℕ, zero, suc, ◌<◌, Bool, true, false, ◌==◌, List, [], ◌∷◌, Some, slice_get, if◌then◌else◌}
use Rattle.quartz_tree.specs.declared.place.Place.{Place}
use Rattle.quartz_tree.specs.Least.{is_before}
use Rattle.aif_cells.specs.declared.cells.Action.{Action}
use Rattle.aif_cells.specs.declared.cells.Made.{Made}
use Rattle.aif_cells.specs.Built.{Defined}
use Rattle.write_conflicts.specs.Clash.{Step, Clash}

-- a variable's copy has a store. A copy's number is that of the copies of its variable that were made before it
abbrev pub is_stored : List Made → (var copy : ℕ) → Bool
is_stored [] x c = false
is_stored (m ∷ ms) x zero = if m.var == x then m.stored else is_stored ms x zero
is_stored (m ∷ ms) x (suc c) = if m.var == x then is_stored ms x c else is_stored ms x (suc c)

-- what tells of a module's actions whether they can meet: the cells, the ways to the labels, and the copies
pub record Scene : Type 0 where
  pub cells : List Defined
  pub ways : List (List Step)
  pub made : List Made

-- two actions on one variable are loose: both now or both delayed, on one copy, and they don't clash; or one is delayed, and the
-- other one acts now on a copy with a store, in which the delayed one's value may be pending
pub data AreLoose (s : Scene) (a b : Action) : Type 0 where
  alike : a.var ≡ b.var → a.copy ≡ b.copy → a.delayed ≡ b.delayed → ¬ Clash s.cells s.ways a b → AreLoose s a b
  pending_first : a.var ≡ b.var → a.delayed ≡ true → b.delayed ≡ false → is_stored s.made b.var b.copy ≡ true → AreLoose s a b
  pending_second : a.var ≡ b.var → a.delayed ≡ false → b.delayed ≡ true → is_stored s.made a.var a.copy ≡ true → AreLoose s a b

-- the actions with these numbers, the lesser first, are a loose pair
pub record IsLoosePair (s : Scene) (actions : List Action) (i j : ℕ) : Type 0 where
  pub in_turn : i < j
  pub first : Action
  pub second : Action
  pub is_first : slice_get actions i ≡ Some first
  pub is_second : slice_get actions j ≡ Some second
  pub loose : AreLoose s first second

-- the greater of two places
abbrev pub later_place : Place → Place → Place
later_place p q = if is_before p q then q else p

-- some loose pair writes the variable
pub record IsLooseVar (s : Scene) (actions : List Action) (x : ℕ) : Type 0 where
  pub i : ℕ
  pub j : ℕ
  pub pair : IsLoosePair s actions i j
  pub writes : pair.first.var ≡ x
