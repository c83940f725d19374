-- Which cells the cells of a closed copy name: those that closing adds name only cells before them, and a value cell only
-- cells that were there when its copy was closed.
use Rattle.std.specs.Prelude.{◌≡◌, ℕ, ◌<◌, ◌≤◌, true, List, length, All, Option, Some, None}
use Rattle.aif_cells.specs.declared.reference.Ref.{Ref}
use Rattle.aif_cells.specs.declared.cells.Action.{Action}
use Rattle.aif_cells.specs.declared.cells.Monitor.{Monitor}
use Rattle.aif_cells.specs.Dependences.{DependsOn, cells_named}
use Rattle.absence_reaction.specs.declared.copy.VarCopy.{VarCopy}
use Rattle.absence_reaction.specs.declared.copy.Shape.{Shape}
use Rattle.absence_reaction.specs.Closing.{Built, Copy, closed_copy}
use Rattle.absence_reaction.specs.Meaning.{AreDistinctBelow, is_among}

-- the cell that a reference names, if it names one, is among so many
abbrev pub IsBelow : (bound : ℕ) → Ref → Type 0
IsBelow n r = All (λ d. d < n) (cells_named r)

abbrev pub IsIndexBelow : (bound : ℕ) → Option Ref → Type 0
IsIndexBelow n None = Unit {0}
IsIndexBelow n (Some r) = IsBelow n r

pub record ActionIsBelow (n : ℕ) (a : Action) : Type 0 where
  pub guard : IsBelow n a.guard
  pub index : IsIndexBelow n a.index
  pub value : IsBelow n a.value

-- the actions name cells that are there, and the value cells are different cells that are there
pub record NamesThere (c : VarCopy) (n : ℕ) : Type 0 where
  pub now : All (ActionIsBelow n) c.now
  pub next : All (ActionIsBelow n) c.next
  pub reserved : AreDistinctBelow n c.values

abbrev pub MonitorsAreBelow : (bound : ℕ) → List Monitor → Type 0
MonitorsAreBelow n ms = All (λ m. m.cell < n) ms

-- new cells depend on cells before them, value cells on cells that were there before, and what the copy is closed with
-- and its monitors are on cells that are there
pub record NamesEarlier (c : VarCopy) (before : Built) (closed : Copy) : Type 0 where
  pub new : (k d : ℕ) → length before.cells ≤ k → DependsOn closed.built.cells k d → d < k
  pub values : (k d : ℕ) → is_among k c.values ≡ true → DependsOn closed.built.cells k d → d < length before.cells
  pub given : All (IsBelow (length before.cells)) closed.values
  pub flags : All (IsBelow (length closed.built.cells)) closed.flags
  pub pending : All (IsBelow (length closed.built.cells)) closed.pending
  pub monitors : MonitorsAreBelow (length before.cells) before.monitors → MonitorsAreBelow (length closed.built.cells) closed.built.monitors

abbrev pub ClosingNamesEarlier : Type 0
ClosingNamesEarlier = (v : Shape) (c : VarCopy) (before : Built) → NamesThere c (length before.cells) → NamesEarlier c before (closed_copy v c before)
