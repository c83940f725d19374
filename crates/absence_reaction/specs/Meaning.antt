-- What the cells of a closed copy mean: its elements are resolved, from what the copy goes on from and
-- the actions whose guards hold.
use Rattle.std.specs.Prelude.{◌≡◌, ◌⊎◌, ℕ, ◌+◌, ◌<◌, ℤ, pos, Bool, true, false, ◌&&◌, ◌||◌, ◌==◌, List, [], ◌∷◌, ◌++◌, length, map, slice_get, Option, Some, None, is_some, unwrap_or, if◌then◌else◌}
use Rattle.quartz_tree.specs.declared.declare.Storage.TheVariants.{Mem}
use Rattle.quartz_tree.specs.declared.fault.Fault.{Fault}
use Rattle.quartz_expr.specs.declared.act.Act.{Act}
use Rattle.quartz_expr.specs.declared.act.Kept.{Kept}
use Rattle.quartz_expr.specs.Terms.{Store}
use Rattle.quartz_expr.specs.Faults.{fault_if, is_index_below}
use Rattle.quartz_expr.specs.Writes.{act_if}
use Rattle.quartz_expr.specs.Resolve.{given_store, resolved_store, store_conflicts, values_of, writes_of}
use Rattle.aif_cells.specs.declared.reference.Ref.{Ref}
use Rattle.aif_cells.specs.declared.reference.Ref.TheVariants as ref
use Rattle.aif_cells.specs.declared.cells.Action.{Action}
use Rattle.aif_cells.specs.declared.cells.Monitor.{Monitor}
use Rattle.aif_cells.specs.Worth.{Assignment, read, truth, holds, worth}
use Rattle.aif_cells.specs.Built.{Defined}
use Rattle.aif_cells.specs.Solution.{Extends, MeetsBut, MeetsFrom}
use Rattle.absence_reaction.specs.declared.copy.VarCopy.{VarCopy}
use Rattle.absence_reaction.specs.declared.copy.Shape.{Shape}
use Rattle.absence_reaction.specs.Closing.{Built, Copy, closed_copy, register_of, flag_of, pending_of}

-- ---- the acts of a copy's actions

-- the element that an action writes
abbrev pub index_read : Assignment → Option Ref → ℤ
index_read σ None = pos 0
index_read σ (Some r) = read σ r

-- an action acts where its guard holds and its index names one of so many elements
abbrev pub act_of : Assignment → (count : ℕ) → Action → List Act
act_of σ n a = let i = index_read σ a.index in act_if (truth σ a.guard && is_index_below n i) a.var i (read σ a.value) a.delayed

abbrev pub acts_of : Assignment → (count : ℕ) → List Action → List Act
acts_of σ n [] = []
acts_of σ n (a ∷ more) = act_of σ n a ++ acts_of σ n more

-- the acts of a copy's actions, the now-actions first; only the order among the writes of one kind counts
abbrev pub copy_acts : Assignment → VarCopy → List Act
copy_acts σ c = acts_of σ (length c.values) (c.now ++ c.next)

-- two lists of acts write the same to each of so many elements, now and for the next step
abbrev pub WriteAlike : (var count : ℕ) → (ws us : List Act) → Type 0
WriteAlike x n ws us = (j : ℕ) (delays : Bool) → j < n → writes_of x j delays ws ≡ writes_of x j delays us

-- ---- what a copy goes on from

-- what is pending for element j of a copy with store
abbrev pub pending_before : Assignment → Shape → VarCopy → (j : ℕ) → Option ℤ
pending_before σ v c j = if v.delayed && holds (σ.registers (flag_of v c.first j)) then Some (σ.registers (pending_of v c.first j)) else None

-- element j goes on from that: with store from its registers, where an event has none for its value and
-- nothing depends on it, and without store from the start value
abbrev pub GoesOnAt : (stored : Bool) → Assignment → Shape → VarCopy → (j : ℕ) → Kept → Type 0
GoesOnAt true σ v c j k = (v.storage ≡ Mem → k.value ≡ σ.registers (register_of v c.first j)) × (k.pending ≡ pending_before σ v c j)
GoesOnAt false σ v c j k = k ≡ record { value = v.start; pending = None }

-- so do all elements from number j on, which have these value cells
abbrev pub GoesOnFrom : Assignment → Shape → VarCopy → (j : ℕ) → Store → (cells : List ℕ) → Type 0
GoesOnFrom σ v c j [] [] = Unit {0}
GoesOnFrom σ v c j (k ∷ s) (n ∷ ns) = GoesOnAt c.stored σ v c j k × GoesOnFrom σ v c (j + 1) s ns
GoesOnFrom σ v c j _ _ = ⊥

-- ---- values and faults

abbrev pub pendings_of : Store → List (Option ℤ)
pendings_of [] = []
pendings_of (k ∷ s) = k.pending ∷ pendings_of s

-- the value of the tree of the cell with that number, and 0 where there is none
abbrev pub worth_in : Assignment → Option Defined → ℤ
worth_in σ None = pos 0
worth_in σ (Some c) = worth σ c.tree

abbrev pub tree_worth : Assignment → List Defined → ℕ → ℤ
tree_worth σ cs k = worth_in σ (slice_get cs k)

-- a pending value, and 0 where there is none
abbrev pub or_nought : Option ℤ → ℤ
or_nought p = unwrap_or p (pos 0)

-- the faults of the monitors whose cells hold
abbrev pub raised : Assignment → List Monitor → List Fault
raised σ [] = []
raised σ (m ∷ ms) = fault_if (holds (σ.cells m.cell)) m.kind m.place ++ raised σ ms

-- ---- the copy that is closed

-- a write of that variable, delayed or not; only where there is one element it may lack an index
pub record IsWriteOf (x : ℕ) (delays : Bool) (count : ℕ) (a : Action) : Type 0 where
  pub var : a.var ≡ x
  pub delayed : a.delayed ≡ delays
  pub indexed : a.index ≡ None → count ≡ 1

abbrev pub AreWritesOf : (var : ℕ) → (delays : Bool) → (count : ℕ) → List Action → Type 0
AreWritesOf x d n [] = Unit {0}
AreWritesOf x d n (a ∷ more) = IsWriteOf x d n a × AreWritesOf x d n more

abbrev pub is_among : ℕ → List ℕ → Bool
is_among k [] = false
is_among k (j ∷ js) = (k == j) || is_among k js

-- different numbers below the bound
abbrev pub AreDistinctBelow : (bound : ℕ) → List ℕ → Type 0
AreDistinctBelow n [] = Unit {0}
AreDistinctBelow n (k ∷ ks) = (k < n) × (is_among k ks ≡ false) × AreDistinctBelow n ks

-- the actions are writes of the copy's variable, and its value cells are different cells that are there
pub record IsCopyToClose (c : VarCopy) (cells : List Defined) : Type 0 where
  pub now : AreWritesOf c.var false (length c.values) c.now
  pub next : AreWritesOf c.var true (length c.values) c.next
  pub reserved : AreDistinctBelow (length cells) c.values

-- ---- the theorem

-- the given values are those of the value cells, and the wanted ones those of their trees
abbrev pub wanted : Assignment → VarCopy → Copy → List ℤ
wanted σ c closed = map (tree_worth σ closed.built.cells) c.values

abbrev pub given_values : Assignment → Copy → List ℤ
given_values σ closed = map (read σ) closed.values

-- a closed copy resolves its variable from a store and acts: the tree of each value cell has the wanted
-- value; the new flags and pending values are those of the new store; and where the given values are the
-- wanted ones, the new monitors raise just the conflicts, element by element, now before next
pub record Resolves (σ : Assignment) (v : Shape) (c : VarCopy) (s : Store) (ws : List Act) (before : Built) (closed : Copy) : Type 0 where
  pub given : closed.values ≡ map ref.Cell c.values
  pub values : wanted σ c closed ≡ values_of (resolved_store v.storage c.var ws 0 s)
  pub flags : map (truth σ) closed.flags ≡ map is_some (pendings_of (given_store c.var ws 0 (given_values σ closed)))
  pub pending : map (read σ) closed.pending ≡ map or_nought (pendings_of (given_store c.var ws 0 (given_values σ closed)))
  pub conflicts : given_values σ closed ≡ wanted σ c closed → raised σ closed.built.monitors ≡ raised σ before.monitors ++ store_conflicts v.place c.var ws 0 (given_values σ closed)

-- closing is resolving, under every assignment that meets the equations of the cells that were made for it
abbrev pub ClosingResolves : Type 0
ClosingResolves = (v : Shape) (c : VarCopy) (s : Store) (ws : List Act) (before : Built) (σ : Assignment)
    → IsCopyToClose c before.cells → GoesOnFrom σ v c 0 s c.values → WriteAlike c.var (length c.values) ws (copy_acts σ c)
    → MeetsFrom σ (length before.cells) (closed_copy v c before).built.cells
    → Resolves σ v c s ws before (closed_copy v c before)

abbrev pub IsBit : ℤ → Type 0
IsBit z = (z ≡ pos 0) ⊎ (z ≡ pos 1)

abbrev pub AreBits : List ℤ → Type 0
AreBits [] = Unit {0}
AreBits (z ∷ zs) = IsBit z × AreBits zs

-- the guards are 0 or 1
abbrev pub GuardsAreBits : Assignment → List Action → Type 0
GuardsAreBits σ [] = Unit {0}
GuardsAreBits σ (a ∷ more) = IsBit (read σ a.guard) × GuardsAreBits σ more

-- so are the new flags then
abbrev pub FlagsAreBits : Type 0
FlagsAreBits = (v : Shape) (c : VarCopy) (before : Built) (σ : Assignment)
    → AreDistinctBelow (length before.cells) c.values → GuardsAreBits σ c.next → MeetsFrom σ (length before.cells) (closed_copy v c before).built.cells
    → AreBits (map (read σ) (closed_copy v c before).flags)

-- cells that are not the copy's value cells stay as they were, and monitors come behind those that were there
pub record Keeps (c : VarCopy) (before after : Built) : Type 0 where
  pub cells : Extends (λ k. is_among k c.values) before.cells after.cells
  pub more : List Monitor
  pub monitors : after.monitors ≡ before.monitors ++ more

abbrev pub ClosingKeeps : Type 0
ClosingKeeps = (v : Shape) (c : VarCopy) (before : Built) → Keeps c before (closed_copy v c before).built

-- what meets the equations of all cells but the free ones met those before, but perhaps of the copy's value cells
abbrev pub ClosingGoesBack : Type 0
ClosingGoesBack = (v : Shape) (c : VarCopy) (before : Built) (σ : Assignment) (free : ℕ → Bool)
    → MeetsBut free σ (closed_copy v c before).built.cells → MeetsBut (λ k. free k || is_among k c.values) σ before.cells
