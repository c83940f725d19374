-- What registers carry into the next step: the store of one copy, that of the first copy that was entered, else that of
-- the depth copy.
use Rattle.std.specs.Prelude.{◌≡◌, ◌⊎◌, ℕ, ◌+◌, ◌*◌, ◌<◌, ◌≤◌, pos, Bool, true, false, List, [], ◌∷◌, ◌++◌, length, map, All, slice_get, Some, option_map, unwrap_or, if◌then◌else◌}
use Rattle.quartz_tree.specs.declared.declare.Var.{Var}
use Rattle.aif_cells.specs.declared.reference.Ref.{Ref}
use Rattle.aif_cells.specs.declared.reference.Ref.TheVariants as ref
use Rattle.aif_cells.specs.declared.cells.Register.{Register}
use Rattle.aif_cells.specs.declared.aif.Aif.{Aif}
use Rattle.aif_cells.specs.Aif.{elements_of}
use Rattle.aif_cells.specs.Built.{Defined, all_defined}
use Rattle.aif_cells.specs.Dependences.{DependsOn, cells_named}
use Rattle.aif_cells.specs.Solution.{Extends, MeetsBut, MeetsFrom}
use Rattle.aif_cells.specs.Worth.{Assignment, read, truth}
use Rattle.reincarnation.specs.declared.copy.ClosedRefs.{ClosedRefs}
use Rattle.reincarnation.specs.declared.copy.Entered.{Entered}
use Rattle.reincarnation.specs.declared.copy.Part.{Part}
use Rattle.reincarnation.specs.Carrying.{Stores, carried, parts_of, ref_in}
use Rattle.reincarnation.specs.Entering.{IsEntered}

-- ---- which copy is carried

-- the first copy that was entered and is still active, else the depth copy
abbrev pub carried_copy : Assignment → List Entered → (depth : ClosedRefs) → ClosedRefs
carried_copy σ [] depth = depth
carried_copy σ (e ∷ es) depth = if truth σ e.enter then e.closed else carried_copy σ es depth

-- none of the copies was entered, or none is still active
abbrev pub NoneEntered : Assignment → List Entered → Type 0
NoneEntered σ es = All (λ e. truth σ e.enter ≡ false) es

-- without a copy that was entered it is the depth copy, also where that isn't active
abbrev pub DepthIsCarried : Type 0
DepthIsCarried = (σ : Assignment) (es : List Entered) (depth : ClosedRefs) → NoneEntered σ es → carried_copy σ es depth ≡ depth

-- a copy that was entered is carried where none before it was, whatever the depth copy holds
abbrev pub EnteredIsCarried : Type 0
EnteredIsCarried = (σ : Assignment) (front : List Entered) (e : Entered) (rest : List Entered) (depth : ClosedRefs)
    → NoneEntered σ front → truth σ e.enter ≡ true → carried_copy σ (front ++ e ∷ rest) depth ≡ e.closed

-- ---- what the registers take

-- what the register with that number takes, and 0 where there is none
abbrev pub next_at : List Register → ℕ → Ref
next_at rs r = unwrap_or (option_map (λ x. x.next) (slice_get rs r)) (ref.Lit (pos 0))

-- the register of the part with number i of element j, where those of the variable begin with the first one
abbrev pub register_at : Var → (first j i : ℕ) → ℕ
register_at v first j i = first + j * length (parts_of v) + i

-- the first number behind the variable's registers
abbrev pub registers_end : Var → (first : ℕ) → ℕ
registers_end v first = first + elements_of v * length (parts_of v)

-- each register of the variable takes what a copy has for that part of that element
abbrev pub TakesStoreOf : Assignment → Var → (first : ℕ) → ClosedRefs → List Register → Type 0
TakesStoreOf σ v first c rs = (j i : ℕ) (p : Part) → j < elements_of v → slice_get (parts_of v) i ≡ Some p
    → read σ (next_at rs (register_at v first j i)) ≡ read σ (ref_in j p c)

-- the store of one copy is carried, under every assignment that meets the equations of the cells that were made for it
abbrev pub CarriesOneStore : Type 0
CarriesOneStore = (v : Var) (es : List Entered) (depth : ClosedRefs) (first : ℕ) (before : Stores) (σ : Assignment)
    → registers_end v first ≤ length before.registers
    → MeetsFrom σ (length before.cells) (carried v es depth first before).cells
    → TakesStoreOf σ v first (carried_copy σ es depth) (carried v es depth first before).registers

-- ---- what stays as it was

-- cells come behind those that were there, registers begin as before, and the others take what they took
pub record Keeps (v : Var) (first : ℕ) (before after : Stores) : Type 0 where
  pub cells : Extends (λ k. false) before.cells after.cells
  pub starts : map (λ x. x.initial) after.registers ≡ map (λ x. x.initial) before.registers
  pub others : (r : ℕ) → (r < first) ⊎ (registers_end v first ≤ r) → slice_get after.registers r ≡ slice_get before.registers r

abbrev pub CarryingKeeps : Type 0
CarryingKeeps = (v : Var) (es : List Entered) (depth : ClosedRefs) (first : ℕ) (before : Stores) → Keeps v first before (carried v es depth first before)

-- what meets the equations of all cells but the free ones met those before
abbrev pub CarryingGoesBack : Type 0
CarryingGoesBack = (v : Var) (es : List Entered) (depth : ClosedRefs) (first : ℕ) (before : Stores) (σ : Assignment) (free : ℕ → Bool)
    → MeetsBut free σ (carried v es depth first before).cells → MeetsBut free σ before.cells

-- ---- which cells are named

-- the cell that a reference names, if it names one, is among so many
abbrev pub IsBelow : (bound : ℕ) → Ref → Type 0
IsBelow n r = All (λ d. d < n) (cells_named r)

pub record ClosedIsBelow (n : ℕ) (c : ClosedRefs) : Type 0 where
  pub values : All (IsBelow n) c.values
  pub flags : All (IsBelow n) c.flags
  pub pending : All (IsBelow n) c.pending

pub record EnteredIsBelow (n : ℕ) (e : Entered) : Type 0 where
  pub enter : IsBelow n e.enter
  pub closed : ClosedIsBelow n e.closed

abbrev pub NextsAreBelow : (bound : ℕ) → List Register → Type 0
NextsAreBelow n rs = All (λ x. IsBelow n x.next) rs

-- the new cells depend on cells that were there before, and registers go on taking cells that are there
pub record NamesEarlier (before after : Stores) : Type 0 where
  pub cells : (k d : ℕ) → length before.cells ≤ k → DependsOn after.cells k d → d < length before.cells
  pub nexts : NextsAreBelow (length before.cells) before.registers → NextsAreBelow (length after.cells) after.registers

abbrev pub CarryingNamesEarlier : Type 0
CarryingNamesEarlier = (v : Var) (es : List Entered) (depth : ClosedRefs) (first : ℕ) (before : Stores)
    → All (EnteredIsBelow (length before.cells)) es → ClosedIsBelow (length before.cells) depth → NamesEarlier before (carried v es depth first before)

-- ---- a new copy

-- the new cells are the copy's value cells, one for each element, and depend on nothing yet; those before stay as they were
pub record Reserves (v : Var) (before after : List Defined) : Type 0 where
  pub cells : Extends (λ k. false) before after
  pub count : length after ≡ length before + elements_of v
  pub free : (k d : ℕ) → length before ≤ k → ¬ DependsOn after k d

abbrev pub EnteringReserves : Type 0
EnteringReserves = (before : Aif) (var : ℕ) (stored : Bool) (v : Var) (copy : ℕ) (values : List ℕ) (after : Aif)
    → IsEntered before var stored v copy values after → Reserves v (all_defined before.cells) (all_defined after.cells)
