-- The store that a scope's registers carry into the next step: that of the first copy whose `enter` holds, else that of
-- the depth copy.
use Rattle.std.specs.Prelude.{ℕ, zero, suc, ◌+◌, Bool, true, false, List, [], ◌∷◌, ◌++◌, length, map, pos, slice_index_or}
use Rattle.quartz_tree.specs.declared.place.Place.{Place}
use Rattle.quartz_tree.specs.declared.declare.Storage.{Storage}
use Rattle.quartz_tree.specs.declared.declare.Storage.TheVariants.{Mem, Event}
use Rattle.quartz_tree.specs.declared.declare.Var.{Var}
use Rattle.aif_cells.specs.declared.reference.Ref.{Ref}
use Rattle.aif_cells.specs.declared.reference.Ref.TheVariants as ref
use Rattle.aif_cells.specs.declared.cells.Cell.{Cell}
use Rattle.aif_cells.specs.declared.cells.Register.{Register}
use Rattle.aif_cells.specs.Tree.{Tree, value, cases}
use Rattle.aif_cells.specs.Built.{Defined, Made, all_defined, given, new}
use Rattle.aif_cells.specs.Aif.{elements_of}
use Rattle.reincarnation.specs.declared.copy.ClosedRefs.{ClosedRefs}
use Rattle.reincarnation.specs.declared.copy.Entered.{Entered}
use Rattle.reincarnation.specs.declared.copy.Part.{Part}
use Rattle.reincarnation.specs.declared.copy.Part.TheVariants.{Value, Flag, Pending}

-- what the registers of an element keep, in order: the value of a memorized variable, and the flag and the pending
-- value of a delayed one
abbrev pub value_part : Storage → List Part
value_part Mem = Value ∷ []
value_part Event = []

abbrev pub delayed_parts : Bool → List Part
delayed_parts true = Flag ∷ Pending ∷ []
delayed_parts false = []

abbrev pub parts_of : Var → List Part
parts_of v = value_part v.decl.storage ++ delayed_parts v.delayed

-- what a closed copy has for a part of an element
abbrev pub part_in : Part → ClosedRefs → List Ref
part_in Value c = c.values
part_in Flag c = c.flags
part_in Pending c = c.pending

abbrev pub ref_in : (j : ℕ) → Part → ClosedRefs → Ref
ref_in j p c = slice_index_or (part_in p c) j (ref.Lit (pos 0))

-- for each copy that may have been entered, under what it was, and what it has
abbrev pub arm_of : (j : ℕ) → Part → Entered → Tree × Tree
arm_of j p e = (value e.enter, value (ref_in j p e.closed))

-- what a register takes: from the first copy that was entered, else from the depth copy. Without copies that may have
-- been entered no cell is needed
abbrev pub taken : Place → List Entered → ClosedRefs → (j : ℕ) → Part → List Defined → Made
taken place [] depth j p cs = given (ref_in j p depth) cs
taken place (e ∷ es) depth j p cs = new (cases (map (arm_of j p) (e ∷ es)) (value (ref_in j p depth))) place cs

-- the registers and the cells
pub record Stores : Type 0 where
  pub registers : List Register
  pub cells : List Defined

abbrev pub stores : List Register → List Cell → Stores
stores rs cs = record { registers = rs; cells = all_defined cs }

-- the register with this number takes that reference
abbrev pub with_next : List Register → ℕ → Ref → List Register
with_next [] r n = []
with_next (x ∷ xs) zero n = record x { next = n } ∷ xs
with_next (x ∷ xs) (suc r) n = x ∷ with_next xs r n

abbrev pub carried_part : Place → List Entered → ClosedRefs → (j : ℕ) → Part → (r : ℕ) → Stores → Stores
carried_part place es depth j p r σ = let m = taken place es depth j p σ.cells in record { registers = with_next σ.registers r m.ref; cells = m.cells }

-- the parts of element j, whose registers begin with number r
abbrev pub carried_parts : Place → List Entered → ClosedRefs → (j : ℕ) → List Part → (r : ℕ) → Stores → Stores
carried_parts place es depth j [] r σ = σ
carried_parts place es depth j (p ∷ ps) r σ = carried_parts place es depth j ps (r + 1) (carried_part place es depth j p r σ)

-- so many elements from number j on, whose registers begin with number r
abbrev pub carried_from : Place → List Entered → ClosedRefs → List Part → (j count r : ℕ) → Stores → Stores
carried_from place es depth ps j zero r σ = σ
carried_from place es depth ps j (suc count) r σ = carried_from place es depth ps (j + 1) count (r + length ps) (carried_parts place es depth j ps r σ)

-- the whole variable, whose registers begin with the first one
abbrev pub carried : Var → List Entered → ClosedRefs → (first : ℕ) → Stores → Stores
carried v es depth first σ = carried_from v.decl.place es depth (parts_of v) 0 (elements_of v) first σ
