-- The cells that close a copy of a variable: the value, the new flag, the new pending value and the
-- conflicts of each element.
use Rattle.std.specs.Prelude.{ℕ, ◌+◌, ◌*◌, ◌<◌, nat_lt, pos, Bool, true, false, ◌&&◌, List, [], ◌∷◌, ◌++◌, length, map, slice_set, Option, Some, None, if◌then◌else◌}
use Rattle.quartz_tree.specs.declared.place.Place.{Place}
use Rattle.quartz_tree.specs.declared.fault.Kind.TheVariants.{Conflict}
use Rattle.quartz_tree.specs.declared.declare.Var.{Var}
use Rattle.quartz_tree.specs.Storage.{is_memorized}
use Rattle.quartz_expr.specs.Values.{same_value}
use Rattle.aif_cells.specs.declared.reference.Ref.{Ref}
use Rattle.aif_cells.specs.declared.reference.Ref.TheVariants as ref
use Rattle.aif_cells.specs.declared.tree.TreeTwo.TheVariants.{And, Eq, Ne}
use Rattle.aif_cells.specs.declared.cells.Action.{Action}
use Rattle.aif_cells.specs.declared.cells.Cell.{Cell}
use Rattle.aif_cells.specs.declared.cells.Monitor.{Monitor}
use Rattle.aif_cells.specs.Tree.{Tree, value, two, ite, cases}
use Rattle.aif_cells.specs.Built.{Defined, Made, given, new, or_all, join, all_defined}
use Rattle.absence_reaction.specs.declared.copy.VarCopy.{VarCopy}
use Rattle.absence_reaction.specs.declared.copy.Shape.{Shape}

-- what closing asks of a variable
abbrev pub shape_of : Var → Shape
shape_of v = record { storage = v.decl.storage; delayed = v.delayed; start = v.start; place = v.decl.place }

-- ---- the registers of an element: its value, for a memorized variable, and for a delayed one its flag
-- and its pending value

abbrev pub one_if : Bool → ℕ
one_if true = 1
one_if false = 0

abbrev pub registers_each : Shape → ℕ
registers_each v = one_if (is_memorized v.storage) + (one_if v.delayed + one_if v.delayed)

-- the first register of element j, where those of the variable begin at the first one
abbrev pub register_of : Shape → (first j : ℕ) → ℕ
register_of v first j = first + j * registers_each v

abbrev pub flag_of : Shape → (first j : ℕ) → ℕ
flag_of v first j = register_of v first j + one_if (is_memorized v.storage)

abbrev pub pending_of : Shape → (first j : ℕ) → ℕ
pending_of v first j = flag_of v first j + 1

-- ---- what is written to an element

-- the guard of an action for element j, and nothing where it writes another element
abbrev pub guard_for : (j : ℕ) → Tree → Option Ref → Option Tree
guard_for j g None = Some g
guard_for j g (Some (ref.Lit z)) = if same_value z (pos j) then Some g else None
guard_for j g (Some r) = Some (two And g (two Eq (value r) (value (ref.Lit (pos j)))))

-- a guard and what is written under it
abbrev pub arm_before : Option Tree → Ref → List (Tree × Tree) → List (Tree × Tree)
arm_before None v arms = arms
arm_before (Some g) v arms = (g, value v) ∷ arms

-- what the actions write to element j, in order
abbrev pub arms_for : (j : ℕ) → List Action → List (Tree × Tree)
arms_for j [] = []
arms_for j (a ∷ more) = arm_before (guard_for j (value a.guard) a.index) a.value (arms_for j more)

-- the guard holds, and another value is written
abbrev pub disagrees : Ref → Tree × Tree → Tree
disagrees v a = two And a.0 (two Ne a.1 (value v))

-- ---- the cells of an element

-- the cells and the monitors on them
pub record Built : Type 0 where
  pub cells : List Defined
  pub monitors : List Monitor

abbrev pub built : List Cell → List Monitor → Built
built cs ms = record { cells = all_defined cs; monitors = ms }

-- what an element has in a step in which nothing is written
abbrev pub absence_of : Shape → VarCopy → (j : ℕ) → Tree
absence_of v c j = if is_memorized v.storage then (if c.stored then value (ref.Reg (register_of v c.first j)) else value (ref.Lit v.start)) else value (ref.Lit (pos 0))

-- a copy with store of a delayed variable has pending values
abbrev pub has_pending : Shape → VarCopy → Bool
has_pending v c = c.stored && v.delayed

-- the tree of the value cell of element j
abbrev pub value_tree : Shape → VarCopy → (j : ℕ) → Tree
value_tree v c j =
    let written = cases (arms_for j c.now) (absence_of v c j) in
    if has_pending v c then ite (value (ref.Reg (flag_of v c.first j))) (value (ref.Reg (pending_of v c.first j))) written else written

-- the new flag: some delayed write acts
abbrev pub flag_made : Place → List (Tree × Tree) → List Defined → Made
flag_made p arms cs = join p (map (λ a. a.0) arms) cs

-- the new pending value: that of the first delayed write that acts
abbrev pub pending_made : Place → List (Tree × Tree) → List Defined → Made
pending_made p [] cs = given (ref.Lit (pos 0)) cs
pending_made p (a ∷ arms) cs = new (cases (a ∷ arms) (value (ref.Lit (pos 0)))) p cs

-- there can be a conflict: of two writes at least, or of a write with a pending value beside it
abbrev pub can_conflict : (beside : Bool) → (count : ℕ) → Bool
can_conflict beside n = if beside then nat_lt 0 n else nat_lt 1 n

-- a monitor on a new cell
abbrev pub watched_by : Place → Tree → Built → Built
watched_by p t β = record {
  cells = β.cells ++ record { tree = t; place = p } ∷ [];
  monitors = β.monitors ++ record { cell = length β.cells; place = p; kind = Conflict } ∷ [];
}

-- some write that acts writes another value than this one
abbrev pub conflict_made : Place → (beside : Bool) → Ref → List (Tree × Tree) → Built → Built
conflict_made p beside v arms β = if can_conflict beside (length arms) then watched_by p (or_all (map (disagrees v) arms)) β else β

-- what an element is closed with
pub record Element : Type 0 where
  pub flag : Ref
  pub pending : Ref
  pub built : Built

-- the cells of element j, whose value cell has this number, in the order in which they are made
abbrev pub closed_element : Shape → VarCopy → (j cell : ℕ) → Built → Element
closed_element v c j k β =
    let p = v.place in
    let nows = arms_for j c.now in
    let nexts = arms_for j c.next in
    let valued = slice_set β.cells k (record { tree = value_tree v c j; place = p }) in
    let flag = flag_made p nexts valued in
    let pending = pending_made p nexts flag.cells in
    let conflict = conflict_made p (has_pending v c) (ref.Cell k) nows (record β { cells = pending.cells }) in
    record {
      flag = flag.ref;
      pending = pending.ref;
      built = conflict_made p false pending.ref nexts conflict;
    }

-- ---- the whole copy

-- each number is below the bound
abbrev pub AreBelow : (bound : ℕ) → List ℕ → Type 0
AreBelow n [] = Unit {0}
AreBelow n (k ∷ ks) = (k < n) × AreBelow n ks

pub record Copy : Type 0 where
  pub values : List Ref
  pub flags : List Ref
  pub pending : List Ref
  pub built : Built

-- the elements from number j on, whose value cells have these numbers
abbrev pub closed_from : Shape → VarCopy → (j : ℕ) → (cells : List ℕ) → Built → Copy
closed_from v c j [] β = record { values = []; flags = []; pending = []; built = β }
closed_from v c j (k ∷ ks) β =
    let e = closed_element v c j k β in
    let rest = closed_from v c (j + 1) ks e.built in
    record { values = ref.Cell k ∷ rest.values; flags = e.flag ∷ rest.flags; pending = e.pending ∷ rest.pending; built = rest.built }

-- the closed copy
abbrev pub closed_copy : Shape → VarCopy → Built → Copy
closed_copy v c β = closed_from v c 0 c.values β
