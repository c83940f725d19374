-- What is built from statements, and how: each new thing behind those that are there.
use Rattle.std.specs.Prelude.{ℕ, zero, suc, ◌+◌, pos, Bool, true, false, ◌==◌, ◌&&◌, List, [], ◌∷◌, ◌++◌, length, map, replicate, slice_get, slice_set, Option, Some, None, if◌then◌else◌}
use Rattle.quartz_tree.specs.declared.place.Place.{Place}
use Rattle.quartz_expr.specs.Vars.{Vars, count_of, declared_at}
use Rattle.quartz_expr.specs.Resolve.{same_bool}
use Rattle.aif_cells.specs.declared.reference.Ref.{Ref}
use Rattle.aif_cells.specs.declared.reference.Ref.TheVariants as ref
use Rattle.aif_cells.specs.declared.tree.TreeOne.TheVariants as tree_one
use Rattle.aif_cells.specs.declared.tree.TreeTwo.TheVariants as tree_two
use Rattle.aif_cells.specs.declared.cells.Action.{Action}
use Rattle.aif_cells.specs.declared.cells.Monitor.{Monitor}
use Rattle.aif_cells.specs.declared.cells.Made.{Made as MadeCopy}
use Rattle.aif_cells.specs.Tree.{Tree, value, one, two}
use Rattle.aif_cells.specs.Built.{Defined, reference_in}
use Rattle.absence_reaction.specs.declared.copy.Shape.{Shape}
use Rattle.absence_reaction.specs.declared.copy.VarCopy.{VarCopy}
use Rattle.absence_reaction.specs.Closing.{Built, Copy, closed_copy, value_tree}
use Rattle.reincarnation.specs.declared.copy.ClosedRefs.{ClosedRefs}
use Rattle.reincarnation.specs.declared.copy.Entered.{Entered}
use Rattle.reincarnation.specs.Entering.{copies_of, numbers_from, reserved}
use Rattle.statement_cells.specs.Labels.{shape_in}
use Rattle.statement_cells.specs.Expressions.{Copies, Test}

-- a label, and the reference under which it is entered or stays
pub record Entry : Type 0 where
  pub label : ℕ
  pub under : Ref

-- a value cell that is reserved for an element of a variable
pub record Reserved : Type 0 where
  pub var : ℕ
  pub cell : ℕ

-- a copy of a scope is active where the reference holds with which its scope was started; or where one of the scope's
-- labels is 1, of which there are so many from the first one on, and the reference holds with which it was resumed
pub data Activity : Type 0 where
  started : (go : Ref) → Activity
  resumed : (label labels : ℕ) → (res : Ref) → Activity

-- a copy of a scope's variable that is closed: where it is active, its value cells, their trees, and what they are where
-- nothing is written
pub record Scoped : Type 0 where
  pub var : ℕ
  pub active : Activity
  pub cells : List ℕ
  pub trees : List Tree
  pub absent : List Tree

-- a copy without store of a scope whose registers begin at the first one: it is still active behind the step where that
-- reference holds
pub record EnteredCopy : Type 0 where
  pub var : ℕ
  pub first : ℕ
  pub entered : Entered

-- the copy with store of a scope: its labels, of which there are so many, and where its registers begin
pub record DepthCopy : Type 0 where
  pub var : ℕ
  pub label : ℕ
  pub labels : ℕ
  pub first : ℕ
  pub closed : ClosedRefs

-- `actions` are all, and `writes` those of the copies that aren't closed yet; the copies that a scope makes stand behind
-- its own
pub record Builder : Type 0 where
  pub cells : List Defined
  pub monitors : List Monitor
  pub actions : List Action
  pub made : List MadeCopy
  pub entries : List Entry
  pub stays : List Entry
  pub writes : List Action
  pub reserved : List Reserved
  pub scopes : List Scoped
  pub entered : List EnteredCopy
  pub depths : List DepthCopy

-- a reference, and the builder that it leaves
pub record Made : Type 0 where
  pub ref : Ref
  pub built : Builder

abbrev pub given : Ref → Builder → Made
given r β = record { ref = r; built = β }

-- cells that belong to no variable have the place 1:1
abbrev pub nowhere : Place
nowhere = record { line = 1; col = 1 }

abbrev pub cell_before : Tree → Place → Builder → Builder
cell_before t p β = record β { cells = β.cells ++ record { tree = t; place = p } ∷ [] }

-- a new cell
unfoldable pub new : Tree → Builder → Made
new t β = record { ref = ref.Cell (length β.cells); built = cell_before t nowhere β }

-- ---- helpers, made anew at each use

abbrev pub zero_ref : Ref
zero_ref = ref.Lit (pos 0)

abbrev pub one_ref : Ref
one_ref = ref.Lit (pos 1)

unfoldable pub not_of : Ref → Builder → Made
not_of (ref.Lit (pos zero)) β = given one_ref β
not_of (ref.Lit z) β = given zero_ref β
not_of a β = new (one tree_one.Not (value a)) β

-- what a literal leaves of an `and`, an `or`
pub data Short : Type 0 where
  first : Short
  second : Short
  both : Short

abbrev pub short_and : Ref → Ref → Short
short_and (ref.Lit (pos zero)) b = first
short_and a (ref.Lit (pos zero)) = second
short_and (ref.Lit z) b = second
short_and a (ref.Lit z) = first
short_and a b = both

abbrev pub short_or : Ref → Ref → Short
short_or (ref.Lit (pos zero)) b = second
short_or a (ref.Lit (pos zero)) = first
short_or (ref.Lit z) b = first
short_or a (ref.Lit z) = second
short_or a b = both

abbrev pub pick : Short → Tree → Ref → Ref → Builder → Made
pick first t a b β = given a β
pick second t a b β = given b β
pick both t a b β = new t β

unfoldable pub and_of : Ref → Ref → Builder → Made
and_of a b β = pick (short_and a b) (two tree_two.And (value a) (value b)) a b β

unfoldable pub or_of : Ref → Ref → Builder → Made
or_of a b β = pick (short_or a b) (two tree_two.Or (value a) (value b)) a b β

-- the labels from l on, so many and one more
abbrev pub labels_tree : (l n : ℕ) → Tree
labels_tree l zero = value (ref.Reg l)
labels_tree l (suc n) = two tree_two.Or (value (ref.Reg l)) (labels_tree (l + 1) n)

-- one of the n labels from l on is 1
unfoldable pub in_of : (l n : ℕ) → Builder → Made
in_of l zero β = given zero_ref β
in_of l (suc zero) β = given (ref.Reg l) β
in_of l (suc (suc n)) β = new (labels_tree l (suc n)) β

abbrev pub given_or_new : Option Ref → Tree → Builder → Made
given_or_new (Some r) t β = given r β
given_or_new None t β = new t β

-- a tree as a reference: itself, if it is one
unfoldable pub cell_of : Tree → Builder → Made
cell_of t β = given_or_new (reference_in t) t β

-- ---- labels, actions, monitors

unfoldable pub enter : (label : ℕ) → Ref → Builder → Builder
enter l r β = record β { entries = β.entries ++ record { label = l; under = r } ∷ [] }

unfoldable pub stay_at : (label : ℕ) → Ref → Builder → Builder
stay_at l r β = record β { stays = β.stays ++ record { label = l; under = r } ∷ [] }

unfoldable pub act : Action → Builder → Builder
act a β = record β { actions = β.actions ++ a ∷ []; writes = β.writes ++ a ∷ [] }

-- a monitor on a new cell
abbrev pub watch_one : Test → Builder → Builder
watch_one t β = record β {
  cells = β.cells ++ record { tree = t.tree; place = nowhere } ∷ [];
  monitors = β.monitors ++ record { cell = length β.cells; place = t.place; kind = t.kind } ∷ [];
}

unfoldable pub watch : List Test → Builder → Builder
watch [] β = β
watch (t ∷ ts) β = watch ts (watch_one t β)

-- ---- copies of scopes

abbrev pub reserved_cells : (var : ℕ) → List ℕ → List Reserved
reserved_cells x [] = []
reserved_cells x (k ∷ ks) = record { var = x; cell = k } ∷ reserved_cells x ks

-- the value cells of a new copy
abbrev pub new_cells : Vars → (var : ℕ) → Builder → List ℕ
new_cells vs x β = numbers_from (length β.cells) (count_of vs x)

-- the new copy is the current one
abbrev pub entering : Vars → (var : ℕ) → Copies → Builder → Copies
entering vs x κ β = slice_set κ x (record { copy = copies_of x β.made; values = map ref.Cell (new_cells vs x β) })

-- a new copy, with reserved value cells; no action writes to it yet
unfoldable pub reserve : Vars → (var : ℕ) → (stored : Bool) → Builder → Builder
reserve vs x stored β = record β {
  cells = β.cells ++ replicate (count_of vs x) (reserved (declared_at vs x));
  made = β.made ++ record { var = x; stored = stored } ∷ [];
  reserved = β.reserved ++ reserved_cells x (new_cells vs x β);
  writes = [];
  scopes = [];
}

-- the actions that write the variable, now or for the next step; and those that write others
abbrev pub action_if : Bool → Action → List Action → List Action
action_if true a more = a ∷ more
action_if false a more = more

abbrev pub writes_to : (var : ℕ) → (delayed : Bool) → List Action → List Action
writes_to x d [] = []
writes_to x d (a ∷ more) = action_if ((a.var == x) && same_bool a.delayed d) a (writes_to x d more)

abbrev pub writes_to_others : (var : ℕ) → List Action → List Action
writes_to_others x [] = []
writes_to_others x (a ∷ more) = if a.var == x then writes_to_others x more else a ∷ writes_to_others x more

-- the copy of the variable that was reserved there
abbrev pub copy_at : Vars → (var : ℕ) → (stored : Bool) → (first : ℕ) → (before inner : Builder) → VarCopy
copy_at vs x stored v before inner = record {
  var = x;
  copy = copies_of x before.made;
  stored = stored;
  first = v;
  values = new_cells vs x before;
  now = writes_to x false inner.writes;
  next = writes_to x true inner.writes;
}

abbrev pub built_of : Builder → Built
built_of β = record { cells = β.cells; monitors = β.monitors }

abbrev tree_in : Option Defined → Tree
tree_in None = value zero_ref
tree_in (Some c) = c.tree

abbrev pub tree_at : List Defined → ℕ → Tree
tree_at cs k = tree_in (slice_get cs k)

abbrev pub closed_refs : Copy → ClosedRefs
closed_refs c = record { values = c.values; flags = c.flags; pending = c.pending }

-- what the elements from number j on have where nothing is written
abbrev pub absent_from : Shape → VarCopy → (j : ℕ) → List ℕ → List Tree
absent_from s c j [] = []
absent_from s c j (k ∷ ks) = value_tree s (record c { now = [] }) j ∷ absent_from s c (j + 1) ks

-- a scope's copy, and the builder behind it
pub record Closed : Type 0 where
  pub refs : ClosedRefs
  pub built : Builder

-- closes the copy that was reserved before the body was built: its actions are done, and those of other variables stand
-- behind the ones before
unfoldable pub close_scope : Vars → (var : ℕ) → (stored : Bool) → (first : ℕ) → Activity → (before inner : Builder) → Closed
close_scope vs x stored v active before inner =
    let copy = copy_at vs x stored v before inner in
    let closed = closed_copy (shape_in vs x) copy (built_of inner) in
    record {
      refs = closed_refs closed;
      built = record inner {
        cells = closed.built.cells;
        monitors = closed.built.monitors;
        writes = before.writes ++ writes_to_others x inner.writes;
        scopes = before.scopes ++ record { var = x; active = active; cells = copy.values; trees = map (tree_at closed.built.cells) copy.values; absent = absent_from (shape_in vs x) copy 0 copy.values } ∷ inner.scopes;
      };
    }

-- a copy that may have been entered, if the scope has registers
unfoldable pub keep_entered : (registers : ℕ) → (var first : ℕ) → (enter : Ref) → ClosedRefs → Builder → Builder
keep_entered zero x v e c β = β
keep_entered (suc _) x v e c β = record β { entered = β.entered ++ record { var = x; first = v; entered = record { enter = e; closed = c } } ∷ [] }

-- the copy with store, if the scope has registers
unfoldable pub keep_depth : (registers : ℕ) → DepthCopy → Builder → Builder
keep_depth zero d β = β
keep_depth (suc _) d β = record β { depths = β.depths ++ d ∷ [] }
