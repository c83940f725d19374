-- The value of an element in a macro step, and what is kept of it.
use Rattle.std.specs.Prelude.{ℕ, ◌+◌, ℤ, pos, Bool, true, false, not, ◌==◌, ◌&&◌, ◌||◌, List, [], ◌∷◌, ◌++◌, replicate, Option, Some, None, if◌then◌else◌, unwrap_or}
use Rattle.quartz_tree.specs.declared.place.Place.{Place}
use Rattle.quartz_tree.specs.declared.declare.Storage.{Storage}
use Rattle.quartz_tree.specs.declared.declare.Storage.TheVariants.{Mem, Event}
use Rattle.quartz_tree.specs.declared.fault.Kind.TheVariants.{Conflict}
use Rattle.quartz_tree.specs.declared.fault.Fault.{Fault}
use Rattle.quartz_expr.specs.declared.act.Act.{Act}
use Rattle.quartz_expr.specs.declared.act.Kept.{Kept}
use Rattle.quartz_expr.specs.Values.{same_value}
use Rattle.quartz_expr.specs.Vars.{Vars, count_of, start_of}
use Rattle.quartz_expr.specs.Faults.{fault_if}
use Rattle.quartz_expr.specs.Terms.{Store}

abbrev pub same_bool : Bool → Bool → Bool
same_bool true b = b
same_bool false b = not b

-- the act writes that element of that variable, in this step or in the next
abbrev pub is_write_of : (var element : ℕ) → (delayed : Bool) → Act → Bool
is_write_of x n d a = (a.var == x) && ((a.element == n) && same_bool a.delayed d)

-- the values that the acts write to an element, in order of reaction
abbrev pub writes_of : (var element : ℕ) → (delayed : Bool) → List Act → List ℤ
writes_of x n d [] = []
writes_of x n d (a ∷ ws) = if is_write_of x n d a then a.value ∷ writes_of x n d ws else writes_of x n d ws

abbrev pub first_of_all : List ℤ → Option ℤ
first_of_all [] = None
first_of_all (z ∷ zs) = Some z

-- what an element has where nothing is written: the previous value, or 0 for an event
abbrev pub absence : Storage → ℤ → ℤ
absence Mem z = z
absence Event z = pos 0

-- the value of an element: the pending value, else the first now-value, else the absence value
abbrev pub resolved : Storage → Kept → (now : List ℤ) → ℤ
resolved s k now = unwrap_or k.pending (unwrap_or (first_of_all now) (absence s k.value))

-- what is kept of an element that has that value: the first next-value is pending
abbrev pub kept : ℤ → (next : List ℤ) → Kept
kept z next = record { value = z; pending = first_of_all next }

-- some value differs from this one
abbrev pub differs_from : ℤ → List ℤ → Bool
differs_from z [] = false
differs_from z (y ∷ ys) = not (same_value y z) || differs_from z ys

-- two of the values differ
abbrev pub differ : List ℤ → Bool
differ [] = false
differ (z ∷ zs) = differs_from z zs

-- the conflicts of an element that has that value: a now-value that differs from it, and two
-- next-values that differ
abbrev pub conflicts : Place → ℤ → (now next : List ℤ) → List Fault
conflicts p z now next = fault_if (differs_from z now) Conflict p ++ fault_if (differ next) Conflict p

-- a store, from its element n on, as the acts resolve it
abbrev pub resolved_store : Storage → (var : ℕ) → List Act → ℕ → Store → Store
resolved_store s x ws n [] = []
resolved_store s x ws n (k ∷ ks) = kept (resolved s k (writes_of x n false ws)) (writes_of x n true ws) ∷ resolved_store s x ws (n + 1) ks

-- a store, from its element n on, whose elements have these values
abbrev pub given_store : (var : ℕ) → List Act → ℕ → List ℤ → Store
given_store x ws n [] = []
given_store x ws n (z ∷ zs) = kept z (writes_of x n true ws) ∷ given_store x ws (n + 1) zs

-- the conflicts of a variable whose elements, from n on, have these values
abbrev pub store_conflicts : Place → (var : ℕ) → List Act → ℕ → List ℤ → List Fault
store_conflicts p x ws n [] = []
store_conflicts p x ws n (z ∷ zs) = conflicts p z (writes_of x n false ws) (writes_of x n true ws) ++ store_conflicts p x ws (n + 1) zs

abbrev pub values_of : Store → List ℤ
values_of [] = []
values_of (k ∷ ks) = k.value ∷ values_of ks

-- the store with which a scope or an output starts: start values, and nothing pending
abbrev pub fresh_store : Vars → (var : ℕ) → Store
fresh_store vs x = replicate (count_of vs x) (record { value = start_of vs x; pending = None })

-- an element after a macro step in which nothing is written
abbrev pub absent : Storage → Kept → Kept
absent s k = kept (resolved s k []) []

-- the acts on other variables
abbrev pub others : (var : ℕ) → List Act → List Act
others x [] = []
others x (a ∷ ws) = if a.var == x then others x ws else a ∷ others x ws
