-- What a write does: at most one act, and its faults.
use Rattle.std.specs.Prelude.{ℕ, ℤ, pos, Bool, true, false, not, List, [], ◌∷◌, ◌++◌, Option, Some, None, unsigned_abs, if◌then◌else◌}
use Rattle.quartz_tree.specs.declared.place.Place.{Place}
use Rattle.quartz_tree.specs.declared.fault.Kind.TheVariants.{Range}
use Rattle.quartz_tree.specs.declared.fault.Fault.{Fault}
use Rattle.quartz_tree.specs.Tree.{Tree}
use Rattle.quartz_expr.specs.declared.act.Act.{Act}
use Rattle.quartz_expr.specs.Values.{Values}
use Rattle.quartz_expr.specs.Vars.{Vars, count_of}
use Rattle.quartz_expr.specs.Value.{value}
use Rattle.quartz_expr.specs.Faults.{fault_if, is_index_below, index_faults, faults}
use Rattle.quartz_expr.specs.Intervals.{range_of, is_in}

-- the element that is written: the indexed one, or the only one
abbrev pub target_index : Vars → Values → Option (Tree ℕ) → ℤ
target_index vs env None = pos 0
target_index vs env (Some i) = value vs env i

-- a value out of the target's range becomes 0
abbrev pub in_range : Vars → ℕ → ℤ → ℤ
in_range vs x z = if is_in (range_of vs x) z then z else pos 0

-- a write of one element; none where the index is out of range
abbrev pub act_if : Bool → (var : ℕ) → (element value : ℤ) → (delayed : Bool) → List Act
act_if true x i z d = record { var = x; element = unsigned_abs i; value = z; delayed = d } ∷ []
act_if false x i z d = []

-- the acts of a write
abbrev pub write_acts : Vars → Values → (var : ℕ) → (index : Option (Tree ℕ)) → (value : Tree ℕ) → (delayed : Bool) → List Act
write_acts vs env x i e d =
    let n = target_index vs env i in
    act_if (is_index_below (count_of vs x) n) x n (in_range vs x (value vs env e)) d

-- the faults of an index
abbrev pub target_faults : Vars → Values → Option (Tree ℕ) → List Fault
target_faults vs env None = []
target_faults vs env (Some i) = faults vs env i

-- the faults of a write: those of its index and its right side, then an index out of range at the
-- array's name, then a value out of the target's range at the write
abbrev pub write_faults : Vars → Values → (var : ℕ) → (index : Option (Tree ℕ)) → (value : Tree ℕ) → (place target_place : Place) → List Fault
write_faults vs env x i e p q =
    target_faults vs env i ++ (faults vs env e
    ++ (index_faults vs x (target_index vs env i) q ++ fault_if (not (is_in (range_of vs x) (value vs env e))) Range p))
