-- The faults of the parts of an expression that are evaluated, in the order of evaluation.
use Rattle.std.specs.Prelude.{ℕ, ℤ, pos, negsuc, Bool, true, false, not, ◌&&◌, nat_lt, List, [], ◌∷◌, ◌++◌, if◌then◌else◌}
use Rattle.quartz_tree.specs.declared.place.Place.{Place}
use Rattle.quartz_tree.specs.declared.fault.Kind.{Kind}
use Rattle.quartz_tree.specs.declared.fault.Kind.TheVariants.{Index, Divisor}
use Rattle.quartz_tree.specs.declared.fault.Fault.{Fault}
use Rattle.quartz_tree.specs.declared.expr.Binary.{Binary}
use Rattle.quartz_tree.specs.declared.expr.Binary.TheVariants.{Div, Rem}
use Rattle.quartz_tree.specs.Tree.{Tree, truth, number, bits, named, element, one, two, choice, slice, to_nat, to_bv, paren}
use Rattle.quartz_expr.specs.Values.{Values, is_zero}
use Rattle.quartz_expr.specs.Vars.{Vars, count_of}
use Rattle.quartz_expr.specs.Value.{value}

-- a fault of that kind at that place, where the test holds
abbrev pub fault_if : Bool → Kind → Place → List Fault
fault_if true k p = record { place = p; kind = k } ∷ []
fault_if false k p = []

-- the index names one of so many elements
abbrev pub is_index_below : ℕ → ℤ → Bool
is_index_below n (pos i) = nat_lt i n
is_index_below n (negsuc i) = false

-- an index that names no element of the variable
abbrev pub index_faults : Vars → ℕ → ℤ → Place → List Fault
index_faults vs x i p = fault_if (not (is_index_below (count_of vs x) i)) Index p

abbrev pub divides : Binary → Bool
divides Div = true
divides Rem = true
divides _ = false

-- a divisor that is 0
abbrev pub divisor_faults : Binary → ℤ → Place → List Fault
divisor_faults op b p = fault_if (divides op && is_zero b) Divisor p

-- parts from left to right, a part before the whole, and of `c ? a : b` the chosen side alone
abbrev pub faults : Vars → Values → Tree ℕ → List Fault
faults vs env (truth _ _) = []
faults vs env (number _ _) = []
faults vs env (bits _ _ _) = []
faults vs env (named _ _) = []
faults vs env (element x i p) = faults vs env i ++ index_faults vs x (value vs env i) p
faults vs env (one _ a _) = faults vs env a
faults vs env (two op a b p) = faults vs env a ++ (faults vs env b ++ divisor_faults op (value vs env b) p)
faults vs env (choice c a b _) = faults vs env c ++ (if is_zero (value vs env c) then faults vs env b else faults vs env a)
faults vs env (slice a _ _ _) = faults vs env a
faults vs env (to_nat a _) = faults vs env a
faults vs env (to_bv a _ _ _) = faults vs env a
faults vs env (paren a _) = faults vs env a
