-- The definitions on worked examples, by computation.
use Rattle.std.proofs.Common.{◌≡◌, refl}
use Rattle.std.specs.Prelude.{ℕ, ◌+◌, ◌^◌, map, flat_map, ℤ, pos, negsuc, true, false, List, [], ◌∷◌, Option, Some, None}
use Rattle.quartz_tree.specs.declared.place.Place.{Place}
use Rattle.quartz_tree.specs.declared.fault.Fault.{Fault}
use Rattle.quartz_tree.specs.declared.fault.Kind.{Kind}
use Rattle.quartz_tree.specs.declared.fault.Kind.TheVariants.{Range, Index, Divisor}
use Rattle.quartz_tree.specs.declared.declare.Var.{Var}
use Rattle.quartz_tree.specs.declared.declare.Base.{Base}
use Rattle.quartz_tree.specs.declared.declare.Base.TheVariants as base
use Rattle.quartz_tree.specs.declared.declare.Flow.{Flow}
use Rattle.quartz_tree.specs.declared.declare.Flow.TheVariants.{Input, Output}
use Rattle.quartz_tree.specs.declared.declare.Storage.{Storage}
use Rattle.quartz_tree.specs.declared.declare.Storage.TheVariants.{Mem}
use Rattle.quartz_tree.specs.declared.expr.Unary.TheVariants.{Not, Neg}
use Rattle.quartz_tree.specs.declared.expr.Binary.TheVariants.{Iff, Implies, Or, Xor, And, Eq, Ne, Lt, Le, Gt, Ge, Cat, Add, Sub, Mul, Div, Rem}
use Rattle.quartz_tree.specs.Tree.{Tree, truth, number, bits, named, element, one, two, choice, slice, to_nat, to_bv, paren}
use Rattle.quartz_expr.specs.Values.{Values}
use Rattle.quartz_expr.specs.Vars.{Vars}
use Rattle.quartz_expr.specs.Kinds.{kind, kind_breaks, boolean, numeric, vector}
use Rattle.quartz_expr.specs.Value.{value}
use Rattle.quartz_expr.specs.Faults.{faults}
use Rattle.quartz_expr.specs.Intervals.{interval, span, bound_breaks}
use Rattle.quartz_expr.specs.Terms.{Term, nothing, write, scope}
use Rattle.quartz_expr.specs.Writes.{write_acts, write_faults}
use Rattle.quartz_expr.specs.Tick.{tick}
use Rattle.quartz_expr.specs.React.{React, Reaction, of_scope, of_write, scoped, ends}

abbrev at : ℕ → Place
at n = record { line = 1; col = n }

abbrev var : Base → Option ℕ → Storage → Flow → ℤ → Var
var b n s f z = record {
  decl = record { name = []; ty = record { base = b; len = n }; storage = s; flow = f; place = at 90; base_place = at 91; len_place = at 92; init = None };
  delayed = true;
  start = z;
}

-- int{8} x, [2]nat{4} t, bv{4} p, bool b
abbrev four : Vars
four = var (base.Int 8) None Mem Input (pos 0) ∷ var (base.Nat 4) (Some 2) Mem Input (pos 0) ∷ var (base.Bv 4) None Mem Input (pos 0) ∷ var base.Bool None Mem Output (pos 0) ∷ []

abbrev env : Values
env = (negsuc 6 ∷ []) ∷ (pos 3 ∷ pos 2 ∷ []) ∷ (pos 10 ∷ []) ∷ (pos 1 ∷ []) ∷ []

abbrev x : Tree ℕ
x = named 0 (at 1)

abbrev p : Tree ℕ
p = named 2 (at 3)

abbrev b : Tree ℕ
b = named 3 (at 4)

abbrev fault : Kind → ℕ → Fault
fault k n = record { place = at n; kind = k }

abbrev num : ℕ → Tree ℕ
num n = number n (at 5)

-- 83 expressions over all operators, kinds and faults
abbrev expressions : List (Tree ℕ)
expressions =
    truth true (at 30)
    ∷ truth false (at 31)
    ∷ num 5
    ∷ bits 4 9 (at 32)
    ∷ x
    ∷ b
    ∷ p
    ∷ element 1 (num 0) (at 40)
    ∷ element 1 (num 1) (at 40)
    ∷ element 1 (num 2) (at 40)
    ∷ element 1 x (at 40)
    ∷ one Neg x (at 21)
    ∷ one Neg (num 3) (at 21)
    ∷ one Not b (at 22)
    ∷ one Not (truth false (at 31)) (at 22)
    ∷ one Not p (at 22)
    ∷ one Not (bits 8 255 (at 32)) (at 22)
    ∷ two Iff (truth false (at 31)) (truth false (at 31)) (at 20)
    ∷ two Iff (truth false (at 31)) (truth true (at 30)) (at 20)
    ∷ two Iff (truth true (at 30)) (truth false (at 31)) (at 20)
    ∷ two Iff (truth true (at 30)) (truth true (at 30)) (at 20)
    ∷ two Implies (truth false (at 31)) (truth false (at 31)) (at 20)
    ∷ two Implies (truth false (at 31)) (truth true (at 30)) (at 20)
    ∷ two Implies (truth true (at 30)) (truth false (at 31)) (at 20)
    ∷ two Implies (truth true (at 30)) (truth true (at 30)) (at 20)
    ∷ two Or (truth false (at 31)) (truth false (at 31)) (at 20)
    ∷ two Or (truth false (at 31)) (truth true (at 30)) (at 20)
    ∷ two Or (truth true (at 30)) (truth false (at 31)) (at 20)
    ∷ two Or (truth true (at 30)) (truth true (at 30)) (at 20)
    ∷ two Xor (truth false (at 31)) (truth false (at 31)) (at 20)
    ∷ two Xor (truth false (at 31)) (truth true (at 30)) (at 20)
    ∷ two Xor (truth true (at 30)) (truth false (at 31)) (at 20)
    ∷ two Xor (truth true (at 30)) (truth true (at 30)) (at 20)
    ∷ two And (truth false (at 31)) (truth false (at 31)) (at 20)
    ∷ two And (truth false (at 31)) (truth true (at 30)) (at 20)
    ∷ two And (truth true (at 30)) (truth false (at 31)) (at 20)
    ∷ two And (truth true (at 30)) (truth true (at 30)) (at 20)
    ∷ two Or p (bits 4 5 (at 32)) (at 20)
    ∷ two And p (bits 4 6 (at 32)) (at 20)
    ∷ two Xor p (bits 4 6 (at 32)) (at 20)
    ∷ two Eq x (num 3) (at 20)
    ∷ two Eq p (bits 4 10 (at 32)) (at 20)
    ∷ two Eq b (truth true (at 30)) (at 20)
    ∷ two Ne x (num 3) (at 20)
    ∷ two Ne p p (at 20)
    ∷ two Lt x (num 0) (at 20)
    ∷ two Lt (num 2) (num 2) (at 20)
    ∷ two Le (num 2) (num 2) (at 20)
    ∷ two Le (num 3) (num 2) (at 20)
    ∷ two Gt (num 3) x (at 20)
    ∷ two Gt x x (at 20)
    ∷ two Ge x x (at 20)
    ∷ two Ge x (num 0) (at 20)
    ∷ two Cat p (bits 3 5 (at 32)) (at 20)
    ∷ two Cat p (one Not p (at 22)) (at 20)
    ∷ two Add x (num 3) (at 20)
    ∷ two Sub (num 3) x (at 20)
    ∷ two Mul x (num 3) (at 20)
    ∷ two Mul x x (at 20)
    ∷ two Div x (num 2) (at 20)
    ∷ two Div (num 7) (one Neg (num 2) (at 21)) (at 20)
    ∷ two Div x (one Neg (num 2) (at 21)) (at 20)
    ∷ two Div (num 7) (num 2) (at 20)
    ∷ two Rem x (num 2) (at 20)
    ∷ two Rem (num 7) (one Neg (num 2) (at 21)) (at 20)
    ∷ two Rem x (one Neg (num 2) (at 21)) (at 20)
    ∷ two Rem (num 7) (num 2) (at 20)
    ∷ two Div x (num 0) (at 25)
    ∷ two Rem x (num 0) (at 25)
    ∷ choice b (num 4) (two Div x (num 0) (at 25)) (at 26)
    ∷ choice (truth false (at 31)) (num 4) (two Div x (num 0) (at 25)) (at 26)
    ∷ choice (two Eq (element 1 x (at 40)) (num 1) (at 24)) (num 4) (num 6) (at 26)
    ∷ two Implies (truth false (at 31)) (two Eq (two Div x (num 0) (at 25)) (num 0) (at 20)) (at 20)
    ∷ two Add (two Div x (num 0) (at 25)) (element 1 x (at 40)) (at 20)
    ∷ element 1 (two Rem (num 1) (num 0) (at 25)) (at 40)
    ∷ slice p 1 None (at 27)
    ∷ slice p 0 None (at 27)
    ∷ slice p 3 (Some 2) (at 27)
    ∷ slice p 2 (Some 1) (at 27)
    ∷ slice p 3 (Some 0) (at 27)
    ∷ to_nat p (at 28)
    ∷ to_bv (num 9) 4 (at 29) (at 28)
    ∷ paren x (at 33)
    ∷ []

-- the value of each
values_table : map (value four env) expressions ≡ pos 1 ∷ pos 0 ∷ pos 5 ∷ pos 9 ∷ negsuc 6 ∷ pos 1 ∷ pos 10 ∷ pos 3 ∷ pos 2 ∷ pos 0 ∷ pos 0 ∷ pos 7 ∷ negsuc 2 ∷ pos 0 ∷ pos 1 ∷ pos 5 ∷ pos 0 ∷ pos 1 ∷ pos 0 ∷ pos 0 ∷ pos 1 ∷ pos 1 ∷ pos 1 ∷ pos 0 ∷ pos 1 ∷ pos 0 ∷ pos 1 ∷ pos 1 ∷ pos 1 ∷ pos 0 ∷ pos 1 ∷ pos 1 ∷ pos 0 ∷ pos 0 ∷ pos 0 ∷ pos 0 ∷ pos 1 ∷ pos 15 ∷ pos 2 ∷ pos 12 ∷ pos 0 ∷ pos 1 ∷ pos 1 ∷ pos 1 ∷ pos 0 ∷ pos 1 ∷ pos 0 ∷ pos 1 ∷ pos 0 ∷ pos 1 ∷ pos 0 ∷ pos 1 ∷ pos 0 ∷ pos 85 ∷ pos 165 ∷ negsuc 3 ∷ pos 10 ∷ negsuc 20 ∷ pos 49 ∷ negsuc 2 ∷ negsuc 2 ∷ pos 3 ∷ pos 3 ∷ negsuc 0 ∷ pos 1 ∷ negsuc 0 ∷ pos 1 ∷ pos 0 ∷ pos 0 ∷ pos 4 ∷ pos 0 ∷ pos 6 ∷ pos 1 ∷ pos 0 ∷ pos 3 ∷ pos 1 ∷ pos 0 ∷ pos 2 ∷ pos 1 ∷ pos 10 ∷ pos 10 ∷ pos 9 ∷ negsuc 6 ∷ []
values_table = refl

-- the faults of each
faults_table : map (faults four env) expressions ≡ [] ∷ [] ∷ [] ∷ [] ∷ [] ∷ [] ∷ [] ∷ [] ∷ [] ∷ (fault Index 40 ∷ []) ∷ (fault Index 40 ∷ []) ∷ [] ∷ [] ∷ [] ∷ [] ∷ [] ∷ [] ∷ [] ∷ [] ∷ [] ∷ [] ∷ [] ∷ [] ∷ [] ∷ [] ∷ [] ∷ [] ∷ [] ∷ [] ∷ [] ∷ [] ∷ [] ∷ [] ∷ [] ∷ [] ∷ [] ∷ [] ∷ [] ∷ [] ∷ [] ∷ [] ∷ [] ∷ [] ∷ [] ∷ [] ∷ [] ∷ [] ∷ [] ∷ [] ∷ [] ∷ [] ∷ [] ∷ [] ∷ [] ∷ [] ∷ [] ∷ [] ∷ [] ∷ [] ∷ [] ∷ [] ∷ [] ∷ [] ∷ [] ∷ [] ∷ [] ∷ [] ∷ (fault Divisor 25 ∷ []) ∷ (fault Divisor 25 ∷ []) ∷ [] ∷ (fault Divisor 25 ∷ []) ∷ (fault Index 40 ∷ []) ∷ (fault Divisor 25 ∷ []) ∷ (fault Divisor 25 ∷ fault Index 40 ∷ []) ∷ (fault Divisor 25 ∷ []) ∷ [] ∷ [] ∷ [] ∷ [] ∷ [] ∷ [] ∷ [] ∷ [] ∷ []
faults_table = refl

-- none breaks a rule of kinds or of bounds
no_kind_breaks : flat_map (kind_breaks four) expressions ≡ []
no_kind_breaks = refl

no_bound_breaks : flat_map (bound_breaks four) expressions ≡ []
no_bound_breaks = refl

kinds_table : map (kind four) (two Cat p (one Not p (at 6)) (at 5) ∷ slice p 3 (Some 2) (at 5) ∷ slice p 3 None (at 5) ∷ two Add x x (at 5) ∷ two Lt x x (at 5) ∷ two Add p x (at 5) ∷ named 1 (at 5) ∷ element 0 x (at 5) ∷ [])
    ≡ Some (vector 8) ∷ Some (vector 2) ∷ Some boolean ∷ Some numeric ∷ Some boolean ∷ None ∷ None ∷ None ∷ []
kinds_table = refl

-- the operator; an array without an index; a scalar with one, beside an index without a kind; the inner of two
breaks_table : map (kind_breaks four) (two Add p x (at 5) ∷ named 1 (at 5) ∷ element 0 (named 1 (at 6)) (at 5) ∷ two Add (two Add p x (at 5)) p (at 6) ∷ [])
    ≡ (at 5 ∷ []) ∷ (at 5 ∷ []) ∷ (at 5 ∷ at 6 ∷ []) ∷ (at 5 ∷ []) ∷ []
breaks_table = refl

intervals_table : map (interval four) (two Mul x x (at 2) ∷ two Div x (num 3) (at 2) ∷ two Div (num 9) x (at 2) ∷ two Rem x (num 3) (at 2) ∷ two Rem (num 2) x (at 2) ∷ element 1 (num 0) (at 2) ∷ to_nat p (at 2) ∷ choice b x (num 20) (at 2) ∷ one Neg x (at 2) ∷ truth true (at 2) ∷ [])
    ≡ span (negsuc 55) (pos 64) ∷ span (negsuc 1) (pos 2) ∷ span (negsuc 8) (pos 9) ∷ span (negsuc 1) (pos 2) ∷ span (pos 0) (pos 2) ∷ span (pos 0) (pos 3) ∷ span (pos 0) (pos 15) ∷ span (negsuc 7) (pos 20) ∷ span (negsuc 6) (pos 8) ∷ span (pos 1) (pos 1) ∷ []
intervals_table = refl

-- the product; a wide `@`; a bit out of range; the ends of a slice; the width and the argument of `nat2bv`; a literal
bounds_table : map (bound_breaks four) (two Mul (num (2 ^ 40)) (num (2 ^ 40)) (at 9) ∷ two Cat (bits 30 1 (at 1)) p (at 9) ∷ slice p 4 None (at 9) ∷ slice p 1 (Some 2) (at 9) ∷ to_bv (num 9) 33 (at 8) (at 7) ∷ to_bv (num 9) 3 (at 8) (at 7) ∷ num (2 ^ 62 + 1) ∷ [])
    ≡ (at 9 ∷ []) ∷ (at 9 ∷ []) ∷ (at 9 ∷ []) ∷ (at 9 ∷ []) ∷ (at 8 ∷ []) ∷ (at 7 ∷ []) ∷ (at 5 ∷ []) ∷ []
bounds_table = refl

-- t[7] = 9 has both faults and no act
write_example : write_faults four env 1 (Some (num 7)) (num 9) (at 1) (at 2) ≡ record { place = at 2; kind = Index } ∷ record { place = at 1; kind = Range } ∷ []
write_example = refl

act_example : write_acts four env 1 (Some (num 1)) (num 9) false ≡ record { var = 1; element = 1; value = pos 0; delayed = false } ∷ []
act_example = refl

-- the pending value is the value, and nothing is pending
tick_example : tick four (scope 3 (Some (record { value = pos 0; pending = Some (pos 1) } ∷ [])) nothing) ≡ scope 3 (Some (record { value = pos 1; pending = None } ∷ [])) nothing
tick_example = refl

abbrev truth_write : Term
truth_write = write 3 None (truth true (at 4)) false (at 1) (at 1)

-- a scope of a bool around the write of true, with the value 1: no acts and faults, and the value is the wanted one
abbrev given_one : Reaction
given_one = scoped four 3 None truth_write (pos 1 ∷ []) (ends (record { var = 3; element = 0; value = pos 1; delayed = false } ∷ []) [] truth_write)

scope_reacts : React four env (scope 3 None truth_write) given_one
scope_reacts = of_scope env 3 None truth_write (pos 1 ∷ []) _ refl (of_write _ 3 None (truth true (at 4)) false (at 1) (at 1))

scope_acts : given_one.acts ≡ []
scope_acts = refl

scope_met : given_one.met ≡ record { var = 3; given = pos 1; wanted = pos 1 } ∷ []
scope_met = refl

-- with the value 0 the wanted one differs
scope_differs : (scoped four 3 None truth_write (pos 0 ∷ []) (ends (record { var = 3; element = 0; value = pos 1; delayed = false } ∷ []) [] truth_write)).met ≡ record { var = 3; given = pos 0; wanted = pos 1 } ∷ []
scope_differs = refl
