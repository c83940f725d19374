-- The least fault of two lists, one after the other.
use Rattle.std.proofs.Common.{◌≡◌, ℕ, ℤ, Bool, true, false, List, [], ◌∷◌, ◌++◌, Option, Some, None, if◌then◌else◌, refl, sym, ap, ap₂, ◌∙◌, arith}
use Rattle.std.proofs.lemmas.Bool.Decides.{nat_tests}
use Rattle.quartz_tree.specs.declared.fault.Fault.{Fault}
use Rattle.quartz_tree.specs.declared.place.Place.{Place}
use Rattle.quartz_tree.specs.declared.expr.Binary.{Binary}
use Rattle.quartz_tree.specs.Tree.{Tree, element, two}
use Rattle.quartz_tree.specs.Least.{is_sooner, lesser_fault, least_fault}
use Rattle.quartz_expr.specs.Values.{Values}
use Rattle.quartz_expr.specs.Vars.{Vars}
use Rattle.quartz_expr.specs.Value.{value}
use Rattle.quartz_expr.specs.Faults.{faults, index_faults, divisor_faults}

of_three : (f g h : Fault) → lesser_fault (lesser_fault (Some f) (Some g)) (Some h) ≡ lesser_fault (Some f) (lesser_fault (Some g) (Some h))
of_three f g h = grind (arith, nat_tests)

pub lesser-assoc : (f g h : Option Fault) → lesser_fault (lesser_fault f g) h ≡ lesser_fault f (lesser_fault g h)
lesser-assoc None g h = refl
lesser-assoc (Some f) None h = refl
lesser-assoc (Some f) (Some g) None = none (is_sooner g f) f g
  where
    none : (b : Bool) (f g : Fault) → lesser_fault (if b then Some g else Some f) None ≡ (if b then Some g else Some f)
    none true f g = refl
    none false f g = refl
lesser-assoc (Some f) (Some g) (Some h) = of_three f g h

pub least_append : (xs ys : List Fault) → least_fault (xs ++ ys) ≡ lesser_fault (least_fault xs) (least_fault ys)
least_append [] ys = refl
least_append (x ∷ xs) ys = ap (lesser_fault (Some x)) (least_append xs ys) ∙ sym (lesser-assoc (Some x) (least_fault xs) (least_fault ys))

pub least_element : (vs : Vars) (env : Values) (x : ℕ) (i : Tree ℕ) (p : Place) → least_fault (faults vs env (element x i p)) ≡ lesser_fault (least_fault (faults vs env i)) (least_fault (index_faults vs x (value vs env i) p))
least_element vs env x i p = least_append (faults vs env i) (index_faults vs x (value vs env i) p)

pub least_two : (vs : Vars) (env : Values) (op : Binary) (a b : Tree ℕ) (p : Place)
    → least_fault (faults vs env (two op a b p)) ≡ lesser_fault (least_fault (faults vs env a)) (lesser_fault (least_fault (faults vs env b)) (least_fault (divisor_faults op (value vs env b) p)))
least_two vs env op a b p =
    least_append (faults vs env a) _ ∙ ap (lesser_fault (least_fault (faults vs env a))) (least_append (faults vs env b) (divisor_faults op (value vs env b) p))

-- an element's fault, from that of its index and its own
pub element_fault : (vs : Vars) (env : Values) (x : ℕ) (i : Tree ℕ) (p : Place) (v : ℤ) (f g h : Option Fault) → v ≡ value vs env i
    → f ≡ least_fault (faults vs env i) → g ≡ least_fault (index_faults vs x v p) → h ≡ lesser_fault f g → h ≡ least_fault (faults vs env (element x i p))
element_fault vs env x i p v f g h a b c d =
    d ∙ ap₂ lesser_fault b (c ∙ ap (λ v. least_fault (index_faults vs x v p)) a) ∙ sym (least_element vs env x i p)

-- an operator's fault, from those of its parts and its own
pub two_fault : (vs : Vars) (env : Values) (op : Binary) (a b : Tree ℕ) (p : Place) (v : ℤ) (f g own h k : Option Fault) → v ≡ value vs env b
    → f ≡ least_fault (faults vs env a) → g ≡ least_fault (faults vs env b) → own ≡ least_fault (divisor_faults op v p) → h ≡ lesser_fault g own → k ≡ lesser_fault f h
    → k ≡ least_fault (faults vs env (two op a b p))
two_fault vs env op a b p v f g own h k e l m n q r =
    r ∙ ap₂ lesser_fault l (q ∙ ap₂ lesser_fault m (n ∙ ap (λ v. least_fault (divisor_faults op v p)) e)) ∙ sym (least_two vs env op a b p)
