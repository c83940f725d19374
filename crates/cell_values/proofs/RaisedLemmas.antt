-- The least fault of monitors, from the last one to the first.
use Rattle.std.proofs.Common.{◌≡◌, Bool, true, false, List, [], ◌∷◌, ◌++◌, length, refl, arith}
use Rattle.quartz_tree.specs.declared.fault.Fault.{Fault}
use Rattle.quartz_tree.specs.declared.fault.Kind.{Kind}
use Rattle.quartz_tree.specs.declared.place.Place.{Place}
use Rattle.quartz_tree.specs.Least.{least_fault, lesser_fault}
use Rattle.quartz_expr.specs.Faults.{fault_if}

pub first_raised : (b : Bool) (k : Kind) (p : Place) (rest : List Fault) → lesser_fault (least_fault (fault_if b k p)) (least_fault rest) ≡ least_fault (fault_if b k p ++ rest)
first_raised true k p rest = refl
first_raised false k p rest = refl

pub all_behind : {A : Type 0} (front behind whole : List A) → length front ≡ 0 → front ++ behind ≡ whole → behind ≡ whole
all_behind [] behind whole h e = e
all_behind (x ∷ front) behind whole h e = absurd (omega (arith, h))
