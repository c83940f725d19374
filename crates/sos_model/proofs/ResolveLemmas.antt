-- What two writes differ by.
use Rattle.std.proofs.Common.{◌<◌, ◌+◌, ℕ, ◌++◌, length, drop, get_or, append_assoc, ◌≡◌, ℤ, Bool, true, false, not, ◌||◌, List, [], ◌∷◌, Some, None, refl, sym, ap, ◌∙◌}
use Rattle.quartz_expr.specs.Values.{same_value}
use Rattle.std.proofs.lemmas.List.{drop_more}
use Rattle.quartz_tree.specs.declared.place.Place.{Place}
use Rattle.quartz_tree.specs.declared.fault.Fault.{Fault}
use Rattle.quartz_expr.specs.declared.act.Act.{Act}
use Rattle.quartz_expr.specs.Resolve.{conflicts, differ, differs_from, first_of_all, store_conflicts, writes_of}
use Rattle.quartz_expr.proofs.LawLemmas.{same_refl}

-- values differ where one differs from the first
pub differ_is : (zs : List ℤ) (z : ℤ) → first_of_all zs ≡ Some z → differ zs ≡ differs_from z zs
differ_is [] z h = absurd (cc)
differ_is (y ∷ ys) z h =
    let e : y ≡ z = cc in
    ap (λ (x : ℤ). differs_from x ys) e ∙ sym (ap (λ (b : Bool). not b || differs_from z ys) (ap (λ (x : ℤ). same_value x z) e ∙ same_refl z))

pub none_differ : (zs : List ℤ) → first_of_all zs ≡ None → differ zs ≡ false
none_differ [] h = refl
none_differ (y ∷ ys) h = absurd (cc)

-- the conflicts of one element, and those of the elements behind it
pub conflicts_go_on : (p : Place) (x : ℕ) (ws : List Act) (zs : List ℤ) (i : ℕ) (z : ℤ) (all : List Fault) → i < length zs → z ≡ get_or zs i z
    → all ++ store_conflicts p x ws i (drop i zs) ≡ (all ++ conflicts p z (writes_of x i false ws) (writes_of x i true ws)) ++ store_conflicts p x ws (i + 1) (drop (i + 1) zs)
conflicts_go_on p x ws zs i z all h e =
    let here : drop i zs ≡ z ∷ drop (i + 1) zs = drop_more zs i z h ∙ ap (λ (y : ℤ). y ∷ drop (i + 1) zs) (sym e) in
    ap (λ (l : List ℤ). all ++ store_conflicts p x ws i l) here ∙ sym (append_assoc all (conflicts p z (writes_of x i false ws) (writes_of x i true ws)) (store_conflicts p x ws (i + 1) (drop (i + 1) zs)))
