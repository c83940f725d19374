-- The least place of two lists, one after the other.
use Rattle.std.proofs.Common.{◌≡◌, Bool, true, false, List, [], ◌∷◌, ◌++◌, Option, Some, None, if◌then◌else◌, refl, sym, ap, ◌∙◌, arith}
use Rattle.std.proofs.lemmas.Bool.Decides.{nat_tests}
use Rattle.quartz_tree.specs.declared.place.Place.{Place}
use Rattle.quartz_tree.specs.Least.{is_before, lesser_place, least_place}

of_three : (p q r : Place) → lesser_place (lesser_place (Some p) (Some q)) (Some r) ≡ lesser_place (Some p) (lesser_place (Some q) (Some r))
of_three p q r = grind (arith, nat_tests)

pub lesser_assoc : (p q r : Option Place) → lesser_place (lesser_place p q) r ≡ lesser_place p (lesser_place q r)
lesser_assoc None q r = refl
lesser_assoc (Some p) None r = refl
lesser_assoc (Some p) (Some q) None = none (is_before q p) p q
  where
    none : (b : Bool) (p q : Place) → lesser_place (if b then Some q else Some p) None ≡ (if b then Some q else Some p)
    none true p q = refl
    none false p q = refl
lesser_assoc (Some p) (Some q) (Some r) = of_three p q r

pub least_append : (xs ys : List Place) → least_place (xs ++ ys) ≡ lesser_place (least_place xs) (least_place ys)
least_append [] ys = refl
least_append (x ∷ xs) ys = ap (lesser_place (Some x)) (least_append xs ys) ∙ sym (lesser_assoc (Some x) (least_place xs) (least_place ys))

pub lesser_none : (p : Option Place) → lesser_place p None ≡ p
lesser_none None = refl
lesser_none (Some p) = refl

-- places that are added in two steps
pub lesser_twice : (p q r : Option Place) (xs ys : List Place) → q ≡ lesser_place p (least_place xs) → r ≡ lesser_place q (least_place ys) → r ≡ lesser_place p (least_place (xs ++ ys))
lesser_twice p q r xs ys a b = b ∙ ap (λ o. lesser_place o (least_place ys)) a ∙ lesser_assoc p (least_place xs) (least_place ys) ∙ ap (lesser_place p) (sym (least_append xs ys))
