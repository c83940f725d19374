-- The least place of a list, one item after the other.
use Rattle.std.proofs.Common.{◌≡◌, ◌++◌, ◌&&◌, Bool, true, false, List, Option, refl, sym, ap, ap₂, ◌∙◌}
use Rattle.quartz_tree.specs.declared.place.Place.{Place}
use Rattle.quartz_tree.specs.Least.{least_place, lesser_place}
use Rattle.quartz_names.proofs.LeastLemmas.{least_append, lesser_twice}

pub least_step : (old new whole : Option Place) (g f : List Place) → whole ≡ lesser_place old (least_place (g ++ f)) → new ≡ lesser_place old (least_place g) → whole ≡ lesser_place new (least_place f)
least_step old new whole g f h e = h ∙ sym (lesser_twice old new (lesser_place new (least_place f)) g f e refl)

-- the least place of two parts
pub least_two : (a b whole : Option Place) (g f : List Place) → a ≡ least_place g → b ≡ least_place f → whole ≡ lesser_place a b → whole ≡ least_place (g ++ f)
least_two a b whole g f d e h = h ∙ ap₂ lesser_place d e ∙ sym (least_append g f)

and_assoc : (a b c : Bool) → (a && (b && c)) ≡ ((a && b) && c)
and_assoc true b c = refl
and_assoc false b c = refl

pub and_step : (old new whole g f : Bool) → whole ≡ (old && (g && f)) → new ≡ (old && g) → whole ≡ (new && f)
and_step old new whole g f h e = h ∙ and_assoc old g f ∙ ap (λ b. b && f) (sym e)

pub least_three : (a b d whole inner : Option Place) (g f e : List Place) → a ≡ least_place g → b ≡ least_place f → d ≡ least_place e → inner ≡ lesser_place b d → whole ≡ lesser_place a inner → whole ≡ least_place (g ++ (f ++ e))
least_three a b d whole inner g f e x y z h k = least_two a inner whole g (f ++ e) x (least_two b d inner f e y z h) k
