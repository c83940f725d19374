-- Joins of trees.
use Rattle.std.proofs.Common.{◌≡◌, Bool, true, false, List, [], ◌∷◌, ◌++◌, map, None, refl, ap, ◌∙◌}
use Rattle.std.specs.Prelude.{filter, cond, Result, Ok, Err, IfOk}
use Rattle.aif_cells.specs.declared.tree.Tree.{Tree as Boxes}
use Rattle.aif_cells.specs.declared.tree.TreeTwo.TheVariants.{Or}
use Rattle.aif_cells.specs.Tree.{Tree, two, tree, any, cases}
use Rattle.aif_cells.specs.Built.{or_all, reference_in}

or_all_last : (front : List Boxes) (last : Boxes) → or_all (map tree (front ++ last ∷ [])) ≡ any (map tree front) (tree last)
or_all_last [] last = refl
or_all_last (t ∷ []) last = refl
or_all_last (t ∷ u ∷ us) last = ap (two Or (tree t)) (or_all_last (u ∷ us) last)

-- the last tree of a list closes the chain
pub or_all_is : (front items : List Boxes) (last : Boxes) → items ≡ front ++ last ∷ [] → or_all (map tree items) ≡ any (map tree front) (tree last)
or_all_is front items last e = ap (λ l. or_all (map tree l)) e ∙ or_all_last front last

pub no_reference_in_cases : (arms : List (Tree × Tree)) (b : Tree) → (arms ≡ [] → ⊥) → reference_in (cases arms b) ≡ None
no_reference_in_cases [] b h = absurd (h refl)
no_reference_in_cases (a ∷ more) b h = refl

pub no_reference_in_any : (items : List Tree) (b : Tree) → (items ≡ [] → ⊥) → reference_in (any items b) ≡ None
no_reference_in_any [] b h = absurd (h refl)
no_reference_in_any (a ∷ more) b h = refl

filter_step : (b : Bool) (t : Boxes) (left : List Boxes) (plain : List Tree) → map tree left ≡ plain → map tree (cond b (t ∷ left) left) ≡ cond b (tree t ∷ plain) plain
filter_step true t left plain e = ap (λ l. tree t ∷ l) e
filter_step false t left plain e = e

-- what is left of the trees is what is left of the plain trees
pub map-filter_tree : (p : Tree → Bool) (ts : List Boxes) → map tree (filter (λ t. p (tree t)) ts) ≡ filter p (map tree ts)
map-filter_tree p [] = refl
map-filter_tree p (t ∷ ts) = filter_step (p (tree t)) t (filter (λ x. p (tree x)) ts) (filter p (map tree ts)) (map-filter_tree p ts)

-- an answer whose plain tree is known by another name
pub if_ok_as : {E : Type 0} (r : Result Boxes E) {x y : Tree} → x ≡ y → IfOk r (λ t. tree t ≡ x) → IfOk r (λ t. tree t ≡ y)
if_ok_as (Ok t) e h = h ∙ e
if_ok_as (Err f) e h = tt
