-- What actions write to an element, one action more at a time.
use Rattle.std.proofs.Common.{◌≡◌, ℕ, ◌+◌, ◌<◌, List, [], ◌∷◌, ◌++◌, length, take, get_or, map, Option, Some, None, refl, sym, ap, ◌∙◌}
use Rattle.std.proofs.lemmas.List.{take_more}
use Rattle.aif_cells.specs.declared.reference.Ref.{Ref}
use Rattle.aif_cells.specs.declared.cells.Action.{Action}
use Rattle.aif_cells.specs.Tree.{Tree, value}
use Rattle.absence_reaction.specs.Closing.{arm_before, arms_for, guard_for}

abbrev pub arm_of : (j : ℕ) → Action → List (Tree × Tree)
arm_of j a = arm_before (guard_for j (value a.guard) a.index) a.value []

before-append : (o : Option Tree) (v : Ref) (xs : List (Tree × Tree)) → arm_before o v xs ≡ arm_before o v [] ++ xs
before-append None v xs = refl
before-append (Some g) v xs = refl

append-assoc : (xs ys zs : List (Tree × Tree)) → xs ++ (ys ++ zs) ≡ (xs ++ ys) ++ zs
append-assoc [] ys zs = refl
append-assoc (x ∷ xs) ys zs = ap (λ l. x ∷ l) (append-assoc xs ys zs)

pub arms-append : (j : ℕ) (xs ys : List Action) → arms_for j (xs ++ ys) ≡ arms_for j xs ++ arms_for j ys
arms-append j [] ys = refl
arms-append j (a ∷ xs) ys =
    let o : Option Tree = guard_for j (value a.guard) a.index in
    ap (arm_before o a.value) (arms-append j xs ys) ∙ before-append o a.value (arms_for j xs ++ arms_for j ys)
    ∙ append-assoc (arm_before o a.value []) (arms_for j xs) (arms_for j ys) ∙ ap (λ l. l ++ arms_for j ys) (sym (before-append o a.value (arms_for j xs)))

pub arms_more : (j : ℕ) (actions : List Action) (i : ℕ) (d : Action) → i < length actions → arms_for j (take (i + 1) actions) ≡ arms_for j (take i actions) ++ arm_of j (get_or actions i d)
arms_more j actions i d h = ap (arms_for j) (take_more actions i d h) ∙ arms-append j (take i actions) (get_or actions i d ∷ [])

-- a loop's step: what was made of the actions so far, and of one more
pub made_more : {A : Type 0} (f : List (Tree × Tree) → List A) (f-append : (xs ys : List (Tree × Tree)) → f (xs ++ ys) ≡ f xs ++ f ys) (j : ℕ) (actions : List Action) (i : ℕ) (d : Action) (o : Option Tree) (old new : List A)
    → i < length actions → old ≡ f (arms_for j (take i actions)) → o ≡ guard_for j (value (get_or actions i d).guard) (get_or actions i d).index
    → new ≡ old ++ f (arm_before o (get_or actions i d).value []) → new ≡ f (arms_for j (take (i + 1) actions))
made_more f f-append j actions i d o old new h e g k =
    k ∙ ap (λ l. l ++ f (arm_before o (get_or actions i d).value [])) e ∙ ap (λ q. f (arms_for j (take i actions)) ++ f (arm_before q (get_or actions i d).value [])) g
    ∙ sym (f-append (arms_for j (take i actions)) (arm_of j (get_or actions i d))) ∙ ap f (sym (arms_more j actions i d h))

pub map-over_append : {A : Type 0} (g : Tree × Tree → A) (xs ys : List (Tree × Tree)) → map g (xs ++ ys) ≡ map g xs ++ map g ys
map-over_append g [] ys = refl
map-over_append g (x ∷ xs) ys = ap (λ l. g x ∷ l) (map-over_append g xs ys)

pub same-append : (xs ys : List (Tree × Tree)) → xs ++ ys ≡ xs ++ ys
same-append xs ys = refl
