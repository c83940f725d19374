-- The operators of the trees that hold lists, by induction on the lists; and sums that are held as they grow.
use Rattle.std.proofs.Common.{◌≡◌, ◌<◌, ℕ, ◌+◌, List, [], ◌∷◌, map, take, get_or, length, Vec, Box, Global, refl, sym, ap, ◌∙◌, arith}
use Rattle.std.specs.Prelude.{sum_by}
use Rattle.std.proofs.lemmas.List.Sums.{sum_by-cons, sum_by_more}
use Rattle.aif_cells.specs.declared.tree.Tree.{Tree as Boxes}
use Rattle.aif_cells.specs.declared.tree.Tree.TheVariants.{Sel, Cases, Any}
use Rattle.aif_cells.specs.Tree.{Tree, tree, trees, cases, any}
use Rattle.aif_cells.specs.Weight.{operators, operators_in, held, item_operators, arm_operators, alternative_operators}
use Rattle.aif_cells.proofs.TreeLemmas.{tree_any, tree_cases, tree_sel}

-- one more item
pub held_more : {A : Type 0} (f : A → ℕ) (xs : List A) (i : ℕ) (d : A) (n k r : ℕ) → i < length xs → n ≡ held (sum_by f (take i xs)) → k ≡ held (f (get_or xs i d)) → r ≡ held (n + k) → r ≡ held (sum_by f (take (i + 1) xs))
held_more f xs i d n k r h a b c =
    let m : sum_by f (take (i + 1) xs) ≡ sum_by f (take i xs) + f (get_or xs i d) = sum_by_more f xs i d h in
    omega (arith, m, a, b, c)

items_from : (ts : List Boxes) → operators_in (trees (map tree ts)) ≡ sum_by item_operators ts
items_from [] = refl
items_from (t ∷ ts) = ap (λ n. operators (tree t) + n) (items_from ts) ∙ sym (sum_by-cons item_operators t ts)

cases_from : (arms : List (Boxes × Boxes)) (b : Tree) → operators (cases (map (λ a. (tree a.0, tree a.1)) arms) b) ≡ sum_by arm_operators arms + operators b
cases_from [] b = omega arith
cases_from (a ∷ more) b =
    let e : operators (cases (map (λ a. (tree a.0, tree a.1)) more) b) ≡ sum_by arm_operators more + operators b = cases_from more b in
    let c : sum_by arm_operators (a ∷ more) ≡ arm_operators a + sum_by arm_operators more = sum_by-cons arm_operators a more in
    omega (arith, e, c)

any_from : (ts : List Boxes) (b : Tree) → operators (any (map tree ts) b) ≡ sum_by alternative_operators ts + operators b
any_from [] b = omega arith
any_from (t ∷ ts) b =
    let e : operators (any (map tree ts) b) ≡ sum_by alternative_operators ts + operators b = any_from ts b in
    let c : sum_by alternative_operators (t ∷ ts) ≡ alternative_operators t + sum_by alternative_operators ts = sum_by-cons alternative_operators t ts in
    omega (arith, e, c)

pub operators_of_sel : (t : Boxes) (i : Box Boxes Global) (ts : Vec Boxes Global) → t ≡ Sel i ts → operators (tree t) ≡ operators (tree i.value) + sum_by item_operators ts.items + 1
operators_of_sel t i ts e = ap (λ x. operators (tree x)) e ∙ ap operators (tree_sel i ts) ∙ ap (λ n. operators (tree i.value) + n + 1) (items_from ts.items)

pub operators_of_cases : (t : Boxes) (arms : Vec (Boxes × Boxes) Global) (b : Box Boxes Global) → t ≡ Cases arms b → operators (tree t) ≡ sum_by arm_operators arms.items + operators (tree b.value)
operators_of_cases t arms b e = ap (λ x. operators (tree x)) e ∙ ap operators (tree_cases arms b) ∙ cases_from arms.items (tree b.value)

pub operators_of_any : (t : Boxes) (ts : Vec Boxes Global) (b : Box Boxes Global) → t ≡ Any ts b → operators (tree t) ≡ sum_by alternative_operators ts.items + operators (tree b.value)
operators_of_any t ts b e = ap (λ x. operators (tree x)) e ∙ ap operators (tree_any ts b) ∙ any_from ts.items (tree b.value)
