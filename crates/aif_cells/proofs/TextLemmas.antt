-- The texts of chains and lists of trees, put from left to right.
use Rattle.std.proofs.Common.{◌≡◌, ℕ, zero, suc, ◌+◌, List, [], ◌∷◌, ◌++◌, length, map, refl, sym, ap, ◌∙◌, append_assoc}
use Rattle.std.specs.Prelude.{codes}
use Rattle.std.proofs.lemmas.List.{append-nil}
use Rattle.aif_cells.specs.declared.tree.Tree.{Tree as Boxes}
use Rattle.aif_cells.specs.Tree.{Tree, tree, trees, cases, any}
use Rattle.aif_cells.specs.Text.{case_text, first_text, next_text, texts, tree_text, trees_text}
use Rattle.aif_cells.specs.Put.{alternative_text, arm_text, closes, item_text}

closes_one : (n : ℕ) → closes n ++ codes ")" ≡ closes (suc n)
closes_one zero = refl
closes_one (suc n) = ap (λ l. 41 ∷ l) (closes_one n)

regroup : (c t b k e tail x : List ℕ) → t ++ (b ++ k) ≡ x → k ++ e ≡ tail → (c ++ t) ++ (b ++ tail) ≡ c ++ (x ++ e)
regroup c t b k e tail x p q =
    ap (λ l. (c ++ t) ++ (b ++ l)) (sym q) ∙ append_assoc c t (b ++ (k ++ e))
    ∙ ap (λ l. c ++ (t ++ l)) (sym (append_assoc b k e)) ∙ ap (λ l. c ++ l) (sym (append_assoc t (b ++ k) e)) ∙ ap (λ l. c ++ (l ++ e)) p

abbrev pub both_trees : Boxes × Boxes → Tree × Tree
both_trees a = (tree a.0, tree a.1)

cases_from : (n : ℕ) (arms : List (Boxes × Boxes)) (b : Tree) → texts arm_text n arms ++ (tree_text b ++ closes (length arms)) ≡ tree_text (cases (map both_trees arms) b)
cases_from n [] b = append-nil (tree_text b)
cases_from n (a ∷ more) b =
    let rest : Tree = cases (map both_trees more) b in
    regroup (case_text n (both_trees a)) (texts arm_text (n + 1) more) (tree_text b) (closes (length more)) (codes ")") (closes (length (a ∷ more))) (tree_text rest) (cases_from (n + 1) more b) (closes_one (length more))
    ∙ append_assoc (codes "ite(" ++ (tree_text (tree a.0) ++ codes ",")) (tree_text (tree a.1) ++ codes ",") (tree_text rest ++ codes ")")

any_from : (n : ℕ) (items : List Boxes) (b : Tree) → texts alternative_text n items ++ (tree_text b ++ closes (length items)) ≡ tree_text (any (map tree items) b)
any_from n [] b = append-nil (tree_text b)
any_from n (t ∷ ts) b =
    let rest : Tree = any (map tree ts) b in
    regroup (first_text n (tree t)) (texts alternative_text (n + 1) ts) (tree_text b) (closes (length ts)) (codes ")") (closes (length (t ∷ ts))) (tree_text rest) (any_from (n + 1) ts b) (closes_one (length ts))

items_from : (n : ℕ) (items : List Boxes) → texts item_text n items ≡ trees_text (trees (map tree items))
items_from n [] = refl
items_from n (t ∷ ts) = ap (λ l. next_text n (tree t) ++ l) (items_from (n + 1) ts)

pub text_of_cases : (arms : List (Boxes × Boxes)) (b : Tree) → texts arm_text 0 arms ++ (tree_text b ++ closes (length arms)) ≡ tree_text (cases (map both_trees arms) b)
text_of_cases arms b = cases_from 0 arms b

pub text_of_any : (items : List Boxes) (b : Tree) → texts alternative_text 0 items ++ (tree_text b ++ closes (length items)) ≡ tree_text (any (map tree items) b)
text_of_any items b = any_from 0 items b

pub text_of_items : (items : List Boxes) → texts item_text 0 items ≡ trees_text (trees (map tree items))
text_of_items items = items_from 0 items
