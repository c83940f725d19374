-- The cells in the parts of a tree, one after another.
use Rattle.std.proofs.Common.{◌≡◌, ◌∙◌, ℕ, ◌<◌, ◌+◌, List, [], ◌∷◌, ◌++◌, length, map, take, get_or, Box, Vec, Global, refl, sym, ap, append_assoc}
use Rattle.std.proofs.lemmas.List.{append-nil, map_more}
use Rattle.aif_cells.specs.declared.tree.Tree.{Tree as Boxes}
use Rattle.aif_cells.specs.declared.tree.Tree.TheVariants.{Any, Cases, Cat, Sel}
use Rattle.aif_cells.proofs.TreeLemmas.{tree_any, tree_cases, tree_cat, tree_sel}
use Rattle.aif_cells.specs.Tree.{Tree, cases, any, trees, tree}
use Rattle.aif_cells.specs.Dependences.{cells_in, cells_in_all}
use Rattle.causality_check.specs.Gather.{cells_in_arms, cells_in_each}

pub each_all : (ts : List Tree) → cells_in_all (trees ts) ≡ cells_in_each ts
each_all [] = refl
each_all (t ∷ ts) = ap (λ (xs : List ℕ). cells_in t ++ xs) (each_all ts)

pub each_any : (ts : List Tree) (b : Tree) → cells_in (any ts b) ≡ cells_in_each ts ++ cells_in b
each_any [] b = refl
each_any (t ∷ ts) b = ap (λ (xs : List ℕ). cells_in t ++ xs) (each_any ts b) ∙ sym (append_assoc (cells_in t) (cells_in_each ts) (cells_in b))

pub arms_cases : (arms : List (Tree × Tree)) (b : Tree) → cells_in (cases arms b) ≡ cells_in_arms arms ++ cells_in b
arms_cases [] b = refl
arms_cases (a ∷ more) b =
    ap (λ (xs : List ℕ). cells_in a.0 ++ (cells_in a.1 ++ xs)) (arms_cases more b)
    ∙ (ap (λ (xs : List ℕ). cells_in a.0 ++ xs) (sym (append_assoc (cells_in a.1) (cells_in_arms more) (cells_in b)))
    ∙ (sym (append_assoc (cells_in a.0) (cells_in a.1 ++ cells_in_arms more) (cells_in b))
    ∙ ap (λ (xs : List ℕ). xs ++ cells_in b) (sym (append_assoc (cells_in a.0) (cells_in a.1) (cells_in_arms more)))))

pub each_push : (ts : List Tree) (t : Tree) → cells_in_each (ts ++ t ∷ []) ≡ cells_in_each ts ++ cells_in t
each_push [] t = append-nil (cells_in t)
each_push (u ∷ ts) t = ap (λ (xs : List ℕ). cells_in u ++ xs) (each_push ts t) ∙ sym (append_assoc (cells_in u) (cells_in_each ts) (cells_in t))

pub arms_push : (arms : List (Tree × Tree)) (a : Tree × Tree) → cells_in_arms (arms ++ a ∷ []) ≡ cells_in_arms arms ++ (cells_in a.0 ++ cells_in a.1)
arms_push [] a = append-nil (cells_in a.0 ++ cells_in a.1)
arms_push (b ∷ arms) a = ap (λ (xs : List ℕ). (cells_in b.0 ++ cells_in b.1) ++ xs) (arms_push arms a) ∙ sym (append_assoc (cells_in b.0 ++ cells_in b.1) (cells_in_arms arms) (cells_in a.0 ++ cells_in a.1))

-- ---- what was found, and more

pub found_both : (old mid new xs ys : List ℕ) → mid ≡ old ++ xs → new ≡ mid ++ ys → new ≡ old ++ (xs ++ ys)
found_both old mid new xs ys e f = f ∙ (ap (λ (zs : List ℕ). zs ++ ys) e ∙ append_assoc old xs ys)

pub found_sel : (t : Boxes) (i : Box Boxes Global) (ts : Vec Boxes Global) (old mid new : List ℕ) → t ≡ Sel i ts → mid ≡ old ++ cells_in (tree i.value) → new ≡ mid ++ cells_in_each (map tree ts.items) → new ≡ old ++ cells_in (tree t)
found_sel t i ts old mid new is e f =
    found_both old mid new (cells_in (tree i.value)) (cells_in_each (map tree ts.items)) e f
    ∙ ap (λ (xs : List ℕ). old ++ xs) (ap (λ (xs : List ℕ). cells_in (tree i.value) ++ xs) (sym (each_all (map tree ts.items))) ∙ sym (ap cells_in (ap tree is ∙ tree_sel i ts)))

pub found_cat : (t : Boxes) (a b : Box Boxes Global) (n : ℕ) (old mid new : List ℕ) → t ≡ Cat a b n → mid ≡ old ++ cells_in (tree a.value) → new ≡ mid ++ cells_in (tree b.value) → new ≡ old ++ cells_in (tree t)
found_cat t a b n old mid new is e f =
    found_both old mid new (cells_in (tree a.value)) (cells_in (tree b.value)) e f ∙ ap (λ (xs : List ℕ). old ++ xs) (sym (ap cells_in (ap tree is ∙ tree_cat a b n)))

pub found_cases : (t : Boxes) (arms : Vec (Boxes × Boxes) Global) (b : Box Boxes Global) (old mid new : List ℕ) → t ≡ Cases arms b → mid ≡ old ++ cells_in_arms (map (λ a. (tree a.0, tree a.1)) arms.items) → new ≡ mid ++ cells_in (tree b.value) → new ≡ old ++ cells_in (tree t)
found_cases t arms b old mid new is e f =
    found_both old mid new (cells_in_arms (map (λ a. (tree a.0, tree a.1)) arms.items)) (cells_in (tree b.value)) e f
    ∙ ap (λ (xs : List ℕ). old ++ xs) (sym (ap cells_in (ap tree is ∙ tree_cases arms b) ∙ arms_cases (map (λ a. (tree a.0, tree a.1)) arms.items) (tree b.value)))

pub found_any : (t : Boxes) (ts : Vec Boxes Global) (b : Box Boxes Global) (old mid new : List ℕ) → t ≡ Any ts b → mid ≡ old ++ cells_in_each (map tree ts.items) → new ≡ mid ++ cells_in (tree b.value) → new ≡ old ++ cells_in (tree t)
found_any t ts b old mid new is e f =
    found_both old mid new (cells_in_each (map tree ts.items)) (cells_in (tree b.value)) e f
    ∙ ap (λ (xs : List ℕ). old ++ xs) (sym (ap cells_in (ap tree is ∙ tree_any ts b) ∙ each_any (map tree ts.items) (tree b.value)))

pub found_each : (items : List Boxes) (i : ℕ) (x : Boxes) (old found new : List ℕ) → i < length items → x ≡ get_or items i x → found ≡ old ++ cells_in_each (map tree (take i items)) → new ≡ found ++ cells_in (tree x) → new ≡ old ++ cells_in_each (map tree (take (i + 1) items))
found_each items i x old found new lt is e f =
    found_both old found new (cells_in_each (map tree (take i items))) (cells_in (tree x)) e f
    ∙ ap (λ (xs : List ℕ). old ++ xs) (sym (ap cells_in_each (map_more tree items i x lt ∙ ap (λ (y : Boxes). map tree (take i items) ++ tree y ∷ []) (sym is)) ∙ each_push (map tree (take i items)) (tree x)))

pub found_arms : (arms : List (Boxes × Boxes)) (i : ℕ) (x : Boxes × Boxes) (old found mid new : List ℕ) → i < length arms → x ≡ get_or arms i x → found ≡ old ++ cells_in_arms (map (λ a. (tree a.0, tree a.1)) (take i arms)) → mid ≡ found ++ cells_in (tree x.0) → new ≡ mid ++ cells_in (tree x.1)
    → new ≡ old ++ cells_in_arms (map (λ a. (tree a.0, tree a.1)) (take (i + 1) arms))
found_arms arms i x old found mid new lt is e f g =
    let plain : Boxes × Boxes → Tree × Tree = λ a. (tree a.0, tree a.1) in
    found_both old found new (cells_in_arms (map plain (take i arms))) (cells_in (tree x.0) ++ cells_in (tree x.1)) e (found_both found mid new (cells_in (tree x.0)) (cells_in (tree x.1)) f g)
    ∙ ap (λ (xs : List ℕ). old ++ xs) (sym (ap cells_in_arms (map_more plain arms i x lt ∙ ap (λ (y : Boxes × Boxes). map plain (take i arms) ++ plain y ∷ []) (sym is)) ∙ arms_push (map plain (take i arms)) (plain x)))
