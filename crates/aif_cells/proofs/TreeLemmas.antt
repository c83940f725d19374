-- The plain trees of the forms that hold lists, and what is read of them.
use Rattle.std.proofs.Common.{◌≡◌, ◌<◌, arith, ℕ, ℤ, List, [], ◌∷◌, map, length, Vec, Box, Global, Option, Some, None, Bool, true, false, refl, sym, ap, ◌∙◌}
use Rattle.std.specs.Prelude.{◌==◌, ◌||◌, unwrap_or, if◌then◌else◌}
use Rattle.std.proofs.lemmas.Bool.Decides.{nat_tests}
use Rattle.aif_cells.specs.declared.tree.Tree.{Tree as Boxes, Tree-F, fold-roll-Tree}
use Rattle.aif_cells.specs.declared.tree.Tree.TheVariants.{Two, Ite, Cat, Sel, Cases, Any, rolls-Two, rolls-Ite, rolls-Cat, rolls-Sel, rolls-Cases, rolls-Any}
use Rattle.aif_cells.specs.declared.tree.TreeTwo.{TreeTwo}
use Rattle.quartz_expr.specs.Values.{element_at, of_bool}
use Rattle.aif_cells.specs.Tree.{Tree, two, ite, cat, sel, tree, tree_step, trees, cases, any}
use Rattle.aif_cells.specs.Worth.{Assignment, case_worth, holds, one_holds, worth, worths}
use Rattle.aif_cells.specs.Built.{reference_in}
use Rattle.aif_cells.proofs.WorthLemmas.{is_empty, worth_any, worth_cases}

true_not_false : true ≡ false → ⊥
true_not_false e = cc

pub tree_two : (op : TreeTwo) (a b : Box Boxes Global) → tree (Two op a b) ≡ two op (tree a.value) (tree b.value)
tree_two op a b = ap tree (sym (rolls-Two op a b)) ∙ fold-roll-Tree Tree tree_step (Tree-F.Two op a b)

pub tree_ite : (c a b : Box Boxes Global) → tree (Ite c a b) ≡ ite (tree c.value) (tree a.value) (tree b.value)
tree_ite c a b = ap tree (sym (rolls-Ite c a b)) ∙ fold-roll-Tree Tree tree_step (Tree-F.Ite c a b)

pub tree_cat : (a b : Box Boxes Global) (n : ℕ) → tree (Cat a b n) ≡ cat (tree a.value) (tree b.value) n
tree_cat a b n = ap tree (sym (rolls-Cat a b n)) ∙ fold-roll-Tree Tree tree_step (Tree-F.Cat a b n)

pub tree_sel : (i : Box Boxes Global) (ts : Vec Boxes Global) → tree (Sel i ts) ≡ sel (tree i.value) (trees (map tree ts.items))
tree_sel i ts = ap tree (sym (rolls-Sel i ts)) ∙ fold-roll-Tree Tree tree_step (Tree-F.Sel i ts)

pub tree_cases : (arms : Vec (Boxes × Boxes) Global) (b : Box Boxes Global) → tree (Cases arms b) ≡ cases (map (λ a. (tree a.0, tree a.1)) arms.items) (tree b.value)
tree_cases arms b = ap tree (sym (rolls-Cases arms b)) ∙ fold-roll-Tree Tree tree_step (Tree-F.Cases arms b)

pub tree_any : (ts : Vec Boxes Global) (b : Box Boxes Global) → tree (Any ts b) ≡ any (map tree ts.items) (tree b.value)
tree_any ts b = ap tree (sym (rolls-Any ts b)) ∙ fold-roll-Tree Tree tree_step (Tree-F.Any ts b)

-- the values of a list of trees
worths_of : (σ : Assignment) (ts : List Boxes) → worths σ (trees (map tree ts)) ≡ map (λ t. worth σ (tree t)) ts
worths_of σ [] = refl
worths_of σ (t ∷ ts) = ap (λ l. worth σ (tree t) ∷ l) (worths_of σ ts)

-- the value of a selection
pub worth_sel : (σ : Assignment) (t : Boxes) (i : Box Boxes Global) (ts : Vec Boxes Global) (index z : ℤ) → t ≡ Sel i ts → index ≡ worth σ (tree i.value) → z ≡ element_at (map (λ t. worth σ (tree t)) ts.items) index → z ≡ worth σ (tree t)
worth_sel σ t i ts index z e f g =
    g ∙ ap (element_at (map (λ t. worth σ (tree t)) ts.items)) f ∙ ap (λ l. element_at l (worth σ (tree i.value))) (sym (worths_of σ ts.items))
    ∙ ap (worth σ) (sym (tree_sel i ts)) ∙ ap (λ x. worth σ (tree x)) (sym e)

-- the value of a chain of choices in which one holds, and of one in which none does
pub worth_by_case : (σ : Assignment) (t : Boxes) (arms : Vec (Boxes × Boxes) Global) (b : Box Boxes Global) (o : Option ℤ) (z : ℤ) → t ≡ Cases arms b → o ≡ case_worth σ (map (λ a. (tree a.0, tree a.1)) arms.items) → o ≡ Some z → z ≡ worth σ (tree t)
worth_by_case σ t arms b o z e f g =
    ap (λ x. unwrap_or x (worth σ (tree b.value))) (sym g ∙ f) ∙ sym (worth_cases σ (map (λ a. (tree a.0, tree a.1)) arms.items) (tree b.value))
    ∙ ap (worth σ) (sym (tree_cases arms b)) ∙ ap (λ x. worth σ (tree x)) (sym e)

pub worth_by_last : (σ : Assignment) (t : Boxes) (arms : Vec (Boxes × Boxes) Global) (b : Box Boxes Global) (o : Option ℤ) (z : ℤ) → t ≡ Cases arms b → o ≡ case_worth σ (map (λ a. (tree a.0, tree a.1)) arms.items) → o ≡ None → z ≡ worth σ (tree b.value) → z ≡ worth σ (tree t)
worth_by_last σ t arms b o z e f g h =
    h ∙ ap (λ x. unwrap_or x (worth σ (tree b.value))) (sym g ∙ f) ∙ sym (worth_cases σ (map (λ a. (tree a.0, tree a.1)) arms.items) (tree b.value))
    ∙ ap (worth σ) (sym (tree_cases arms b)) ∙ ap (λ x. worth σ (tree x)) (sym e)

not_zero : (n : ℕ) → 0 < n → (n == 0) ≡ false
not_zero n h = grind (arith, nat_tests)

empty_or_not : (ts : List Boxes) → is_empty (map tree ts) ≡ (length ts == 0)
empty_or_not [] = refl
empty_or_not (t ∷ ts) = sym (not_zero (length (t ∷ ts)) (omega arith))

-- the value of a chain of alternatives
pub worth_by_any : (σ : Assignment) (t : Boxes) (ts : Vec Boxes Global) (b : Box Boxes Global) (alone one : Bool) (last z : ℤ) → t ≡ Any ts b → alone ≡ (length ts.items == 0) → one ≡ one_holds σ (map tree ts.items) → last ≡ worth σ (tree b.value)
    → z ≡ (if alone then last else of_bool (one || holds last)) → z ≡ worth σ (tree t)
worth_by_any σ t ts b alone one last z e f g h k =
    k ∙ ap (λ x. if x then last else of_bool (one || holds last)) (f ∙ sym (empty_or_not ts.items))
    ∙ ap (λ x. if is_empty (map tree ts.items) then last else of_bool (x || holds last)) g
    ∙ ap (λ x. if is_empty (map tree ts.items) then x else of_bool (one_holds σ (map tree ts.items) || holds x)) h
    ∙ sym (worth_any σ (map tree ts.items) (tree b.value)) ∙ ap (worth σ) (sym (tree_any ts b)) ∙ ap (λ x. worth σ (tree x)) (sym e)

-- a chain with something before its last tree is no reference
pub no_reference_cases : (t : Boxes) (arms : Vec (Boxes × Boxes) Global) (b : Box Boxes Global) → t ≡ Cases arms b → (length arms.items == 0) ≡ false → None ≡ reference_in (tree t)
no_reference_cases t arms b e h = sym (chained arms.items (tree b.value) h) ∙ ap reference_in (sym (tree_cases arms b)) ∙ ap (λ x. reference_in (tree x)) (sym e)
  where
    chained : (xs : List (Boxes × Boxes)) (y : Tree) → (length xs == 0) ≡ false → reference_in (cases (map (λ a. (tree a.0, tree a.1)) xs) y) ≡ None
    chained [] y k = absurd (true_not_false k)
    chained (x ∷ xs) y k = refl

pub no_reference_any : (t : Boxes) (ts : Vec Boxes Global) (b : Box Boxes Global) → t ≡ Any ts b → (length ts.items == 0) ≡ false → None ≡ reference_in (tree t)
no_reference_any t ts b e h = sym (chained ts.items (tree b.value) h) ∙ ap reference_in (sym (tree_any ts b)) ∙ ap (λ x. reference_in (tree x)) (sym e)
  where
    chained : (xs : List Boxes) (y : Tree) → (length xs == 0) ≡ false → reference_in (any (map tree xs) y) ≡ None
    chained [] y k = absurd (true_not_false k)
    chained (x ∷ xs) y k = refl

pub reference_of_last : (t : Boxes) (ts : Vec Boxes Global) (b : Box Boxes Global) → t ≡ Any ts b → (length ts.items == 0) ≡ true → reference_in (tree b.value) ≡ reference_in (tree t)
reference_of_last t ts b e h = alone ts.items (tree b.value) h ∙ ap reference_in (sym (tree_any ts b)) ∙ ap (λ x. reference_in (tree x)) (sym e)
  where
    alone : (xs : List Boxes) (y : Tree) → (length xs == 0) ≡ true → reference_in y ≡ reference_in (any (map tree xs) y)
    alone [] y k = refl
    alone (x ∷ xs) y k = absurd (true_not_false (sym k ∙ not_zero (length (x ∷ xs)) (omega arith)))
