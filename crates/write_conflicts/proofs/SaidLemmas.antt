-- What trees joined by `or` say and name, and chains of choices without a choice.
use Rattle.std.proofs.Common.{◌≡◌, ◌∙◌, ℕ, zero, suc, ◌<◌, max, List, [], ◌∷◌, length, map, drop, get_or, Box, Vec, Global, true, false, refl, sym, ap, arith}
use Rattle.std.specs.Prelude.{◌==◌}
use Rattle.std.proofs.lemmas.Bool.Decides.{nat_tests}
use Rattle.aif_cells.specs.declared.tree.Tree.{Tree as Boxes}
use Rattle.aif_cells.specs.declared.tree.Tree.TheVariants.{Any, Cases}
use Rattle.aif_cells.proofs.TreeLemmas.{tree_any, tree_cases}
use Rattle.aif_cells.specs.Tree.{Tree, any, cases, tree}
use Rattle.write_conflicts.specs.declared.block.Group.{Group}
use Rattle.write_conflicts.specs.declared.block.Block.{Block}
use Rattle.write_conflicts.specs.declared.block.Both.{Both}
use Rattle.write_conflicts.specs.Blocks.{disjoin_all, disjoined, nothing, said}
use Rattle.write_conflicts.specs.Tables.{greatest_in, greatest_of_all}

said_any : (b : Block) (τ : List Both) (ts : List Boxes) (l : Tree) → disjoin_all (map (λ t. said b τ (tree t)) ts) (said b τ l) ≡ said b τ (any (map tree ts) l)
said_any b τ [] l = refl
said_any b τ (t ∷ ts) l = ap (disjoined (said b τ (tree t))) (said_any b τ ts l)

pub said_by_any : (b : Block) (τ : List Both) (t : Boxes) (ts : Vec Boxes Global) (l : Box Boxes Global) (last all : Both) → t ≡ Any ts l → last ≡ said b τ (tree l.value) → all ≡ disjoin_all (map (λ t. said b τ (tree t)) ts.items) last → all ≡ said b τ (tree t)
said_by_any b τ t ts l last all e f g = g ∙ (ap (disjoin_all (map (λ t. said b τ (tree t)) ts.items)) f ∙ (said_any b τ ts.items (tree l.value) ∙ ap (said b τ) (sym (ap tree e ∙ tree_any ts l))))

greatest_any : (g : Group) (ts : List Boxes) (l : Tree) → greatest_of_all (map (λ t. greatest_in g (tree t)) ts) (greatest_in g l) ≡ greatest_in g (any (map tree ts) l)
greatest_any g [] l = refl
greatest_any g (t ∷ ts) l = ap (max (greatest_in g (tree t))) (greatest_any g ts l)

pub greatest_by_any : (g : Group) (t : Boxes) (ts : Vec Boxes Global) (l : Box Boxes Global) (last all : ℕ) → t ≡ Any ts l → last ≡ greatest_in g (tree l.value) → all ≡ greatest_of_all (map (λ t. greatest_in g (tree t)) ts.items) last → all ≡ greatest_in g (tree t)
greatest_by_any g t ts l last all e f h = h ∙ (ap (greatest_of_all (map (λ t. greatest_in g (tree t)) ts.items)) f ∙ (greatest_any g ts.items (tree l.value) ∙ ap (greatest_in g) (sym (ap tree e ∙ tree_any ts l))))

-- ---- a chain of choices: its last tree, where it has no choice, and else a choice
no_choice : (arms : List (Boxes × Boxes)) (l : Tree) → (length arms == 0) ≡ true → cases (map (λ a. (tree a.0, tree a.1)) arms) l ≡ l
no_choice [] l e = refl
no_choice (a ∷ arms) l e = absurd (grind (arith, nat_tests, e))

pub tree_of_last : (t : Boxes) (arms : Vec (Boxes × Boxes) Global) (l : Box Boxes Global) → t ≡ Cases arms l → (length arms.items == 0) ≡ true → tree l.value ≡ tree t
tree_of_last t arms l e f = sym (ap tree e ∙ (tree_cases arms l ∙ no_choice arms.items (tree l.value) f))

module _ {A : Type 0} (f : Tree → A) (nought : A) (at_choice : (arms : List (Tree × Tree)) (a : Tree × Tree) (l : Tree) → f (cases (a ∷ arms) l) ≡ nought) where
  some_choice : (arms : List (Boxes × Boxes)) (l : Tree) → (length arms == 0) ≡ false → f (cases (map (λ a. (tree a.0, tree a.1)) arms) l) ≡ nought
  some_choice [] l e = absurd (cc)
  some_choice (a ∷ arms) l e = at_choice (map (λ a. (tree a.0, tree a.1)) arms) (tree a.0, tree a.1) l

  pub nought_of_cases : (t : Boxes) (arms : Vec (Boxes × Boxes) Global) (l : Box Boxes Global) → t ≡ Cases arms l → (length arms.items == 0) ≡ false → nought ≡ f (tree t)
  nought_of_cases t arms l e g = sym (ap f (ap tree e ∙ tree_cases arms l) ∙ some_choice arms.items (tree l.value) g)

-- ---- the list from one place earlier on
pub from_before : {A : Type 0} (xs : List A) (n : ℕ) (x : A) → n < length xs → x ≡ get_or xs n x → drop n xs ≡ x ∷ drop (suc n) xs
from_before {A = A} [] n x l e = absurd (omega (arith, l))
from_before {A = A} (y ∷ xs) zero x l e = ap (λ (z : A). z ∷ xs) (sym e)
from_before {A = A} (y ∷ xs) (suc n) x l e = from_before xs n x (omega (arith, l)) e

module _ (b : Block) (τ : List Both) where
  pub joined_back : (items : List Boxes) (at n : ℕ) (x : Boxes) (last old w all : Both) → suc n ≡ at → n < length items → x ≡ get_or items n x → old ≡ disjoin_all (map (λ t. said b τ (tree t)) (drop at items)) last → w ≡ said b τ (tree x) → all ≡ disjoined w old
      → all ≡ disjoin_all (map (λ t. said b τ (tree t)) (drop n items)) last
  joined_back items at n x last old w all a lt is e f g =
      g ∙ (ap (λ (v : Both). disjoined v old) f ∙ (ap (disjoined (said b τ (tree x))) (e ∙ ap (λ (m : ℕ). disjoin_all (map (λ t. said b τ (tree t)) (drop m items)) last) (sym a))
      ∙ ap (λ (xs : List Boxes). disjoin_all (map (λ t. said b τ (tree t)) xs) last) (sym (from_before items n x lt is))))

module _ (g : Group) where
  pub greatest_back : (items : List Boxes) (at n : ℕ) (x : Boxes) (last old w all : ℕ) → suc n ≡ at → n < length items → x ≡ get_or items n x → old ≡ greatest_of_all (map (λ t. greatest_in g (tree t)) (drop at items)) last → w ≡ greatest_in g (tree x) → all ≡ max w old
      → all ≡ greatest_of_all (map (λ t. greatest_in g (tree t)) (drop n items)) last
  greatest_back items at n x last old w all a lt is e f h =
      h ∙ (ap (λ (v : ℕ). max v old) f ∙ (ap (max (greatest_in g (tree x))) (e ∙ ap (λ (m : ℕ). greatest_of_all (map (λ t. greatest_in g (tree t)) (drop m items)) last) (sym a))
      ∙ ap (λ (xs : List Boxes). greatest_of_all (map (λ t. greatest_in g (tree t)) xs) last) (sym (from_before items n x lt is))))

-- a choice says nothing, and no number of it counts
pub silent_choice : (b : Block) (τ : List Both) (t : Boxes) (arms : Vec (Boxes × Boxes) Global) (l : Box Boxes Global) (v : Both) → t ≡ Cases arms l → (length arms.items == 0) ≡ false → v ≡ nothing → v ≡ said b τ (tree t)
silent_choice b τ t arms l v e f g = g ∙ nought_of_cases (said b τ) nothing (λ arms a l. refl) t arms l e f

pub uncounted_choice : (g : Group) (t : Boxes) (arms : Vec (Boxes × Boxes) Global) (l : Box Boxes Global) → t ≡ Cases arms l → (length arms.items == 0) ≡ false → 0 ≡ greatest_in g (tree t)
uncounted_choice g t arms l e f = nought_of_cases (greatest_in g) 0 (λ arms a l. refl) t arms l e f
