-- A module without calls is linked to itself: every name becomes itself, by induction on expressions and statements.
use Rattle.std.proofs.Common.{◌≡◌, ℕ, ◌+◌, Bool, true, false, List, [], ◌∷◌, ◌++◌, map, Option, Some, None, option_map, refl, sym, ap, ap₂, ◌∙◌, subst}
use Rattle.std.specs.Prelude.{◌||◌}
use Rattle.quartz_tree.specs.declared.declare.Decl.{Decl}
use Rattle.quartz_tree.specs.declared.declare.Flow.TheVariants.{Inner}
use Rattle.quartz_tree.specs.declared.place.Place.{Place}
use Rattle.quartz_tree.specs.Surfaces.{Word, Goal, Written, empty, pause, halt, await, emit, write, block, choose, choose_one, loop, always, while, do_while, guard, call, Branch, done, then, Branches, none, beside, ModuleTree}
use Rattle.quartz_tree.specs.Tree.{Tree, truth, number, bits, named, element, one, two, choice, slice, to_nat, to_bv, paren}
use Rattle.quartz_expr.proofs.TruthLemmas.{or_parts}
use Rattle.quartz_names.specs.Resolving.{has_call, branch_has_call, have_call}
use Rattle.linked_trees.specs.Naming.{Names, given}
use Rattle.linked_trees.specs.Linking.{respelled, respelled_goal, renamed_decl, entered, Linker, calls, calls_of_branch, linked, linked_branch, linked_branches, linker, linked_module}
use Rattle.linked_trees.proofs.ScopeLemmas.{by_name}

abbrev IsSame : Names → Type 0
IsSame s = (x : Word) → s x ≡ x

same_tree : (s : Names) → IsSame s → (e : Tree Word) → respelled s e ≡ e
same_tree s h (truth b p) = refl
same_tree s h (number n p) = refl
same_tree s h (bits w n p) = refl
same_tree s h (named x p) = ap (λ (y : Word). named y p) (h x)
same_tree s h (element x i p) = ap₂ (λ (y : Word) (j : Tree Word). element y j p) (h x) (same_tree s h i)
same_tree s h (one op a p) = ap (λ (b : Tree Word). one op b p) (same_tree s h a)
same_tree s h (two op a b p) = ap₂ (λ (x y : Tree Word). two op x y p) (same_tree s h a) (same_tree s h b)
same_tree s h (choice c a b p) = ap₂ (λ (x y : Tree Word). choice x y (respelled s b) p) (same_tree s h c) (same_tree s h a) ∙ ap (λ (z : Tree Word). choice c a z p) (same_tree s h b)
same_tree s h (slice a i l p) = ap (λ (b : Tree Word). slice b i l p) (same_tree s h a)
same_tree s h (to_nat a p) = ap (λ (b : Tree Word). to_nat b p) (same_tree s h a)
same_tree s h (to_bv a w q p) = ap (λ (b : Tree Word). to_bv b w q p) (same_tree s h a)
same_tree s h (paren a p) = ap (λ (b : Tree Word). paren b p) (same_tree s h a)

same_index : (s : Names) → IsSame s → (i : Option (Tree Word)) → option_map (respelled s) i ≡ i
same_index s h None = refl
same_index s h (Some i) = ap (λ (j : Tree Word). Some j) (same_tree s h i)

same_goal : (s : Names) → IsSame s → (g : Goal) → respelled_goal s g ≡ g
same_goal s h g = λ i. record { name = h g.name i; index = same_index s h g.index i; place = g.place }

module _ (dotted : Word → ℕ → Word) where
  same_entered : (s : Names) (ds : List Decl) → IsSame s → IsSame (entered dotted None s ds)
  same_entered s [] h = h
  same_entered s (d ∷ ds) h = same_entered (given s d.name d.name) ds (λ x. by_name (λ (w : Word). w ≡ x) d.name x d.name (s x) (λ e. e) (λ e. h x))

  same_decls : (ds : List Decl) → map (renamed_decl dotted None) ds ≡ ds
  same_decls [] = refl
  same_decls (d ∷ ds) = ap (λ (es : List Decl). d ∷ es) (same_decls ds)

  module _ (k : Linker dotted) where
    mutual
      pub linked_same : (s : Names) (n : ℕ) → IsSame s → (w : Written) → has_call w ≡ false → linked dotted k None s n w ≡ w
      linked_same s n h empty e = refl
      linked_same s n h pause e = refl
      linked_same s n h (halt p) e = refl
      linked_same s n h (await i c p) e = ap (λ (c : Tree Word). await i c p) (same_tree s h c)
      linked_same s n h (emit d t p) e = ap (λ (t : Goal). emit d t p) (same_goal s h t)
      linked_same s n h (write d t v p) e = ap₂ (λ (t : Goal) (v : Tree Word). write d t v p) (same_goal s h t) (same_tree s h v)
      linked_same s n h (block ds bs) e = ap₂ block (same_decls ds) (branches_same (entered dotted None s ds) n (same_entered s ds h) bs e)
      linked_same s n h (choose c a b) e =
          let f = or_parts (has_call a) (has_call b) e in
          ap (λ (c : Tree Word). choose c (linked dotted k None s n a) (linked dotted k None s (n + calls dotted k a) b)) (same_tree s h c) ∙ ap₂ (choose c) (linked_same s n h a f.0) (linked_same s (n + calls dotted k a) h b f.1)
      linked_same s n h (choose_one c a) e = ap₂ choose_one (same_tree s h c) (linked_same s n h a e)
      linked_same s n h (loop a p) e = ap (λ (a : Written). loop a p) (linked_same s n h a e)
      linked_same s n h (always a p) e = ap (λ (a : Written). always a p) (linked_same s n h a e)
      linked_same s n h (while c a p) e = ap₂ (λ (c : Tree Word) (a : Written). while c a p) (same_tree s h c) (linked_same s n h a e)
      linked_same s n h (do_while a c p) e = ap₂ (λ (a : Written) (c : Tree Word). do_while a c p) (linked_same s n h a e) (same_tree s h c)
      linked_same s n h (guard x w i a c) e = ap₂ (guard x w i) (linked_same s n h a e) (same_tree s h c)
      linked_same s n h (call m args p) e = absurd (cc)

      branch_same : (s : Names) (n : ℕ) → IsSame s → (b : Branch) → branch_has_call b ≡ false → linked_branch dotted k None s n b ≡ b
      branch_same s n h done e = refl
      branch_same s n h (then a rest) e = let f = or_parts (has_call a) (branch_has_call rest) e in ap₂ (then) (linked_same s n h a f.0) (branch_same s (n + calls dotted k a) h rest f.1)

      branches_same : (s : Names) (n : ℕ) → IsSame s → (bs : Branches) → have_call bs ≡ false → linked_branches dotted k None s n bs ≡ bs
      branches_same s n h none e = refl
      branches_same s n h (beside b rest) e = let f = or_parts (branch_has_call b) (have_call rest) e in ap₂ beside (branch_same s n h b f.0) (branches_same s (n + calls_of_branch dotted k b) h rest f.1)

  -- so a module without calls has the same runs by both
  pub module_same : (ms : List ModuleTree) (d : ℕ) (m : ModuleTree) → has_call m.body ≡ false → linked_module dotted ms d m ≡ m
  module_same ms d m e = ap (λ (w : Written). record m { body = w }) (linked_same (linker dotted ms d) (λ x. x) 1 (λ x. refl) m.body e)
