-- What a linked body declares are locals, where what its modules declare in their bodies are: by induction on the
-- statement, where it holds of what stands for a call; then by induction on how deep calls go.
use Rattle.std.proofs.Common.{◌≡◌, ℕ, zero, suc, Bool, true, false, List, [], ◌∷◌, ◌++◌, map, Option, Some, None, refl}
use Rattle.quartz_tree.specs.declared.declare.Decl.{Decl}
use Rattle.quartz_tree.specs.Expand.{expanded, expanded_branch, expanded_branches}
use Rattle.quartz_tree.specs.Surfaces.{Word, Written, empty, pause, halt, await, emit, write, block, choose, choose_one, loop, always, while, do_while, guard, call, Branch, done, then, Branches, none, beside, ModuleTree}
use Rattle.quartz_names.specs.Numbering.{locals, locals_of_branch, locals_of_branches}
use Rattle.linked_trees.specs.Fit.{AreInner}
use Rattle.linked_trees.specs.Naming.{Names, module_named}
use Rattle.linked_trees.specs.Linking.{Linker, linked, linked_branch, linked_branches, linked_module, entered, renamed_decl, called_block, linker, passes}

inner_parts : (ds es : List Decl) → AreInner (ds ++ es) → AreInner ds × AreInner es
inner_parts [] es h = (tt, h)
inner_parts (d ∷ ds) es h = let g = inner_parts ds es h.1 in ((h.0, g.0), g.1)

inner_append : (ds es : List Decl) → AreInner ds → AreInner es → AreInner (ds ++ es)
inner_append [] es g h = h
inner_append (d ∷ ds) es g h = (g.0, inner_append ds es g.1 h)

-- behind a pause that was added
inner_always : (ds es : List Decl) → (AreInner ds → AreInner es) → AreInner ((ds ++ []) ++ []) → AreInner ((es ++ []) ++ [])
inner_always ds es f h = inner_append (es ++ []) [] (inner_append es [] (f (inner_parts ds [] (inner_parts (ds ++ []) [] h).0).0) tt) tt

module _ (dotted : Word → ℕ → Word) where
  inner_renamed : (o : Option ℕ) (ds : List Decl) → AreInner ds → AreInner (map (renamed_decl dotted o) ds)
  inner_renamed o [] h = tt
  inner_renamed o (d ∷ ds) h = (h.0, inner_renamed o ds h.1)

  module _ (k : Linker dotted) (inner_in : (m : Word) (ws : List Word) (n : ℕ) → AreInner (locals (expanded (k.block_of m ws n)))) where
    mutual
      pub linked_inner : (o : Option ℕ) (s : Names) (n : ℕ) (w : Written) → AreInner (locals (expanded w)) → AreInner (locals (expanded (linked dotted k o s n w)))
      linked_inner o s n empty h = tt
      linked_inner o s n pause h = tt
      linked_inner o s n (halt p) h = tt
      linked_inner o s n (await false c p) h = tt
      linked_inner o s n (await true c p) h = tt
      linked_inner o s n (emit d t p) h = tt
      linked_inner o s n (write d t e p) h = tt
      linked_inner o s n (block ds bs) h =
          let g = inner_parts ds (locals_of_branches (expanded_branches bs)) h in
          inner_append (map (renamed_decl dotted o) ds) _ (inner_renamed o ds g.0) (branches_inner o (entered dotted o s ds) n bs g.1)
      linked_inner o s n (choose c a b) h =
          let g = inner_parts (locals (expanded a)) (locals (expanded b)) h in
          inner_append (locals (expanded (linked dotted k o s n a))) _ (linked_inner o s n a g.0) (linked_inner o s _ b g.1)
      linked_inner o s n (choose_one c a) h = linked_inner o s n a h
      linked_inner o s n (loop a p) h = linked_inner o s n a h
      linked_inner o s n (always a p) h = inner_always (locals (expanded a)) (locals (expanded (linked dotted k o s n a))) (linked_inner o s n a) h
      linked_inner o s n (while c a p) h = linked_inner o s n a h
      linked_inner o s n (do_while a c p) h = linked_inner o s n a h
      linked_inner o s n (guard x w i a c) h = linked_inner o s n a h
      linked_inner o s n (call m args p) h = inner_in m _ n

      branch_inner : (o : Option ℕ) (s : Names) (n : ℕ) (b : Branch) → AreInner (locals_of_branch (expanded_branch b)) → AreInner (locals_of_branch (expanded_branch (linked_branch dotted k o s n b)))
      branch_inner o s n done h = tt
      branch_inner o s n (then a rest) h =
          let g = inner_parts (locals (expanded a)) (locals_of_branch (expanded_branch rest)) h in
          inner_append (locals (expanded (linked dotted k o s n a))) _ (linked_inner o s n a g.0) (branch_inner o s _ rest g.1)

      branches_inner : (o : Option ℕ) (s : Names) (n : ℕ) (bs : Branches) → AreInner (locals_of_branches (expanded_branches bs)) → AreInner (locals_of_branches (expanded_branches (linked_branches dotted k o s n bs)))
      branches_inner o s n none h = tt
      branches_inner o s n (beside b rest) h =
          let g = inner_parts (locals_of_branch (expanded_branch b)) (locals_of_branches (expanded_branches rest)) h in
          inner_append (locals_of_branch (expanded_branch (linked_branch dotted k o s n b))) _ (branch_inner o s n b g.0) (branches_inner o s _ rest g.1)

  module _ (ms : List ModuleTree) (inner_called : (x : Word) (t : ModuleTree) → module_named ms x ≡ Some t → AreInner (locals (expanded t.body))) where
    called_inner : (d : ℕ) (m : Word) (ws : List Word) (n : ℕ) → AreInner (locals (expanded ((linker dotted ms d).block_of m ws n)))
    called_inner zero m ws n = tt
    called_inner (suc d) m ws n = at (module_named ms m) refl (called_inner d)
      where
        at : (o : Option ModuleTree) → module_named ms m ≡ o → ((m : Word) (ws : List Word) (n : ℕ) → AreInner (locals (expanded ((linker dotted ms d).block_of m ws n))))
            → AreInner (locals (expanded (called_block dotted (linker dotted ms d) o ws n)))
        at None e h = tt
        at (Some t) e h = linked_inner (linker dotted ms d) h (Some n) _ (suc n) t.body (inner_called m t e)

  pub module_inner : (ms : List ModuleTree) (d : ℕ) (main : ModuleTree) → ((x : Word) (t : ModuleTree) → module_named ms x ≡ Some t → AreInner (locals (expanded t.body)))
      → AreInner (locals (expanded main.body)) → AreInner (locals (expanded (linked_module dotted ms d main).body))
  module_inner ms d main called own = linked_inner (linker dotted ms d) (called_inner ms called d) None (λ x. x) 1 main.body own
