-- A linked body has no more calls than statements and blocks, where the body of each module is a block: by induction on
-- the statement, where it holds of what stands for a call; then by induction on how deep calls go.
use Rattle.std.proofs.Common.{◌≡◌, ◌≤◌, ℕ, zero, suc, ◌+◌, Bool, true, false, List, Option, Some, None, refl, arith}
use Rattle.quartz_tree.specs.Surfaces.{Word, Written, empty, pause, halt, await, emit, write, block, choose, choose_one, loop, always, while, do_while, guard, call, Branch, done, then, Branches, none, beside, ModuleTree}
use Rattle.linked_trees.specs.Fit.{is_block}
use Rattle.linked_trees.specs.Naming.{module_named}
use Rattle.linked_trees.specs.Linking.{Linker, calls, calls_of_branch, calls_of_branches, called_calls, linker}
use Rattle.call_rules.specs.Sizes.{size, size_of_branch, size_of_branches, size_if, size_of}

module _ (dotted : Word → ℕ → Word) where
  module _ (k : Linker dotted) (f : Word → ℕ) (within : (m : Word) → suc (k.calls_in m) ≤ f m) where
    mutual
      pub calls_within : (w : Written) → calls dotted k w ≤ size f w
      calls_within empty = omega arith
      calls_within pause = omega arith
      calls_within (halt _) = omega arith
      calls_within (await _ _ _) = omega arith
      calls_within (emit _ _ _) = omega arith
      calls_within (write _ _ _ _) = omega arith
      calls_within (block _ bs) = let h : calls_of_branches dotted k bs ≤ size_of_branches f bs = branches_within bs in omega (arith, h)
      calls_within (choose _ a b) =
          let g : calls dotted k a ≤ size f a = calls_within a in
          let h : calls dotted k b ≤ size f b = calls_within b in
          omega (arith, g, h)
      calls_within (choose_one _ a) = let h : calls dotted k a ≤ size f a = calls_within a in omega (arith, h)
      calls_within (loop a _) = let h : calls dotted k a ≤ size f a = calls_within a in omega (arith, h)
      calls_within (always a _) = let h : calls dotted k a ≤ size f a = calls_within a in omega (arith, h)
      calls_within (while _ a _) = let h : calls dotted k a ≤ size f a = calls_within a in omega (arith, h)
      calls_within (do_while a _ _) = let h : calls dotted k a ≤ size f a = calls_within a in omega (arith, h)
      calls_within (guard _ _ _ a _) = let h : calls dotted k a ≤ size f a = calls_within a in omega (arith, h)
      calls_within (call m _ _) = within m

      branch_within : (b : Branch) → calls_of_branch dotted k b ≤ size_of_branch f b
      branch_within done = omega arith
      branch_within (then a rest) =
          let g : calls dotted k a ≤ size f a = calls_within a in
          let h : calls_of_branch dotted k rest ≤ size_of_branch f rest = branch_within rest in
          omega (arith, g, h)

      branches_within : (bs : Branches) → calls_of_branches dotted k bs ≤ size_of_branches f bs
      branches_within none = omega arith
      branches_within (beside b rest) =
          let g : calls_of_branch dotted k b ≤ size_of_branch f b = branch_within b in
          let h : calls_of_branches dotted k rest ≤ size_of_branches f rest = branches_within rest in
          omega (arith, g, h)

    -- a block counts itself besides
    pub block_within : (w : Written) → is_block w ≡ true → suc (calls dotted k w) ≤ size f w
    block_within (block _ bs) e = let h : calls_of_branches dotted k bs ≤ size_of_branches f bs = branches_within bs in omega (arith, h)
    block_within empty e = absurd (cc)
    block_within pause e = absurd (cc)
    block_within (halt _) e = absurd (cc)
    block_within (await _ _ _) e = absurd (cc)
    block_within (emit _ _ _) e = absurd (cc)
    block_within (write _ _ _ _) e = absurd (cc)
    block_within (choose _ _ _) e = absurd (cc)
    block_within (choose_one _ _) e = absurd (cc)
    block_within (loop _ _) e = absurd (cc)
    block_within (always _ _) e = absurd (cc)
    block_within (while _ _ _) e = absurd (cc)
    block_within (do_while _ _ _) e = absurd (cc)
    block_within (guard _ _ _ _ _) e = absurd (cc)
    block_within (call _ _ _) e = absurd (cc)

  module _ (ms : List ModuleTree) (blocks : (x : Word) (t : ModuleTree) → module_named ms x ≡ Some t → is_block t.body ≡ true) where
    called_within : (d : ℕ) (m : Word) → suc ((linker dotted ms d).calls_in m) ≤ size_of ms d m
    called_within zero m = omega arith
    called_within (suc d) m = at (module_named ms m) refl (called_within d)
      where
        at : (o : Option ModuleTree) → module_named ms m ≡ o → ((m : Word) → suc ((linker dotted ms d).calls_in m) ≤ size_of ms d m) → suc (called_calls dotted (linker dotted ms d) o) ≤ size_if (size_of ms d) o
        at None e h = omega arith
        at (Some t) e h = block_within (linker dotted ms d) (size_of ms d) h t.body (blocks m t e)

    -- so the numbers of calls are as few as the rule of sizes allows
    pub calls_in_size : (d : ℕ) (main : ModuleTree) → is_block main.body ≡ true → 1 + calls dotted (linker dotted ms d) main.body ≤ size (size_of ms d) main.body
    calls_in_size d main e = let h : suc (calls dotted (linker dotted ms d) main.body) ≤ size (size_of ms d) main.body = block_within (linker dotted ms d) (size_of ms d) (called_within d) main.body e in omega (arith, h)
