-- No call is left in a linked body: by induction on the statement, where none is in what stands for a call; then by
-- induction on how deep calls go.
use Rattle.std.proofs.Common.{◌≡◌, ℕ, zero, suc, Bool, true, false, List, Option, Some, None, refl, ap}
use Rattle.std.specs.Prelude.{◌||◌}
use Rattle.quartz_tree.specs.Surfaces.{Word, Written, empty, pause, halt, await, emit, write, block, choose, choose_one, loop, always, while, do_while, guard, call, Branch, done, then, Branches, none, beside, ModuleTree}
use Rattle.quartz_names.specs.Resolving.{has_call, branch_has_call, have_call}
use Rattle.linked_trees.specs.Dotted.{with_number}
use Rattle.linked_trees.specs.Laws.{LinkedHasNoCall}
use Rattle.linked_trees.specs.Naming.{Names, module_named}
use Rattle.linked_trees.specs.Linking.{Linker, linked, linked_branch, linked_branches, entered, called_block, linker, passes}

neither : (a b : Bool) → a ≡ false → b ≡ false → (a || b) ≡ false
neither true b g h = absurd (cc)
neither false b g h = h

module _ (dotted : Word → ℕ → Word) (k : Linker dotted) (none_in : (m : Word) (ws : List Word) (n : ℕ) → has_call (k.block_of m ws n) ≡ false) where
  mutual
    pub linked_uncalled : (o : Option ℕ) (s : Names) (n : ℕ) (w : Written) → has_call (linked dotted k o s n w) ≡ false
    linked_uncalled o s n empty = refl
    linked_uncalled o s n pause = refl
    linked_uncalled o s n (halt p) = refl
    linked_uncalled o s n (await i c p) = refl
    linked_uncalled o s n (emit d t p) = refl
    linked_uncalled o s n (write d t e p) = refl
    linked_uncalled o s n (block ds bs) = branches_uncalled o (entered dotted o s ds) n bs
    linked_uncalled o s n (choose c a b) = neither _ _ (linked_uncalled o s n a) (linked_uncalled o s _ b)
    linked_uncalled o s n (choose_one c a) = linked_uncalled o s n a
    linked_uncalled o s n (loop a p) = linked_uncalled o s n a
    linked_uncalled o s n (always a p) = linked_uncalled o s n a
    linked_uncalled o s n (while c a p) = linked_uncalled o s n a
    linked_uncalled o s n (do_while a c p) = linked_uncalled o s n a
    linked_uncalled o s n (guard x w i a c) = linked_uncalled o s n a
    linked_uncalled o s n (call m args p) = none_in m _ n

    branch_uncalled : (o : Option ℕ) (s : Names) (n : ℕ) (b : Branch) → branch_has_call (linked_branch dotted k o s n b) ≡ false
    branch_uncalled o s n done = refl
    branch_uncalled o s n (then a rest) = neither _ _ (linked_uncalled o s n a) (branch_uncalled o s _ rest)

    branches_uncalled : (o : Option ℕ) (s : Names) (n : ℕ) (bs : Branches) → have_call (linked_branches dotted k o s n bs) ≡ false
    branches_uncalled o s n none = refl
    branches_uncalled o s n (beside b rest) = neither _ _ (branch_uncalled o s n b) (branches_uncalled o s _ rest)

called_uncalled : (dotted : Word → ℕ → Word) (ms : List ModuleTree) (d : ℕ) (m : Word) (ws : List Word) (n : ℕ) → has_call ((linker dotted ms d).block_of m ws n) ≡ false
called_uncalled dotted ms zero m ws n = refl
called_uncalled dotted ms (suc d) m ws n = at (module_named ms m) (called_uncalled dotted ms d)
  where
    at : (o : Option ModuleTree) → ((m : Word) (ws : List Word) (n : ℕ) → has_call ((linker dotted ms d).block_of m ws n) ≡ false) → has_call (called_block dotted (linker dotted ms d) o ws n) ≡ false
    at None h = refl
    at (Some t) h = linked_uncalled dotted (linker dotted ms d) h (Some n) _ (suc n) t.body

pub linked_has_no_call : LinkedHasNoCall
linked_has_no_call ms d m = linked_uncalled with_number (linker with_number ms d) (called_uncalled with_number ms d) None (λ x. x) 1 m.body
