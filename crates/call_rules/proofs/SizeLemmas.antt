-- The size and the levels of a linked body, told without linking: by induction on the statement, where what stands for
-- a call is known; then by induction on how deep calls go.
use Rattle.std.proofs.Common.{◌≡◌, ℕ, zero, suc, ◌+◌, List, [], ◌∷◌, Option, Some, None, refl, sym, ap, ap₂, ◌∙◌}
use Rattle.std.specs.Prelude.{max}
use Rattle.quartz_tree.specs.Surfaces.{Word, Written, empty, pause, halt, await, emit, write, block, choose, choose_one, loop, always, while, do_while, guard, call, Branch, done, then, Branches, none, beside, ModuleTree}
use Rattle.call_rules.specs.Laws.{LinkedHasSize}
use Rattle.linked_trees.specs.Dotted.{with_number}
use Rattle.linked_trees.specs.Naming.{Names, module_named}
use Rattle.linked_trees.specs.Linking.{Linker, linked, linked_branch, linked_branches, entered, called_block, linker, passes}
use Rattle.call_rules.specs.Sizes.{size, size_of_branch, size_of_branches, level, level_of_branch, level_of_branches, size_if, size_of, level_if, level_in}

module _ (dotted : Word → ℕ → Word) (k : Linker dotted) (f : Word → ℕ) (g : Word → ℕ) (same : (m : Word) (ws : List Word) (n : ℕ) → size g (k.block_of m ws n) ≡ f m) where
  mutual
    pub linked_size : (o : Option ℕ) (s : Names) (n : ℕ) (w : Written) → size g (linked dotted k o s n w) ≡ size f w
    linked_size o s n empty = refl
    linked_size o s n pause = refl
    linked_size o s n (halt p) = refl
    linked_size o s n (await i c p) = refl
    linked_size o s n (emit d t p) = refl
    linked_size o s n (write d t e p) = refl
    linked_size o s n (block ds bs) = ap (λ i. 1 + i) (branches_size o (entered dotted o s ds) n bs)
    linked_size o s n (choose c a b) = ap₂ (λ i j. 1 + (i + j)) (linked_size o s n a) (linked_size o s _ b)
    linked_size o s n (choose_one c a) = ap (λ i. 1 + i) (linked_size o s n a)
    linked_size o s n (loop a p) = ap (λ i. 1 + i) (linked_size o s n a)
    linked_size o s n (always a p) = ap (λ i. 1 + i) (linked_size o s n a)
    linked_size o s n (while c a p) = ap (λ i. 1 + i) (linked_size o s n a)
    linked_size o s n (do_while a c p) = ap (λ i. 1 + i) (linked_size o s n a)
    linked_size o s n (guard x w i a c) = ap (λ i. 1 + i) (linked_size o s n a)
    linked_size o s n (call m args p) = same m _ n

    branch_size : (o : Option ℕ) (s : Names) (n : ℕ) (b : Branch) → size_of_branch g (linked_branch dotted k o s n b) ≡ size_of_branch f b
    branch_size o s n done = refl
    branch_size o s n (then a rest) = ap₂ (λ i j. i + j) (linked_size o s n a) (branch_size o s _ rest)

    branches_size : (o : Option ℕ) (s : Names) (n : ℕ) (bs : Branches) → size_of_branches g (linked_branches dotted k o s n bs) ≡ size_of_branches f bs
    branches_size o s n none = refl
    branches_size o s n (beside b rest) = ap₂ (λ i j. i + j) (branch_size o s n b) (branches_size o s _ rest)

module _ (dotted : Word → ℕ → Word) (k : Linker dotted) (f : Word → ℕ) (g : Word → ℕ) (same : (m : Word) (ws : List Word) (n : ℕ) → level g (k.block_of m ws n) ≡ f m) where
  mutual
    pub linked_level : (o : Option ℕ) (s : Names) (n : ℕ) (w : Written) → level g (linked dotted k o s n w) ≡ level f w
    linked_level o s n empty = refl
    linked_level o s n pause = refl
    linked_level o s n (halt p) = refl
    linked_level o s n (await i c p) = refl
    linked_level o s n (emit d t p) = refl
    linked_level o s n (write d t e p) = refl
    linked_level o s n (block ds bs) = ap (λ i. 1 + i) (branches_level o (entered dotted o s ds) n bs)
    linked_level o s n (choose c a b) = ap₂ (λ i j. 1 + max i j) (linked_level o s n a) (linked_level o s _ b)
    linked_level o s n (choose_one c a) = ap (λ i. 1 + i) (linked_level o s n a)
    linked_level o s n (loop a p) = ap (λ i. 1 + i) (linked_level o s n a)
    linked_level o s n (always a p) = ap (λ i. 1 + i) (linked_level o s n a)
    linked_level o s n (while c a p) = ap (λ i. 1 + i) (linked_level o s n a)
    linked_level o s n (do_while a c p) = ap (λ i. 1 + i) (linked_level o s n a)
    linked_level o s n (guard x w i a c) = ap (λ i. 1 + i) (linked_level o s n a)
    linked_level o s n (call m args p) = same m _ n

    branch_level : (o : Option ℕ) (s : Names) (n : ℕ) (b : Branch) → level_of_branch g (linked_branch dotted k o s n b) ≡ level_of_branch f b
    branch_level o s n done = refl
    branch_level o s n (then a rest) = ap₂ (λ i j. max i j) (linked_level o s n a) (branch_level o s _ rest)

    branches_level : (o : Option ℕ) (s : Names) (n : ℕ) (bs : Branches) → level_of_branches g (linked_branches dotted k o s n bs) ≡ level_of_branches f bs
    branches_level o s n none = refl
    branches_level o s n (beside b rest) = ap₂ (λ i j. max i j) (branch_level o s n b) (branches_level o s _ rest)

module _ (dotted : Word → ℕ → Word) (ms : List ModuleTree) (g : Word → ℕ) where
  called_size : (d : ℕ) (m : Word) (ws : List Word) (n : ℕ) → size g ((linker dotted ms d).block_of m ws n) ≡ size_of ms d m
  called_size zero m ws n = refl
  called_size (suc d) m ws n = at (module_named ms m) (called_size d)
    where
      at : (o : Option ModuleTree) → ((m : Word) (ws : List Word) (n : ℕ) → size g ((linker dotted ms d).block_of m ws n) ≡ size_of ms d m) → size g (called_block dotted (linker dotted ms d) o ws n) ≡ size_if (size_of ms d) o
      at None h = refl
      at (Some t) h = linked_size dotted (linker dotted ms d) (size_of ms d) g h (Some n) _ (suc n) t.body

  called_level : (d : ℕ) (m : Word) (ws : List Word) (n : ℕ) → level g ((linker dotted ms d).block_of m ws n) ≡ level_in ms d m
  called_level zero m ws n = refl
  called_level (suc d) m ws n = at (module_named ms m) (called_level d)
    where
      at : (o : Option ModuleTree) → ((m : Word) (ws : List Word) (n : ℕ) → level g ((linker dotted ms d).block_of m ws n) ≡ level_in ms d m) → level g (called_block dotted (linker dotted ms d) o ws n) ≡ level_if (level_in ms d) o
      at None h = refl
      at (Some t) h = linked_level dotted (linker dotted ms d) (level_in ms d) g h (Some n) _ (suc n) t.body

pub linked_has_size : LinkedHasSize
linked_has_size ms d m f = (
  linked_size with_number (linker with_number ms d) (size_of ms d) f (called_size with_number ms f d) None (λ x. x) 1 m.body,
  linked_level with_number (linker with_number ms d) (level_in ms d) f (called_level with_number ms f d) None (λ x. x) 1 m.body,
)
