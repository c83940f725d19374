-- How large a statement is once its calls are replaced, told without replacing them.
use Rattle.std.specs.Prelude.{ℕ, zero, suc, ◌+◌, max, List, [], ◌∷◌, Option, Some, None}
use Rattle.quartz_tree.specs.Surfaces.{Word, Written, empty, pause, halt, await, emit, write, block, choose, choose_one, loop, always, while, do_while, guard, call, Branch, done, then, Branches, none, beside, ModuleTree}
use Rattle.linked_trees.specs.Naming.{module_named}

-- where a call of a module counts so much
module _ (of_call : Word → ℕ) where
  abbrev mutual
    -- each statement and block once, a call as the block in its place
    pub size : Written → ℕ
    size (block _ bs) = 1 + size_of_branches bs
    size (choose _ a b) = 1 + (size a + size b)
    size (choose_one _ a) = 1 + size a
    size (loop s _) = 1 + size s
    size (always s _) = 1 + size s
    size (while _ s _) = 1 + size s
    size (do_while s _ _) = 1 + size s
    size (guard _ _ _ s _) = 1 + size s
    size (call m _ _) = of_call m
    size _ = 1

    pub size_of_branch : Branch → ℕ
    size_of_branch done = 0
    size_of_branch (then s rest) = size s + size_of_branch rest

    pub size_of_branches : Branches → ℕ
    size_of_branches none = 0
    size_of_branches (beside b rest) = size_of_branch b + size_of_branches rest

    -- the greatest level, a call having those of the block in its place
    pub level : Written → ℕ
    level (block _ bs) = 1 + level_of_branches bs
    level (choose _ a b) = 1 + max (level a) (level b)
    level (choose_one _ a) = 1 + level a
    level (loop s _) = 1 + level s
    level (always s _) = 1 + level s
    level (while _ s _) = 1 + level s
    level (do_while s _ _) = 1 + level s
    level (guard _ _ _ s _) = 1 + level s
    level (call m _ _) = of_call m
    level _ = 1

    pub level_of_branch : Branch → ℕ
    level_of_branch done = 0
    level_of_branch (then s rest) = max (level s) (level_of_branch rest)

    pub level_of_branches : Branches → ℕ
    level_of_branches none = 0
    level_of_branches (beside b rest) = max (level_of_branch b) (level_of_branches rest)

-- what a call of a module counts: the block that stands in its place, where calls go at most so deep
abbrev pub size_if : (Word → ℕ) → Option ModuleTree → ℕ
size_if f None = 1
size_if f (Some m) = size f m.body

abbrev pub size_of : List ModuleTree → (depth : ℕ) → Word → ℕ
size_of ms zero x = 1
size_of ms (suc d) x = size_if (size_of ms d) (module_named ms x)

abbrev pub level_if : (Word → ℕ) → Option ModuleTree → ℕ
level_if f None = 1
level_if f (Some m) = level f m.body

abbrev pub level_in : List ModuleTree → (depth : ℕ) → Word → ℕ
level_in ms zero x = 1
level_in ms (suc d) x = level_if (level_in ms d) (module_named ms x)
