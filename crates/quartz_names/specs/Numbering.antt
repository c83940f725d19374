-- Statements over names become statements over variables' numbers. The statements here have their
-- derived forms replaced, and no calls: the last cases meet no others.
use Rattle.std.specs.Prelude.{ℕ, zero, suc, ◌+◌, List, [], ◌∷◌, ◌++◌, length, option_map}
use Rattle.quartz_tree.specs.declared.declare.Decl.{Decl}
use Rattle.quartz_tree.specs.Kernel as kernel
use Rattle.quartz_tree.specs.Kernel.{Kernel, Kernels}
use Rattle.quartz_tree.specs.Surfaces.{Word, Written, pause, write, block, choose, choose_one, do_while, guard, Branch, done, then, Branches, none, beside}
use Rattle.quartz_tree.specs.Tree.{Tree, truth, number, bits, named, element, one, two, choice, slice, to_nat, to_bv, paren}
use Rattle.quartz_names.specs.Scopes.{Scope, declared, number_in}

-- an expression over the numbers of its variables
abbrev pub renamed : Scope → Tree Word → Tree ℕ
renamed sc (truth b p) = truth b p
renamed sc (number n p) = number n p
renamed sc (bits w n p) = bits w n p
renamed sc (named x p) = named (number_in sc x) p
renamed sc (element x i p) = element (number_in sc x) (renamed sc i) p
renamed sc (one op a p) = one op (renamed sc a) p
renamed sc (two op a b p) = two op (renamed sc a) (renamed sc b) p
renamed sc (choice c a b p) = choice (renamed sc c) (renamed sc a) (renamed sc b) p
renamed sc (slice a h l p) = slice (renamed sc a) h l p
renamed sc (to_nat a p) = to_nat (renamed sc a) p
renamed sc (to_bv a w q p) = to_bv (renamed sc a) w q p
renamed sc (paren a p) = paren (renamed sc a) p

-- the declared locals in textual order, those of a block's head before those of its branches
abbrev mutual
  pub locals : Written → List Decl
  locals (block ds bs) = ds ++ locals_of_branches bs
  locals (choose _ a b) = locals a ++ locals b
  locals (choose_one _ a) = locals a
  locals (do_while s _ _) = locals s
  locals (guard _ _ _ s _) = locals s
  locals _ = []

  pub locals_of_branch : Branch → List Decl
  locals_of_branch done = []
  locals_of_branch (then s rest) = locals s ++ locals_of_branch rest

  pub locals_of_branches : Branches → List Decl
  locals_of_branches none = []
  locals_of_branches (beside b rest) = locals_of_branch b ++ locals_of_branches rest

-- a Local around a statement for each of so many variables from n on, the first outermost
abbrev pub around : (n count : ℕ) → Kernel → Kernel
around n zero k = k
around n (suc count) k = kernel.local n (around (n + 1) count k)

-- the branches of a block: one alone, or several in parallel
abbrev pub joined : Kernels → Kernel
joined (kernel.part k kernel.none) = k
joined ks = kernel.par ks

-- the statement over numbers, where its names stand for what the scope says and its first local
-- has the number n
abbrev mutual
  pub numbered : Scope → ℕ → Written → Kernel
  numbered sc n pause = kernel.pause
  numbered sc n (write delayed g e p) = kernel.write (number_in sc g.name) (option_map (renamed sc) g.index) (renamed sc e) delayed p g.place
  numbered sc n (block ds bs) = around n (length ds) (joined (numbered_branches (declared sc n ds) (n + length ds) bs))
  numbered sc n (choose c a b) = kernel.choose (renamed sc c) (numbered sc n a) (numbered sc (n + length (locals a)) b)
  numbered sc n (choose_one c a) = kernel.choose (renamed sc c) (numbered sc n a) kernel.nothing
  numbered sc n (do_while s c p) = kernel.loop (numbered sc n s) (renamed sc c) p
  numbered sc n (guard abort weak immediate s c) = kernel.guard abort weak immediate (numbered sc n s) (renamed sc c)
  numbered sc n _ = kernel.nothing

  pub numbered_branch : Scope → ℕ → Branch → Kernels
  numbered_branch sc n done = kernel.none
  numbered_branch sc n (then s rest) = kernel.part (numbered sc n s) (numbered_branch sc (n + length (locals s)) rest)

  -- each branch is the sequence of its statements
  pub numbered_branches : Scope → ℕ → Branches → Kernels
  numbered_branches sc n none = kernel.none
  numbered_branches sc n (beside b rest) = kernel.part (kernel.seq (numbered_branch sc n b)) (numbered_branches sc (n + length (locals_of_branch b)) rest)
