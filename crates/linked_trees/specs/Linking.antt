-- A call is replaced by the called module's block. Calls are numbered in textual order, those of a called
-- block before the calls after it.
use Rattle.std.specs.Prelude.{ℕ, zero, suc, ◌+◌, List, [], ◌∷◌, ◌++◌, map, Option, Some, None, option_map}
use Rattle.quartz_tree.specs.declared.surface.Arg.{Arg}
use Rattle.quartz_tree.specs.declared.declare.Decl.{Decl}
use Rattle.quartz_tree.specs.Surfaces.{Word, Goal, Written, empty, pause, halt, await, emit, write, block, choose, choose_one, loop, always, while, do_while, guard, call, Branch, done, then, Branches, none, beside, ModuleTree}
use Rattle.quartz_tree.specs.Tree.{Tree, truth, number, bits, named, element, one, two, choice, slice, to_nat, to_bv, paren}
use Rattle.linked_trees.specs.Naming.{Names, given, module_named}

-- an expression with other names
abbrev pub respelled : Names → Tree Word → Tree Word
respelled s (truth b p) = truth b p
respelled s (number n p) = number n p
respelled s (bits w n p) = bits w n p
respelled s (named x p) = named (s x) p
respelled s (element x i p) = element (s x) (respelled s i) p
respelled s (one op a p) = one op (respelled s a) p
respelled s (two op a b p) = two op (respelled s a) (respelled s b) p
respelled s (choice c a b p) = choice (respelled s c) (respelled s a) (respelled s b) p
respelled s (slice a h l p) = slice (respelled s a) h l p
respelled s (to_nat a p) = to_nat (respelled s a) p
respelled s (to_bv a w q p) = to_bv (respelled s a) w q p
respelled s (paren a p) = paren (respelled s a) p

abbrev pub respelled_goal : Names → Goal → Goal
respelled_goal s g = record { name = s g.name; index = option_map (respelled s) g.index; place = g.place }

-- the names of the arguments, each as it is written where the call stands
abbrev pub spelled_args : Names → List Arg → List Word
spelled_args s [] = []
spelled_args s (a ∷ args) = s a.name ∷ spelled_args s args

-- in a called block a parameter's name becomes its argument
abbrev pub passes : Names → List Decl → List Word → Names
passes s [] ws = s
passes s (p ∷ ps) [] = s
passes s (p ∷ ps) (w ∷ ws) = passes (given s p.name w) ps ws

module _ (dotted : Word → ℕ → Word) where
  -- a local's name: as it is in the main module, and with the call's number in a called one
  abbrev pub local_name : Option ℕ → Word → Word
  local_name None x = x
  local_name (Some n) x = dotted x n

  abbrev pub renamed_decl : Option ℕ → Decl → Decl
  renamed_decl o d = record d { name = local_name o d.name }

  abbrev pub entered : Option ℕ → Names → List Decl → Names
  entered o s [] = s
  entered o s (d ∷ ds) = entered o (given s d.name (local_name o d.name)) ds

  -- what stands for a call of that number of a module with these arguments, and how many calls are in it
  pub record Linker : Type 0 where
    pub block_of : Word → (args : List Word) → ℕ → Written
    pub calls_in : Word → ℕ

  -- how many calls a statement and all that it calls have
  abbrev mutual
    pub calls : Linker → Written → ℕ
    calls k empty = 0
    calls k pause = 0
    calls k (halt _) = 0
    calls k (await _ _ _) = 0
    calls k (emit _ _ _) = 0
    calls k (write _ _ _ _) = 0
    calls k (block _ bs) = calls_of_branches k bs
    calls k (choose _ a b) = calls k a + calls k b
    calls k (choose_one _ a) = calls k a
    calls k (loop s _) = calls k s
    calls k (always s _) = calls k s
    calls k (while _ s _) = calls k s
    calls k (do_while s _ _) = calls k s
    calls k (guard _ _ _ s _) = calls k s
    calls k (call m _ _) = suc (k.calls_in m)

    pub calls_of_branch : Linker → Branch → ℕ
    calls_of_branch k done = 0
    calls_of_branch k (then s rest) = calls k s + calls_of_branch k rest

    pub calls_of_branches : Linker → Branches → ℕ
    calls_of_branches k none = 0
    calls_of_branches k (beside b rest) = calls_of_branch k b + calls_of_branches k rest

  -- a statement of the call o with its calls replaced, of which the first has the number n
  abbrev mutual
    pub linked : Linker → Option ℕ → Names → ℕ → Written → Written
    linked k o s n empty = empty
    linked k o s n pause = pause
    linked k o s n (halt p) = halt p
    linked k o s n (await immediate c p) = await immediate (respelled s c) p
    linked k o s n (emit delayed g p) = emit delayed (respelled_goal s g) p
    linked k o s n (write delayed g e p) = write delayed (respelled_goal s g) (respelled s e) p
    linked k o s n (block ds bs) = block (map (renamed_decl o) ds) (linked_branches k o (entered o s ds) n bs)
    linked k o s n (choose c a b) = choose (respelled s c) (linked k o s n a) (linked k o s (n + calls k a) b)
    linked k o s n (choose_one c a) = choose_one (respelled s c) (linked k o s n a)
    linked k o s n (loop t p) = loop (linked k o s n t) p
    linked k o s n (always t p) = always (linked k o s n t) p
    linked k o s n (while c t p) = while (respelled s c) (linked k o s n t) p
    linked k o s n (do_while t c p) = do_while (linked k o s n t) (respelled s c) p
    linked k o s n (guard abort weak immediate t c) = guard abort weak immediate (linked k o s n t) (respelled s c)
    linked k o s n (call m args p) = k.block_of m (spelled_args s args) n

    pub linked_branch : Linker → Option ℕ → Names → ℕ → Branch → Branch
    linked_branch k o s n done = done
    linked_branch k o s n (then t rest) = then (linked k o s n t) (linked_branch k o s (n + calls k t) rest)

    pub linked_branches : Linker → Option ℕ → Names → ℕ → Branches → Branches
    linked_branches k o s n none = none
    linked_branches k o s n (beside b rest) = beside (linked_branch k o s n b) (linked_branches k o s (n + calls_of_branch k b) rest)

  -- a called module's block
  abbrev pub called_block : Linker → Option ModuleTree → (args : List Word) → ℕ → Written
  called_block k None ws n = empty
  called_block k (Some m) ws n = linked k (Some n) (passes (λ y. dotted y n) m.params ws) (suc n) m.body

  abbrev pub called_calls : Linker → Option ModuleTree → ℕ
  called_calls k None = 0
  called_calls k (Some m) = calls k m.body

  -- calls in calls, so many deep
  abbrev pub linker : List ModuleTree → (depth : ℕ) → Linker
  linker ms zero = record { block_of = λ m ws n. empty; calls_in = λ m. 0 }
  linker ms (suc d) = record { block_of = λ m ws n. called_block (linker ms d) (module_named ms m) ws n; calls_in = λ m. called_calls (linker ms d) (module_named ms m) }

  -- a module with its calls replaced
  abbrev pub linked_module : List ModuleTree → (depth : ℕ) → ModuleTree → ModuleTree
  linked_module ms d m = record m { body = linked (linker ms d) None (λ x. x) 1 m.body }
