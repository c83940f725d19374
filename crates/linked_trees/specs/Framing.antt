-- Statements over names become framed terms over numbers, each module's variables numbered for itself.
use Rattle.std.specs.Prelude.{ℕ, zero, suc, ◌+◌, Bool, true, false, List, [], ◌∷◌, ◌++◌, length, map, Option, Some, None, option_map}
use Rattle.quartz_tree.specs.declared.surface.Arg.{Arg}
use Rattle.quartz_tree.specs.declared.declare.Decl.{Decl}
use Rattle.quartz_tree.specs.Surfaces.{Word, Written, pause, write, block, choose, choose_one, do_while, guard, call, Branch, done, then, Branches, none, beside, ModuleTree}
use Rattle.quartz_tree.specs.Tree.{Tree}
use Rattle.quartz_tree.specs.Expand.{expanded}
use Rattle.quartz_names.specs.Scopes.{Scope, declared, number_in}
use Rattle.quartz_names.specs.Numbering.{renamed, locals, locals_of_branch}
use Rattle.quartz_names.specs.Resolving.{body_scope, resolved_vars}
use Rattle.framed_terms.specs.Framed.{Framed, FramedList, Meaning, Meanings}
use Rattle.framed_terms.specs.Framed as framed
use Rattle.linked_trees.specs.Naming.{module_named}

-- a scope around a term for each of so many variables from n on, the first outermost
abbrev pub around : (n count : ℕ) → Framed → Framed
around n zero t = t
around n (suc count) t = framed.scope n None (around (n + 1) count t)

-- the branches of a block: one alone, or several in parallel
abbrev pub joined : FramedList → Framed
joined (framed.part t framed.none) = t
joined ts = framed.par ts

abbrev pub guarded : (is_abort weak immediate : Bool) → Framed → Tree ℕ → Framed
guarded true weak immediate t c = framed.abort weak immediate t c
guarded false weak immediate t c = framed.suspend weak immediate t c

abbrev pub numbers_of : Scope → List Arg → List ℕ
numbers_of sc args = map (λ (a : Arg). number_in sc a.name) args

-- the term, where names stand for what the scope says and the first local has the number n; the
-- statements here have their derived forms replaced
abbrev mutual
  pub framed_as : Scope → ℕ → Written → Framed
  framed_as sc n pause = framed.pause
  framed_as sc n (write delayed g e p) = framed.write (number_in sc g.name) (option_map (renamed sc) g.index) (renamed sc e) delayed p g.place
  framed_as sc n (block ds bs) = around n (length ds) (joined (framed_branches (declared sc n ds) (n + length ds) bs))
  framed_as sc n (choose c a b) = framed.choose (renamed sc c) (framed_as sc n a) (framed_as sc (n + length (locals a)) b)
  framed_as sc n (choose_one c a) = framed.choose (renamed sc c) (framed_as sc n a) framed.nothing
  framed_as sc n (do_while s c p) = framed.loop (framed_as sc n s) (renamed sc c)
  framed_as sc n (guard abort weak immediate s c) = guarded abort weak immediate (framed_as sc n s) (renamed sc c)
  framed_as sc n (call m args p) = framed.call m (numbers_of sc args)
  framed_as sc n _ = framed.nothing

  pub framed_branch : Scope → ℕ → Branch → FramedList
  framed_branch sc n done = framed.none
  framed_branch sc n (then s rest) = framed.part (framed_as sc n s) (framed_branch sc (n + length (locals s)) rest)

  pub framed_branches : Scope → ℕ → Branches → FramedList
  framed_branches sc n none = framed.none
  framed_branches sc n (beside b rest) = framed.part (framed.seq (framed_branch sc n b)) (framed_branches sc (n + length (locals_of_branch b)) rest)

-- what a module means
abbrev pub meaning_of : ModuleTree → Meaning
meaning_of m = record { vars = resolved_vars m; body = framed_as (body_scope m) (length m.params) (expanded m.body) }

abbrev pub meaning_if : Option ModuleTree → Meaning
meaning_if None = record { vars = []; body = framed.nothing }
meaning_if (Some m) = meaning_of m

abbrev pub meanings_of : List ModuleTree → Meanings
meanings_of ms = λ x. meaning_if (module_named ms x)
