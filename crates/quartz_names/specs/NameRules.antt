-- Where the rule of names is broken: a name is used that stands for no variable, or is declared
-- twice in one parameter list or one block's head.
use Rattle.std.specs.Prelude.{ℕ, ◌+◌, Bool, false, ◌||◌, List, [], ◌∷◌, ◌++◌, length, Option, Some, None, is_none}
use Rattle.std.specs.Str.{bytes_eq}
use Rattle.quartz_tree.specs.declared.declare.Decl.{Decl}
use Rattle.quartz_tree.specs.declared.place.Place.{Place}
use Rattle.quartz_tree.specs.Surfaces.{Word, Goal, Written, write, block, choose, choose_one, do_while, guard, Branch, done, then, Branches, none, beside}
use Rattle.quartz_tree.specs.Tree.{Tree, truth, number, bits, named, element, one, two, choice, slice, to_nat, to_bv, paren}
use Rattle.quartz_expr.specs.Kinds.{place_if}
use Rattle.quartz_names.specs.Scopes.{Scope, declared}
use Rattle.quartz_names.specs.Numbering.{locals, locals_of_branch}

-- the use of a name, where it stands for no variable
abbrev pub undeclared_at : Scope → Word → Place → List Place
undeclared_at sc x p = place_if (is_none (sc x)) p

-- the uses in an expression of names that stand for no variable
abbrev pub undeclared : Scope → Tree Word → List Place
undeclared sc (truth _ _) = []
undeclared sc (number _ _) = []
undeclared sc (bits _ _ _) = []
undeclared sc (named x p) = undeclared_at sc x p
undeclared sc (element x i p) = undeclared_at sc x p ++ undeclared sc i
undeclared sc (one _ a _) = undeclared sc a
undeclared sc (two _ a b _) = undeclared sc a ++ undeclared sc b
undeclared sc (choice c a b _) = undeclared sc c ++ (undeclared sc a ++ undeclared sc b)
undeclared sc (slice a _ _ _) = undeclared sc a
undeclared sc (to_nat a _) = undeclared sc a
undeclared sc (to_bv a _ _ _) = undeclared sc a
undeclared sc (paren a _) = undeclared sc a

abbrev pub undeclared_in_index : Scope → Option (Tree Word) → List Place
undeclared_in_index sc None = []
undeclared_in_index sc (Some i) = undeclared sc i

abbrev pub undeclared_in_goal : Scope → Goal → List Place
undeclared_in_goal sc g = undeclared_at sc g.name g.place ++ undeclared_in_index sc g.index

-- the declarations of one list whose name has stood in it before
abbrev pub repeated_after : (Word → Bool) → List Decl → List Place
repeated_after seen [] = []
repeated_after seen (d ∷ ds) = place_if (seen d.name) d.place ++ repeated_after (λ y. bytes_eq d.name y || seen y) ds

abbrev pub repeated : List Decl → List Place
repeated ds = repeated_after (λ _. false) ds

-- where a statement breaks the rule, in a scope and with the number n for its first local
abbrev mutual
  pub name_breaks : Scope → ℕ → Written → List Place
  name_breaks sc n (write _ g e _) = undeclared_in_goal sc g ++ undeclared sc e
  name_breaks sc n (block ds bs) = repeated ds ++ name_breaks_in_branches (declared sc n ds) (n + length ds) bs
  name_breaks sc n (choose c a b) = undeclared sc c ++ (name_breaks sc n a ++ name_breaks sc (n + length (locals a)) b)
  name_breaks sc n (choose_one c a) = undeclared sc c ++ name_breaks sc n a
  name_breaks sc n (do_while s c _) = name_breaks sc n s ++ undeclared sc c
  name_breaks sc n (guard _ _ _ s c) = name_breaks sc n s ++ undeclared sc c
  name_breaks sc n _ = []

  pub name_breaks_in_branch : Scope → ℕ → Branch → List Place
  name_breaks_in_branch sc n done = []
  name_breaks_in_branch sc n (then s rest) = name_breaks sc n s ++ name_breaks_in_branch sc (n + length (locals s)) rest

  pub name_breaks_in_branches : Scope → ℕ → Branches → List Place
  name_breaks_in_branches sc n none = []
  name_breaks_in_branches sc n (beside b rest) = name_breaks_in_branch sc n b ++ name_breaks_in_branches sc (n + length (locals_of_branch b)) rest
