-- The calls of a module, in textual order, each as it stands.
use Rattle.std.specs.Prelude.{◌≡◌, List, [], ◌∷◌, ◌++◌, Contains, Some}
use Rattle.quartz_tree.specs.declared.surface.Arg.{Arg}
use Rattle.quartz_tree.specs.declared.place.Place.{Place}
use Rattle.quartz_tree.specs.Surfaces.{Word, Written, block, choose, choose_one, loop, always, while, do_while, guard, call, Branch, done, then, Branches, none, beside, ModuleTree}
use Rattle.linked_trees.specs.Naming.{module_named}
use Rattle.call_rules.specs.Around.{Declared, declaring, nothing_declared}

-- what a call names, its arguments, its place, and what is declared there
pub record Site : Type 0 where
  pub name : Word
  pub args : List Arg
  pub place : Place
  pub around : Declared

abbrev mutual
  pub sites : Declared → Written → List Site
  sites sc (block ds bs) = sites_of_branches (declaring sc ds) bs
  sites sc (choose _ a b) = sites sc a ++ sites sc b
  sites sc (choose_one _ a) = sites sc a
  sites sc (loop s _) = sites sc s
  sites sc (always s _) = sites sc s
  sites sc (while _ s _) = sites sc s
  sites sc (do_while s _ _) = sites sc s
  sites sc (guard _ _ _ s _) = sites sc s
  sites sc (call m args p) = record { name = m; args = args; place = p; around = sc } ∷ []
  sites sc _ = []

  pub sites_of_branch : Declared → Branch → List Site
  sites_of_branch sc done = []
  sites_of_branch sc (then s rest) = sites sc s ++ sites_of_branch sc rest

  pub sites_of_branches : Declared → Branches → List Site
  sites_of_branches sc none = []
  sites_of_branches sc (beside b rest) = sites_of_branch sc b ++ sites_of_branches sc rest

abbrev pub sites_in : ModuleTree → List Site
sites_in m = sites (declaring nothing_declared m.params) m.body

-- a call at that place in the module of one name, of the module of another
pub record IsCallAt (ms : List ModuleTree) (caller called : Word) (p : Place) : Type 0 where
  pub tree : ModuleTree
  pub found : module_named ms caller ≡ Some tree
  pub site : Site
  pub among : Contains (sites_in tree) site
  pub name : site.name ≡ called
  pub place : site.place ≡ p

-- one module reaches another by any number of calls, none too
pub data Reach (ms : List ModuleTree) : (from to : Word) → Type 0 where
  itself : (x : Word) → Reach ms x x
  over : (x y z : Word) (p : Place) → IsCallAt ms x y p → Reach ms y z → Reach ms x z
