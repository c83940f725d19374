-- What a walk through a statement does: it numbers, collects declarations, and keeps the least
-- place at which the rule of names is broken.
use Rattle.std.specs.Prelude.{◌≡◌, ℕ, ◌+◌, List, [], ◌∷◌, ◌++◌, length, Option, Some, None}
use Rattle.quartz_tree.specs.declared.declare.Decl.{Decl}
use Rattle.quartz_tree.specs.declared.place.Place.{Place}
use Rattle.quartz_tree.specs.Kernel.{Kernel, kernels}
use Rattle.quartz_tree.specs.Least.{least_place, lesser_place}
use Rattle.quartz_tree.specs.Surfaces.{Word, Written, Branch, Branches}
use Rattle.quartz_names.specs.declared.names.Names.{Names}
use Rattle.quartz_names.specs.declared.walk.Walk.{Walk}
use Rattle.quartz_names.specs.declared.walk.Hidden.{Hidden}
use Rattle.quartz_names.specs.Scopes.{Scope, standing}
use Rattle.quartz_names.specs.Numbering.{locals, locals_of_branch, locals_of_branches, numbered, numbered_branch, numbered_branches}
use Rattle.quartz_names.specs.NameRules.{name_breaks, name_breaks_in_branch, name_breaks_in_branches}
use Rattle.indexmap.specs.IndexMap.{get_by_text}

-- an entry with nothing in it is none
abbrev pub flat : Option (Option ℕ) → Option ℕ
flat None = None
flat (Some n) = n

-- what the names of a table stand for
abbrev pub scope_of : Names → Scope
scope_of ns = λ q. flat (get_by_text ns.numbers q)

abbrev pub scope_in : Walk → Scope
scope_in w = scope_of w.names

-- how many variables were declared before
abbrev pub count_in : Walk → ℕ
count_in w = length w.decls

-- nothing but the least broken place changes, to which these are added
pub record Notes (before after : Walk) (ps : List Place) : Type 0 where
  pub names : scope_in after ≡ scope_in before
  pub decls : after.decls ≡ before.decls
  pub broken : after.broken ≡ lesser_place before.broken (least_place ps)

-- a walk through a statement gives its kernel statement, and leaves the scope as it was
pub record Walks (before after : Walk) (w : Written) (k : Kernel) : Type 0 where
  pub body : k ≡ numbered (scope_in before) (count_in before) w
  pub names : scope_in after ≡ scope_in before
  pub decls : after.decls ≡ before.decls ++ locals w
  pub broken : after.broken ≡ lesser_place before.broken (least_place (name_breaks (scope_in before) (count_in before) w))

-- the same for the statements of a branch, and for branches
pub record WalksBranch (before after : Walk) (b : Branch) (ks : List Kernel) : Type 0 where
  pub body : kernels ks ≡ numbered_branch (scope_in before) (count_in before) b
  pub names : scope_in after ≡ scope_in before
  pub decls : after.decls ≡ before.decls ++ locals_of_branch b
  pub broken : after.broken ≡ lesser_place before.broken (least_place (name_breaks_in_branch (scope_in before) (count_in before) b))

pub record WalksBranches (before after : Walk) (bs : Branches) (ks : List Kernel) : Type 0 where
  pub body : kernels ks ≡ numbered_branches (scope_in before) (count_in before) bs
  pub names : scope_in after ≡ scope_in before
  pub decls : after.decls ≡ before.decls ++ locals_of_branches bs
  pub broken : after.broken ≡ lesser_place before.broken (least_place (name_breaks_in_branches (scope_in before) (count_in before) bs))

-- the scope with hidden names put back, the last one first
abbrev pub restored : Scope → List Hidden → Scope
restored sc [] = sc
restored sc (h ∷ hs) = standing (restored sc hs) h.name h.number

-- what the names of declarations stood for before them, where they are numbered from n on
abbrev pub hidden_by : Scope → ℕ → List Decl → List Hidden
hidden_by sc n [] = []
hidden_by sc n (d ∷ ds) = record { name = d.name; number = sc d.name } ∷ hidden_by (standing sc d.name (Some n)) (n + 1) ds
