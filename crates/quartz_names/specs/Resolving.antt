-- A module whose names are numbers: parameters in order, then locals in textual order.
use Rattle.std.specs.Prelude.{ℕ, ◌+◌, Bool, true, false, ◌||◌, List, [], ◌∷◌, ◌++◌, length}
use Rattle.quartz_tree.specs.declared.declare.Decl.{Decl}
use Rattle.quartz_tree.specs.declared.declare.Var.{Var}
use Rattle.quartz_tree.specs.declared.place.Place.{Place}
use Rattle.quartz_tree.specs.Kernel.{Kernel}
use Rattle.quartz_tree.specs.Surfaces.{Written, empty, pause, halt, await, emit, write, block, choose, choose_one, loop, always, while, do_while, guard, call, Branch, done, then, Branches, none, beside, ModuleTree}
use Rattle.quartz_tree.specs.Expand.{expanded}
use Rattle.quartz_names.specs.Scopes.{Scope, no_names, declared}
use Rattle.quartz_names.specs.Numbering.{locals, numbered}
use Rattle.quartz_names.specs.NameRules.{repeated, name_breaks}
use Rattle.quartz_names.specs.Starts.{start_value}
use Rattle.quartz_names.specs.Targets.{is_among, next_targets}

-- a call of a module stands in the statement
abbrev mutual
  pub has_call : Written → Bool
  has_call empty = false
  has_call pause = false
  has_call (halt _) = false
  has_call (await _ _ _) = false
  has_call (emit _ _ _) = false
  has_call (write _ _ _ _) = false
  has_call (block _ bs) = have_call bs
  has_call (choose _ a b) = has_call a || has_call b
  has_call (choose_one _ a) = has_call a
  has_call (loop s _) = has_call s
  has_call (always s _) = has_call s
  has_call (while _ s _) = has_call s
  has_call (do_while s _ _) = has_call s
  has_call (guard _ _ _ s _) = has_call s
  has_call (call _ _ _) = true

  pub branch_has_call : Branch → Bool
  branch_has_call done = false
  branch_has_call (then s rest) = has_call s || branch_has_call rest

  pub have_call : Branches → Bool
  have_call none = false
  have_call (beside b rest) = branch_has_call b || have_call rest

-- the scope of a module's body
abbrev pub body_scope : ModuleTree → Scope
body_scope m = declared no_names 0 m.params

-- the body over numbers, with its derived forms replaced
abbrev pub resolved_body : ModuleTree → Kernel
resolved_body m = numbered (body_scope m) (length m.params) (expanded m.body)

-- the declarations by number
abbrev pub declarations : ModuleTree → List Decl
declarations m = m.params ++ locals (expanded m.body)

-- the variables of these declarations, numbered from n on, of a body with these targets of `next`
abbrev pub variables_from : List ℕ → ℕ → List Decl → List Var
variables_from targets n [] = []
variables_from targets n (d ∷ ds) = record { decl = d; delayed = is_among targets n; start = start_value d } ∷ variables_from targets (n + 1) ds

abbrev pub resolved_vars : ModuleTree → List Var
resolved_vars m = variables_from (next_targets (resolved_body m)) 0 (declarations m)

-- where a module breaks the rule of names
abbrev pub module_name_breaks : ModuleTree → List Place
module_name_breaks m = repeated m.params ++ name_breaks (body_scope m) (length m.params) (expanded m.body)
