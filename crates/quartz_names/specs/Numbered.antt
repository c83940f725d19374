-- What holds of a module whose names are numbers.
use Rattle.std.specs.Prelude.{◌≡◌, ℕ, ◌<◌, ◌^◌, Bool, true, false, ◌&&◌, nat_lt, List, [], ◌∷◌, length, slice_get, Option, Some, None}
use Rattle.quartz_tree.specs.declared.declare.Var.{Var}
use Rattle.quartz_tree.specs.declared.surface.Module.{Module}
use Rattle.quartz_tree.specs.Kernel.{Kernel, kernel, nothing, pause, write, choose, seq, par, loop, guard, local, Kernels, none, part}
use Rattle.quartz_tree.specs.Tree.{Tree}
use Rattle.quartz_expr.specs.Typed.{is_over}
use Rattle.quartz_expr.specs.Intervals.{is_in, type_interval}
use Rattle.quartz_expr.specs.Vars.{read}
use Rattle.quartz_tree.specs.Least.{least_place}
use Rattle.quartz_tree.specs.Surfaces.{module_tree, written}
use Rattle.quartz_names.specs.declared.resolving.Resolved.{Resolved}
use Rattle.quartz_names.specs.Resolving.{has_call, module_name_breaks, resolved_body, resolved_vars}
use Rattle.quartz_names.specs.Targets.{next_targets}

-- an index, if there is one, names one of so many variables
abbrev pub index_is_over : ℕ → Option (Tree ℕ) → Bool
index_is_over n None = true
index_is_over n (Some i) = is_over n i

-- each variable that a statement names is one of so many
abbrev mutual
  pub stmt_is_over : ℕ → Kernel → Bool
  stmt_is_over n nothing = true
  stmt_is_over n pause = true
  stmt_is_over n (write x i e _ _ _) = nat_lt x n && (index_is_over n i && is_over n e)
  stmt_is_over n (choose c a b) = is_over n c && (stmt_is_over n a && stmt_is_over n b)
  stmt_is_over n (seq ks) = stmts_are_over n ks
  stmt_is_over n (par ks) = stmts_are_over n ks
  stmt_is_over n (loop k c _) = stmt_is_over n k && is_over n c
  stmt_is_over n (guard _ _ _ k c) = stmt_is_over n k && is_over n c
  stmt_is_over n (local x k) = nat_lt x n && stmt_is_over n k

  pub stmts_are_over : ℕ → Kernels → Bool
  stmts_are_over n none = true
  stmts_are_over n (part k ks) = stmt_is_over n k && stmts_are_over n ks

-- each start value lies in the range of its type
abbrev pub starts_lie : List Var → Bool
starts_lie [] = true
starts_lie (v ∷ vs) = is_in (type_interval v.decl.ty) v.start && starts_lie vs

-- some `next` targets the variable, as it says itself
abbrev pub is_marked : List Var → ℕ → Bool
is_marked vs x = read false (λ v. v.delayed) (slice_get vs x)

abbrev pub are_marked : List Var → List ℕ → Bool
are_marked vs [] = true
are_marked vs (x ∷ xs) = is_marked vs x && are_marked vs xs

-- fewer than 2^32 variables, whose start values lie in their ranges, and a body that names variables alone and whose
-- delayed writes have targets that say so
abbrev pub is_numbered : List Var → Kernel → Bool
is_numbered vs k = nat_lt (length vs) (2 ^ 32) && (starts_lie vs && (stmt_is_over (length vs) k && are_marked vs (next_targets k)))

-- what resolving gives for a module without calls that keeps the rule of names: its name, its variables, fewer than 2^32, and
-- its body
pub record Resolves (source : Module) (r : Resolved) : Type 0 where
  pub uncalled : has_call (written source.body) ≡ false
  pub unbroken : least_place (module_name_breaks (module_tree source)) ≡ None
  pub name : r.name ≡ source.name
  pub vars : r.vars ≡ resolved_vars (module_tree source)
  pub body : kernel r.body ≡ resolved_body (module_tree source)
  pub few : length r.vars < 2 ^ 32

-- there is a module for which resolving gives this
abbrev pub IsResolved : Resolved → Type 0
IsResolved r = ∥ ((source : Module) × Resolves source r) ∥₁
