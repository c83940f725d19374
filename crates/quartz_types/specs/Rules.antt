-- Where the variables and the body of a module break the static rules of kinds, of bounds, of inputs
-- and of loops, and which of these rules is the first that is broken.
use Rattle.std.specs.Prelude.{ℕ, Bool, true, false, not, List, [], ◌∷◌, ◌++◌, Option, Some, None, slice_get}
use Rattle.quartz_tree.specs.declared.declare.Flow.{Flow}
use Rattle.quartz_tree.specs.declared.declare.Flow.TheVariants.{Input, Output, Inner}
use Rattle.quartz_tree.specs.declared.declare.Init.{Init}
use Rattle.quartz_tree.specs.declared.declare.Ty.{Ty}
use Rattle.quartz_tree.specs.declared.place.Place.{Place}
use Rattle.quartz_tree.specs.Kernel.{Kernel, nothing, pause, write, choose, seq, par, loop, guard, local, Kernels, none, part}
use Rattle.quartz_tree.specs.Tree.{Tree, named, element, place_of}
use Rattle.quartz_tree.specs.Least.{least_place}
use Rattle.quartz_expr.specs.declared.kind.ExprKind.{ExprKind as Kind}
use Rattle.quartz_expr.specs.Vars.{Vars, is_array, read}
use Rattle.quartz_expr.specs.Kinds.{is_boolean, is_index, kind, kind_breaks, place_if, same_kind}
use Rattle.quartz_expr.specs.Intervals.{bound_breaks, type_breaks}
use Rattle.quartz_expr.specs.Terms.{is_instant, term_of}
use Rattle.quartz_names.specs.Starts.{has_kind_of, is_within}

-- ---- kinds

-- two kinds differ; a part without a kind is reported by itself
abbrev pub differ : Option Kind → Option Kind → Bool
differ None k = false
differ (Some j) None = false
differ (Some j) (Some k) = not (same_kind j k)

-- a condition has the kind Bool
abbrev pub is_condition : Option Kind → Bool
is_condition None = true
is_condition (Some k) = is_boolean k

abbrev pub condition_kind_breaks : Vars → Tree ℕ → List Place
condition_kind_breaks vs c = kind_breaks vs c ++ place_if (not (is_condition (kind vs c))) (place_of c)

-- the kind of what is written: a scalar, or the element with an index that is a number
abbrev pub target_kind : Vars → (var : ℕ) → (index : Option (Tree ℕ)) → Place → Option Kind
target_kind vs x None q = kind vs (named x q)
target_kind vs x (Some i) q = kind vs (element x i q)

-- an array without an index or a scalar with one, at the name; an index that is no number, at the index
abbrev pub target_kind_breaks : Vars → (var : ℕ) → (index : Option (Tree ℕ)) → Place → List Place
target_kind_breaks vs x None q = place_if (is_array vs x) q
target_kind_breaks vs x (Some i) q = place_if (not (is_array vs x)) q ++ (kind_breaks vs i ++ place_if (not (is_index (kind vs i))) (place_of i))

-- a write whose value and target both have a kind, and these differ, at the write
abbrev pub write_kind_breaks : Vars → (var : ℕ) → (index : Option (Tree ℕ)) → (value : Tree ℕ) → (place target_place : Place) → List Place
write_kind_breaks vs x i e p q = target_kind_breaks vs x i q ++ (kind_breaks vs e ++ place_if (differ (target_kind vs x i q) (kind vs e)) p)

abbrev mutual
  pub stmt_kind_breaks : Vars → Kernel → List Place
  stmt_kind_breaks vs nothing = []
  stmt_kind_breaks vs pause = []
  stmt_kind_breaks vs (write x i e _ p q) = write_kind_breaks vs x i e p q
  stmt_kind_breaks vs (choose c a b) = condition_kind_breaks vs c ++ (stmt_kind_breaks vs a ++ stmt_kind_breaks vs b)
  stmt_kind_breaks vs (seq ks) = stmts_kind_breaks vs ks
  stmt_kind_breaks vs (par ks) = stmts_kind_breaks vs ks
  stmt_kind_breaks vs (loop k c _) = stmt_kind_breaks vs k ++ condition_kind_breaks vs c
  stmt_kind_breaks vs (guard _ _ _ k c) = stmt_kind_breaks vs k ++ condition_kind_breaks vs c
  stmt_kind_breaks vs (local _ k) = stmt_kind_breaks vs k

  pub stmts_kind_breaks : Vars → Kernels → List Place
  stmts_kind_breaks vs none = []
  stmts_kind_breaks vs (part k ks) = stmt_kind_breaks vs k ++ stmts_kind_breaks vs ks

-- a constant has the kind of the declared element
abbrev pub init_kind_breaks : Ty → Option Init → List Place
init_kind_breaks t None = []
init_kind_breaks t (Some i) = place_if (not (has_kind_of t i.value)) i.place

abbrev pub constant_kind_breaks : Vars → List Place
constant_kind_breaks [] = []
constant_kind_breaks (v ∷ vs) = init_kind_breaks v.decl.ty v.decl.init ++ constant_kind_breaks vs

-- ---- bounds of declarations

-- a constant keeps its own bounds and lies in the range of its type
abbrev pub init_bound_breaks : Ty → Option Init → List Place
init_bound_breaks t None = []
init_bound_breaks t (Some i) = place_if (not (is_within t i.value)) i.place

abbrev pub declared_bound_breaks : Vars → List Place
declared_bound_breaks [] = []
declared_bound_breaks (v ∷ vs) = (type_breaks v.decl ++ init_bound_breaks v.decl.ty v.decl.init) ++ declared_bound_breaks vs

-- ---- inputs

abbrev pub is_input : Flow → Bool
is_input Input = true
is_input Output = false
is_input Inner = false

abbrev pub flow_of : Vars → ℕ → Flow
flow_of vs x = read Inner (λ v. v.decl.flow) (slice_get vs x)

-- the writes of inputs
abbrev mutual
  pub input_writes : Vars → Kernel → List Place
  input_writes vs nothing = []
  input_writes vs pause = []
  input_writes vs (write x _ _ _ p _) = place_if (is_input (flow_of vs x)) p
  input_writes vs (choose _ a b) = input_writes vs a ++ input_writes vs b
  input_writes vs (seq ks) = all_input_writes vs ks
  input_writes vs (par ks) = all_input_writes vs ks
  input_writes vs (loop k _ _) = input_writes vs k
  input_writes vs (guard _ _ _ k _) = input_writes vs k
  input_writes vs (local _ k) = input_writes vs k

  pub all_input_writes : Vars → Kernels → List Place
  all_input_writes vs none = []
  all_input_writes vs (part k ks) = input_writes vs k ++ all_input_writes vs ks

-- ---- loops

-- the loops whose body may end in the macro step in which it starts
abbrev mutual
  pub instant_loops : Kernel → List Place
  instant_loops nothing = []
  instant_loops pause = []
  instant_loops (write _ _ _ _ _ _) = []
  instant_loops (choose _ a b) = instant_loops a ++ instant_loops b
  instant_loops (seq ks) = all_instant_loops ks
  instant_loops (par ks) = all_instant_loops ks
  instant_loops (loop k _ p) = place_if (is_instant (term_of k)) p ++ instant_loops k
  instant_loops (guard _ _ _ k _) = instant_loops k
  instant_loops (local _ k) = instant_loops k

  pub all_instant_loops : Kernels → List Place
  all_instant_loops none = []
  all_instant_loops (part k ks) = instant_loops k ++ all_instant_loops ks

-- ---- bounds of statements

-- where an index breaks a bound
abbrev pub index_bound_breaks : Vars → Option (Tree ℕ) → List Place
index_bound_breaks vs None = []
index_bound_breaks vs (Some i) = bound_breaks vs i

-- where a write's index or value breaks a bound
abbrev pub write_bound_breaks : Vars → (index : Option (Tree ℕ)) → (value : Tree ℕ) → List Place
write_bound_breaks vs i e = index_bound_breaks vs i ++ bound_breaks vs e

abbrev mutual
  pub stmt_bound_breaks : Vars → Kernel → List Place
  stmt_bound_breaks vs nothing = []
  stmt_bound_breaks vs pause = []
  stmt_bound_breaks vs (write _ i e _ _ _) = write_bound_breaks vs i e
  stmt_bound_breaks vs (choose c a b) = bound_breaks vs c ++ (stmt_bound_breaks vs a ++ stmt_bound_breaks vs b)
  stmt_bound_breaks vs (seq ks) = stmts_bound_breaks vs ks
  stmt_bound_breaks vs (par ks) = stmts_bound_breaks vs ks
  stmt_bound_breaks vs (loop k c _) = stmt_bound_breaks vs k ++ bound_breaks vs c
  stmt_bound_breaks vs (guard _ _ _ k c) = stmt_bound_breaks vs k ++ bound_breaks vs c
  stmt_bound_breaks vs (local _ k) = stmt_bound_breaks vs k

  pub stmts_bound_breaks : Vars → Kernels → List Place
  stmts_bound_breaks vs none = []
  stmts_bound_breaks vs (part k ks) = stmt_bound_breaks vs k ++ stmts_bound_breaks vs ks

-- ---- whole modules

-- where constants, and then the body's expressions, conditions and writes, break the rule of kinds
abbrev pub module_kind_breaks : Vars → Kernel → List Place
module_kind_breaks vs k = constant_kind_breaks vs ++ stmt_kind_breaks vs k

-- where declarations, and then the body's expressions, break the rule of bounds
abbrev pub module_bound_breaks : Vars → Kernel → List Place
module_bound_breaks vs k = declared_bound_breaks vs ++ stmt_bound_breaks vs k

-- a rule that is broken at that place, before those that come later
abbrev pub with_rule : ℕ → Option Place → Option (ℕ × Place) → Option (ℕ × Place)
with_rule r (Some p) later = Some (r, p)
with_rule r None later = later

-- the first of the rules S4 to S7 that is broken, at the least of its places
abbrev pub first_break : Vars → Kernel → Option (ℕ × Place)
first_break vs k =
    with_rule 4 (least_place (module_kind_breaks vs k)) (with_rule 5 (least_place (module_bound_breaks vs k))
    (with_rule 6 (least_place (input_writes vs k)) (with_rule 7 (least_place (instant_loops k)) None)))
