-- A walk through a term with a list of values for the scopes: the reaction that it finds, unless the list is too short.
use Rattle.std.specs.Prelude.{ℕ, not, ◌&&◌, ℤ, Bool, true, false, nat_le, List, [], ◌++◌, length, take, drop, map, Option, Some, None, option_map, slice_set, if◌then◌else◌}
use Rattle.std.specs.Option.{option_and_then}
use Rattle.quartz_tree.specs.declared.fault.Fault.{Fault}
use Rattle.quartz_tree.specs.Tree.{Tree}
use Rattle.quartz_expr.specs.Values.{Values, is_zero}
use Rattle.quartz_expr.specs.Vars.{Vars, storage_of}
use Rattle.quartz_expr.specs.Value.{value}
use Rattle.quartz_expr.specs.Faults.{faults}
use Rattle.quartz_expr.specs.Writes.{in_range, write_acts, write_faults}
use Rattle.quartz_expr.specs.Terms.{Store, Term, nothing, pause, write, choose, seq, par, loop, abort, suspend, scope, guard_of, Terms, none, part}
use Rattle.quartz_expr.specs.Tick.{tick}
use Rattle.quartz_expr.specs.React.{Reaction, Reactions, sequence, ends, after_faults, formed, stays, rests, goes_on, beside, together, store_of, meetings, scoped}
use Rattle.quartz_expr.specs.Resolve.{resolved_store, values_of}

-- the reaction, and the values that are left behind it
pub record Walk : Type 0 where
  pub reaction : Reaction
  pub rest : List ℤ

-- the same of the parts of a parallel
pub record Walks : Type 0 where
  pub reactions : Reactions
  pub rest : List ℤ

abbrev pub on_reaction : (Reaction → Reaction) → Walk → Walk
on_reaction f w = record { reaction = f w.reaction; rest = w.rest }

abbrev pub before_walks : Reaction → Walks → Walks
before_walks q p = record { reactions = beside q p.reactions; rest = p.rest }

abbrev pub together_walk : Walks → Walk
together_walk p = record { reaction = together p.reactions; rest = p.rest }

abbrev pub found : List ℤ → Reaction → Option Walk
found xs q = Some (record { reaction = q; rest = xs })

-- a condition's faults come first, and the term is held as it is
abbrev pub chosen : List Fault → Term → Reaction → Reaction
chosen fs t q = after_faults fs (record q { held = t })

-- control stops in the first part of a sequence
abbrev pub stopped : Terms → Reaction → Reaction
stopped ts q = record q { residual = sequence q.residual ts; held = seq (part q.held ts) }

-- behind the body of a loop its condition is tested, and the loop starts again
abbrev pub again : Term → Tree ℕ → Terms
again t c = part (choose c (loop t c) nothing) none

abbrev pub looped : Term → Tree ℕ → Reaction → Reaction
looped t c q = record (stopped (again t c) q) { held = loop t c }

-- a guard in the step in which it starts
abbrev pub delayed_guard : (is_abort weak : Bool) → Term → Tree ℕ → Reaction → Reaction
delayed_guard a w t c q = record (formed (λ u. guard_of a w true u c) q) { held = guard_of a w false t c }

-- an immediate guard whose condition fails
abbrev pub spared_guard : (is_abort weak : Bool) → Tree ℕ → List Fault → Reaction → Reaction
spared_guard a w c fs q = after_faults fs (formed (λ u. guard_of a w true u c) q)

-- a strong guard whose condition holds, around an advanced body
abbrev pub strong_guard : (is_abort : Bool) → Term → Tree ℕ → List Fault → Reaction
strong_guard true u c fs = ends [] fs (abort false true u c)
strong_guard false u c fs = rests (suspend false true u c) fs

-- a weak guard whose condition holds
abbrev pub weak_guard : (is_abort : Bool) → Tree ℕ → List Fault → Reaction → Reaction
weak_guard true c fs q = after_faults fs (record q { residual = nothing; held = abort true true q.held c; ended = true })
weak_guard false c fs q = after_faults fs (stays (suspend true true q.held c) q)

-- a guard that is strong and immediate stops its body where the condition holds
abbrev pub stops_body : (weak immediate fails : Bool) → Bool
stops_body weak immediate fails = immediate && (not weak && not fails)

-- an immediate guard around what its body does, by whether the condition fails
abbrev pub tested_guard : (is_abort weak fails : Bool) → Tree ℕ → List Fault → Reaction → Reaction
tested_guard a w true c fs q = spared_guard a w c fs q
tested_guard a w false c fs q = weak_guard a c fs q

-- a guard around what its body does
abbrev pub guarded : Vars → Values → (is_abort weak immediate : Bool) → Term → Tree ℕ → Reaction → Reaction
guarded vs env a w false t c q = delayed_guard a w t c q
guarded vs env a w true t c q = tested_guard a w (is_zero (value vs env c)) c (faults vs env c) q

abbrev pub guard_on : Vars → Values → (is_abort weak immediate : Bool) → Term → Tree ℕ → List ℤ → Option Walk → Option Walk
guard_on vs env a w i t c xs walked =
    if stops_body w i (is_zero (value vs env c)) then found xs (strong_guard a (tick vs t) c (faults vs env c))
    else option_map (on_reaction (guarded vs env a w i t c)) walked

-- how many values a scope takes
abbrev pub taken_by : Vars → (var : ℕ) → Option Store → ℕ
taken_by vs x s = length (store_of vs x s)

-- what is read of the given values of a variable: one that is out of its range is read as 0
abbrev pub read_as : Vars → (var : ℕ) → List ℤ → List ℤ
read_as vs x v = map (in_range vs x) v

-- a scope around a body that reacts with what is read of these given values
abbrev pub entered : Vars → (var : ℕ) → Option Store → Term → (given : List ℤ) → Reaction → Reaction
entered vs x s t v q = record (scoped vs x s t (read_as vs x v) q) {
  met = meetings x v (values_of (resolved_store (storage_of vs x) x q.acts 0 (store_of vs x s))) ++ q.met;
}

-- the rest of a sequence goes on where its first part ended
abbrev pub turned : Terms → Reaction → List ℤ → Option Walk → Option Walk
turned ts q xs w = if q.ended then option_map (on_reaction (goes_on ts q)) w else found xs (stopped ts q)

abbrev mutual
  pub walk : Vars → Values → Term → List ℤ → Option Walk
  walk vs env nothing xs = found xs (ends [] [] nothing)
  walk vs env pause xs = found xs (record { residual = nothing; held = pause; acts = []; faults = []; met = []; ended = false })
  walk vs env (write x i e d p q) xs = found xs (ends (write_acts vs env x i e d) (write_faults vs env x i e p q) (write x i e d p q))
  walk vs env (choose c a b) xs = option_map (on_reaction (chosen (faults vs env c) (choose c a b))) (if is_zero (value vs env c) then walk vs env b xs else walk vs env a xs)
  walk vs env (seq ts) xs = walk_all vs env ts xs
  walk vs env (par ts) xs = option_map together_walk (walk_each vs env ts xs)
  walk vs env (loop t c) xs = option_map (on_reaction (looped t c)) (walk vs env t xs)
  walk vs env (abort weak immediate t c) xs = guard_on vs env true weak immediate t c xs (walk vs env t xs)
  walk vs env (suspend weak immediate t c) xs = guard_on vs env false weak immediate t c xs (walk vs env t xs)
  walk vs env (scope x s t) xs =
      if nat_le (taken_by vs x s) (length xs)
      then option_map (on_reaction (entered vs x s t (take (taken_by vs x s) xs)))
      (walk vs (slice_set env x (read_as vs x (take (taken_by vs x s) xs))) t (drop (taken_by vs x s) xs))
      else None

  -- the parts of a sequence
  pub walk_all : Vars → Values → Terms → List ℤ → Option Walk
  walk_all vs env none xs = found xs (ends [] [] (seq none))
  walk_all vs env (part t ts) xs = option_and_then (λ w. turned ts w.reaction w.rest (walk_all vs env ts w.rest)) (walk vs env t xs)

  -- the parts of a parallel
  pub walk_each : Vars → Values → Terms → List ℤ → Option Walks
  walk_each vs env none xs = Some (record { reactions = record { residuals = none; helds = none; acts = []; faults = []; met = []; ended = true }; rest = xs })
  walk_each vs env (part t ts) xs = option_and_then (λ w. option_map (before_walks w.reaction) (walk_each vs env ts w.rest)) (walk vs env t xs)
