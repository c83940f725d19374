-- How a term with calls and frames reacts in a macro step: the rows of a term without, and one for each
-- of the two forms.
use Rattle.std.specs.Prelude.{◌≡◌, ℕ, ℤ, Bool, true, false, ◌&&◌, List, [], ◌∷◌, ◌++◌, Option, Some, None, slice_set}
use Rattle.quartz_tree.specs.declared.place.Place.{Place}
use Rattle.quartz_tree.specs.declared.fault.Fault.{Fault}
use Rattle.quartz_tree.specs.Surfaces.{Word}
use Rattle.quartz_tree.specs.Tree.{Tree}
use Rattle.quartz_expr.specs.declared.act.Act.{Act}
use Rattle.quartz_expr.specs.Values.{Values, is_zero}
use Rattle.quartz_expr.specs.Vars.{Vars, storage_of, declared_at}
use Rattle.quartz_expr.specs.Value.{value}
use Rattle.quartz_expr.specs.Faults.{faults}
use Rattle.quartz_expr.specs.Terms.{Store}
use Rattle.quartz_expr.specs.Writes.{write_acts, write_faults}
use Rattle.quartz_expr.specs.Resolve.{resolved_store, given_store, store_conflicts, values_of, others}
use Rattle.quartz_expr.specs.React.{store_of}
use Rattle.framed_terms.specs.Framed.{Framed, nothing, pause, write, choose, seq, par, loop, abort, suspend, scope, call, frame, FramedList, none, part, Meanings, inside, passed, tick}

-- what a term does in a macro step: what is left of it, the term as a weak suspension holds it, its
-- acts in order, its faults, and whether it ended
pub record Reaction : Type 0 where
  pub residual : Framed
  pub held : Framed
  pub acts : List Act
  pub faults : List Fault
  pub ended : Bool

-- the same of the parts of a parallel
pub record Reactions : Type 0 where
  pub residuals : FramedList
  pub helds : FramedList
  pub acts : List Act
  pub faults : List Fault
  pub ended : Bool

-- what ended leaves Nothing
abbrev pub unless_ended : Bool → Framed → Framed
unless_ended true t = nothing
unless_ended false t = t

-- the sequence of a term and what follows: of one part it is that part
abbrev pub sequence : Framed → FramedList → Framed
sequence t none = t
sequence t (part u ts) = seq (part t (part u ts))

-- ends at once, with these acts and faults
abbrev pub ends : List Act → List Fault → Framed → Reaction
ends ws fs h = record { residual = nothing; held = h; acts = ws; faults = fs; ended = true }

-- a condition's faults come first
abbrev pub after_faults : List Fault → Reaction → Reaction
after_faults fs q = record q { faults = fs ++ q.faults }

-- the form around what is left of the body, and around the held body
abbrev pub formed : (Framed → Framed) → Reaction → Reaction
formed form q = record q { residual = unless_ended q.ended (form q.residual); held = form q.held }

-- stays in that form
abbrev pub stays : Framed → Reaction → Reaction
stays t q = record q { residual = t; held = t; ended = false }

-- does nothing and stays in that form
abbrev pub rests : Framed → List Fault → Reaction
rests t fs = record { residual = t; held = t; acts = []; faults = fs; ended = false }

-- the first part ended, and the rest goes on in the same step
abbrev pub goes_on : FramedList → Reaction → Reaction → Reaction
goes_on ts q p = record p { held = seq (part q.held ts); acts = q.acts ++ p.acts; faults = q.faults ++ p.faults }

-- one part beside others
abbrev pub beside : Reaction → Reactions → Reactions
beside q p = record {
  residuals = part q.residual p.residuals;
  helds = part q.held p.helds;
  acts = q.acts ++ p.acts;
  faults = q.faults ++ p.faults;
  ended = q.ended && p.ended;
}

abbrev pub together : Reactions → Reaction
together p = record {
  residual = unless_ended p.ended (par p.residuals);
  held = par p.helds;
  acts = p.acts;
  faults = p.faults;
  ended = p.ended;
}

-- a scope that had a store is held with the new one, and a fresh one is held as it is
abbrev pub held_scope : (var : ℕ) → Option Store → Framed → (new : Store) → (held : Framed) → Framed
held_scope x None t s h = scope x None t
held_scope x (Some _) t s h = scope x (Some s) h

-- a scope around a body that reacts with these values of the variable
abbrev pub scoped : Vars → (var : ℕ) → Option Store → Framed → List ℤ → Reaction → Reaction
scoped vs x s t v q =
    let new = given_store x q.acts 0 v in
    record {
      residual = unless_ended q.ended (scope x (Some new) q.residual);
      held = held_scope x s t new q.held;
      acts = others x q.acts;
      faults = q.faults ++ store_conflicts (declared_at vs x) x q.acts 0 v;
      ended = q.ended;
    }

-- a frame around a body that reacts, whose writes to parameters are writes to the arguments
abbrev pub framed : Word → (args : List ℕ) → Reaction → Reaction
framed m args q = record (formed (frame m args) q) { acts = passed args q.acts }

module _ (us : Meanings) where
  -- a term of a module with these variables reacts under an environment
  mutual
    pub data React : Vars → Values → Framed → Reaction → Type 0 where
      of_nothing : (vs : Vars) (env : Values) → React vs env nothing (ends [] [] nothing)
      of_pause : (vs : Vars) (env : Values) → React vs env pause (record { residual = nothing; held = pause; acts = []; faults = []; ended = false })
      of_write : (vs : Vars) (env : Values) (x : ℕ) (i : Option (Tree ℕ)) (e : Tree ℕ) (d : Bool) (p q : Place)
          → React vs env (write x i e d p q) (ends (write_acts vs env x i e d) (write_faults vs env x i e p q) (write x i e d p q))
      -- the chosen branch reacts
      of_yes : (vs : Vars) (env : Values) (c : Tree ℕ) (a b : Framed) (q : Reaction) → is_zero (value vs env c) ≡ false → React vs env a q
          → React vs env (choose c a b) (after_faults (faults vs env c) (record q { held = choose c a b }))
      of_no : (vs : Vars) (env : Values) (c : Tree ℕ) (a b : Framed) (q : Reaction) → is_zero (value vs env c) ≡ true → React vs env b q
          → React vs env (choose c a b) (after_faults (faults vs env c) (record q { held = choose c a b }))
      -- the first part of a sequence reacts, and if it ended the rest too
      of_none : (vs : Vars) (env : Values) → React vs env (seq none) (ends [] [] (seq none))
      of_turn : (vs : Vars) (env : Values) (t : Framed) (ts : FramedList) (q p : Reaction) → React vs env t q → q.ended ≡ true → React vs env (seq ts) p
          → React vs env (seq (part t ts)) (goes_on ts q p)
      of_stop : (vs : Vars) (env : Values) (t : Framed) (ts : FramedList) (q : Reaction) → React vs env t q → q.ended ≡ false
          → React vs env (seq (part t ts)) (record q { residual = sequence q.residual ts; held = seq (part q.held ts) })
      -- all parts of a parallel react
      of_par : (vs : Vars) (env : Values) (ts : FramedList) (p : Reactions) → ReactEach vs env ts p → React vs env (par ts) (together p)
      -- a loop reacts as its body, and then if the condition holds the loop again
      of_loop : (vs : Vars) (env : Values) (t : Framed) (c : Tree ℕ) (q : Reaction) → React vs env (seq (part t (part (choose c (loop t c) nothing) none))) q
          → React vs env (loop t c) (record q { held = loop t c })
      -- a delayed guard doesn't test its condition in the step in which it starts
      of_delayed_abort : (vs : Vars) (env : Values) (weak : Bool) (t : Framed) (c : Tree ℕ) (q : Reaction) → React vs env t q
          → React vs env (abort weak false t c) (record (formed (λ u. abort weak true u c) q) { held = abort weak false t c })
      of_delayed_suspend : (vs : Vars) (env : Values) (weak : Bool) (t : Framed) (c : Tree ℕ) (q : Reaction) → React vs env t q
          → React vs env (suspend weak false t c) (record (formed (λ u. suspend weak true u c) q) { held = suspend weak false t c })
      -- where the condition of an immediate guard fails, the body reacts under the guard
      of_spared_abort : (vs : Vars) (env : Values) (weak : Bool) (t : Framed) (c : Tree ℕ) (q : Reaction) → is_zero (value vs env c) ≡ true → React vs env t q
          → React vs env (abort weak true t c) (after_faults (faults vs env c) (formed (λ u. abort weak true u c) q))
      of_spared_suspend : (vs : Vars) (env : Values) (weak : Bool) (t : Framed) (c : Tree ℕ) (q : Reaction) → is_zero (value vs env c) ≡ true → React vs env t q
          → React vs env (suspend weak true t c) (after_faults (faults vs env c) (formed (λ u. suspend weak true u c) q))
      -- where it holds, strong abort ends and nothing in the body reacts
      of_strong_abort : (vs : Vars) (env : Values) (t : Framed) (c : Tree ℕ) → is_zero (value vs env c) ≡ false
          → React vs env (abort false true t c) (ends [] (faults vs env c) (abort false true (tick us vs t) c))
      -- weak abort ends once the body has reacted
      of_weak_abort : (vs : Vars) (env : Values) (t : Framed) (c : Tree ℕ) (q : Reaction) → is_zero (value vs env c) ≡ false → React vs env t q
          → React vs env (abort true true t c) (after_faults (faults vs env c) (record q { residual = nothing; held = abort true true q.held c; ended = true }))
      -- strong suspension stays, and nothing in the body reacts
      of_strong_suspend : (vs : Vars) (env : Values) (t : Framed) (c : Tree ℕ) → is_zero (value vs env c) ≡ false
          → React vs env (suspend false true t c) (rests (suspend false true (tick us vs t) c) (faults vs env c))
      -- weak suspension stays around the held body, once the body has reacted
      of_weak_suspend : (vs : Vars) (env : Values) (t : Framed) (c : Tree ℕ) (q : Reaction) → is_zero (value vs env c) ≡ false → React vs env t q
          → React vs env (suspend true true t c) (after_faults (faults vs env c) (stays (suspend true true q.held c) q))
      -- the body of a scope reacts with the values to which its store and the body's writes resolve the variable
      of_scope : (vs : Vars) (env : Values) (x : ℕ) (s : Option Store) (t : Framed) (v : List ℤ) (q : Reaction)
          → v ≡ values_of (resolved_store (storage_of vs x) x q.acts 0 (store_of vs x s)) → React vs (slice_set env x v) t q
          → React vs env (scope x s t) (scoped vs x s t v q)
      -- a frame reacts as what is in it, over the called module's variables
      of_frame : (vs : Vars) (env : Values) (m : Word) (args : List ℕ) (t : Framed) (q : Reaction) → React (us m).vars (inside (us m).vars args env) t q
          → React vs env (frame m args t) (framed m args q)
      -- a call reacts as the frame around the called module's body, and is held as it is
      of_call : (vs : Vars) (env : Values) (m : Word) (args : List ℕ) (q : Reaction) → React vs env (frame m args (us m).body) q
          → React vs env (call m args) (record q { held = call m args })

    -- the parts of a parallel react
    pub data ReactEach : Vars → Values → FramedList → Reactions → Type 0 where
      of_nobody : (vs : Vars) (env : Values) → ReactEach vs env none (record { residuals = none; helds = none; acts = []; faults = []; ended = true })
      of_beside : (vs : Vars) (env : Values) (t : Framed) (ts : FramedList) (q : Reaction) (p : Reactions) → React vs env t q → ReactEach vs env ts p
          → ReactEach vs env (part t ts) (beside q p)
