-- How a term reacts in a macro step: a relation, with a rule or two for each form.
use Rattle.std.specs.Prelude.{◌≡◌, ℕ, ℤ, Bool, true, false, ◌&&◌, List, [], ◌∷◌, ◌++◌, length, Option, Some, None, slice_set}
use Rattle.quartz_tree.specs.declared.place.Place.{Place}
use Rattle.quartz_tree.specs.declared.fault.Fault.{Fault}
use Rattle.quartz_tree.specs.Tree.{Tree}
use Rattle.quartz_expr.specs.declared.act.Act.{Act}
use Rattle.quartz_expr.specs.Values.{Values, is_zero}
use Rattle.quartz_expr.specs.Vars.{Vars, storage_of, declared_at}
use Rattle.quartz_expr.specs.Value.{value}
use Rattle.quartz_expr.specs.Faults.{faults}
use Rattle.quartz_expr.specs.Terms.{Store, Term, nothing, pause, write, choose, seq, par, loop, abort, suspend, scope, Terms, none, part}
use Rattle.quartz_expr.specs.Writes.{write_acts, write_faults}
use Rattle.quartz_expr.specs.Resolve.{resolved_store, given_store, store_conflicts, values_of, fresh_store, others}
use Rattle.quartz_expr.specs.Tick.{tick}

-- an element of a scope that was met: the scope's variable, the value that was given to the element,
-- and the one that its store and the body's writes resolve to
pub record Met : Type 0 where
  pub var : ℕ
  pub given : ℤ
  pub wanted : ℤ

-- what a term does in a macro step: what is left of it, the term as a weak suspension holds it, its
-- acts in order, the faults in the order of evaluation, a scope's conflicts behind its body's faults,
-- the scopes met in order, and whether it ended
pub record Reaction : Type 0 where
  pub residual : Term
  pub held : Term
  pub acts : List Act
  pub faults : List Fault
  pub met : List Met
  pub ended : Bool

-- the same of the parts of a parallel, with the residuals and held terms of all
pub record Reactions : Type 0 where
  pub residuals : Terms
  pub helds : Terms
  pub acts : List Act
  pub faults : List Fault
  pub met : List Met
  pub ended : Bool

-- what ended leaves Nothing
abbrev pub unless_ended : Bool → Term → Term
unless_ended true t = nothing
unless_ended false t = t

-- the sequence of a term and what follows: of one part it is that part
abbrev pub sequence : Term → Terms → Term
sequence t none = t
sequence t (part u ts) = seq (part t (part u ts))

-- ends at once, with these acts and faults
abbrev pub ends : List Act → List Fault → Term → Reaction
ends ws fs h = record { residual = nothing; held = h; acts = ws; faults = fs; met = []; ended = true }

-- a condition's faults come first
abbrev pub after_faults : List Fault → Reaction → Reaction
after_faults fs q = record q { faults = fs ++ q.faults }

-- the form around what is left of the body, and around the held body
abbrev pub formed : (Term → Term) → Reaction → Reaction
formed form q = record q { residual = unless_ended q.ended (form q.residual); held = form q.held }

-- stays in that form
abbrev pub stays : Term → Reaction → Reaction
stays t q = record q { residual = t; held = t; ended = false }

-- does nothing and stays in that form
abbrev pub rests : Term → List Fault → Reaction
rests t fs = record { residual = t; held = t; acts = []; faults = fs; met = []; ended = false }

-- the first part ended, and the rest goes on in the same step
abbrev pub goes_on : Terms → Reaction → Reaction → Reaction
goes_on ts q p = record p { held = seq (part q.held ts); acts = q.acts ++ p.acts; faults = q.faults ++ p.faults; met = q.met ++ p.met }

-- one part beside others
abbrev pub beside : Reaction → Reactions → Reactions
beside q p = record {
  residuals = part q.residual p.residuals;
  helds = part q.held p.helds;
  acts = q.acts ++ p.acts;
  faults = q.faults ++ p.faults;
  met = q.met ++ p.met;
  ended = q.ended && p.ended;
}

abbrev pub together : Reactions → Reaction
together p = record {
  residual = unless_ended p.ended (par p.residuals);
  held = par p.helds;
  acts = p.acts;
  faults = p.faults;
  met = p.met;
  ended = p.ended;
}

-- the store from which a scope resolves its variable: its own, or a fresh one
abbrev pub store_of : Vars → (var : ℕ) → Option Store → Store
store_of vs x (Some s) = s
store_of vs x None = fresh_store vs x

-- the values given to the elements of a scope's variable, each with the one that is wanted
abbrev pub meetings : (var : ℕ) → List ℤ → List ℤ → List Met
meetings x [] ws = []
meetings x (v ∷ vs) [] = []
meetings x (v ∷ vs) (w ∷ ws) = record { var = x; given = v; wanted = w } ∷ meetings x vs ws

-- a scope that had a store is held with the new one, and a fresh one is held as it is
abbrev pub held_scope : (var : ℕ) → Option Store → Term → (new : Store) → (held : Term) → Term
held_scope x None t s h = scope x None t
held_scope x (Some _) t s h = scope x (Some s) h

-- a scope around a body that reacts with these values of the variable
abbrev pub scoped : Vars → (var : ℕ) → Option Store → Term → List ℤ → Reaction → Reaction
scoped vs x s t v q =
    let new = given_store x q.acts 0 v in
    record {
      residual = unless_ended q.ended (scope x (Some new) q.residual);
      held = held_scope x s t new q.held;
      acts = others x q.acts;
      faults = q.faults ++ store_conflicts (declared_at vs x) x q.acts 0 v;
      met = meetings x v (values_of (resolved_store (storage_of vs x) x q.acts 0 (store_of vs x s))) ++ q.met;
      ended = q.ended;
    }

module _ (vs : Vars) where
  -- a term reacts under an environment; scopes take any values, which `met` lists beside those wanted
  mutual
    pub data React : Values → Term → Reaction → Type 0 where
      of_nothing : (env : Values) → React env nothing (ends [] [] nothing)
      of_pause : (env : Values) → React env pause (record { residual = nothing; held = pause; acts = []; faults = []; met = []; ended = false })
      of_write : (env : Values) (x : ℕ) (i : Option (Tree ℕ)) (e : Tree ℕ) (d : Bool) (p q : Place)
          → React env (write x i e d p q) (ends (write_acts vs env x i e d) (write_faults vs env x i e p q) (write x i e d p q))
      -- the chosen branch reacts
      of_yes : (env : Values) (c : Tree ℕ) (a b : Term) (q : Reaction) → is_zero (value vs env c) ≡ false → React env a q
          → React env (choose c a b) (after_faults (faults vs env c) (record q { held = choose c a b }))
      of_no : (env : Values) (c : Tree ℕ) (a b : Term) (q : Reaction) → is_zero (value vs env c) ≡ true → React env b q
          → React env (choose c a b) (after_faults (faults vs env c) (record q { held = choose c a b }))
      -- the first part of a sequence reacts, and if it ended the rest too
      of_none : (env : Values) → React env (seq none) (ends [] [] (seq none))
      of_turn : (env : Values) (t : Term) (ts : Terms) (q p : Reaction) → React env t q → q.ended ≡ true → React env (seq ts) p
          → React env (seq (part t ts)) (goes_on ts q p)
      of_stop : (env : Values) (t : Term) (ts : Terms) (q : Reaction) → React env t q → q.ended ≡ false
          → React env (seq (part t ts)) (record q { residual = sequence q.residual ts; held = seq (part q.held ts) })
      -- all parts of a parallel react
      of_par : (env : Values) (ts : Terms) (p : Reactions) → ReactEach env ts p → React env (par ts) (together p)
      -- a loop reacts as its body, and then if the condition holds the loop again
      of_loop : (env : Values) (t : Term) (c : Tree ℕ) (q : Reaction) → React env (seq (part t (part (choose c (loop t c) nothing) none))) q
          → React env (loop t c) (record q { held = loop t c })
      -- a delayed guard doesn't test its condition in the step in which it starts
      of_delayed_abort : (env : Values) (weak : Bool) (t : Term) (c : Tree ℕ) (q : Reaction) → React env t q
          → React env (abort weak false t c) (record (formed (λ u. abort weak true u c) q) { held = abort weak false t c })
      of_delayed_suspend : (env : Values) (weak : Bool) (t : Term) (c : Tree ℕ) (q : Reaction) → React env t q
          → React env (suspend weak false t c) (record (formed (λ u. suspend weak true u c) q) { held = suspend weak false t c })
      -- where the condition of an immediate guard fails, the body reacts under the guard
      of_spared_abort : (env : Values) (weak : Bool) (t : Term) (c : Tree ℕ) (q : Reaction) → is_zero (value vs env c) ≡ true → React env t q
          → React env (abort weak true t c) (after_faults (faults vs env c) (formed (λ u. abort weak true u c) q))
      of_spared_suspend : (env : Values) (weak : Bool) (t : Term) (c : Tree ℕ) (q : Reaction) → is_zero (value vs env c) ≡ true → React env t q
          → React env (suspend weak true t c) (after_faults (faults vs env c) (formed (λ u. suspend weak true u c) q))
      -- where it holds, strong abort ends and nothing in the body reacts
      of_strong_abort : (env : Values) (t : Term) (c : Tree ℕ) → is_zero (value vs env c) ≡ false
          → React env (abort false true t c) (ends [] (faults vs env c) (abort false true (tick vs t) c))
      -- weak abort ends once the body has reacted
      of_weak_abort : (env : Values) (t : Term) (c : Tree ℕ) (q : Reaction) → is_zero (value vs env c) ≡ false → React env t q
          → React env (abort true true t c) (after_faults (faults vs env c) (record q { residual = nothing; held = abort true true q.held c; ended = true }))
      -- strong suspension stays, and nothing in the body reacts
      of_strong_suspend : (env : Values) (t : Term) (c : Tree ℕ) → is_zero (value vs env c) ≡ false
          → React env (suspend false true t c) (rests (suspend false true (tick vs t) c) (faults vs env c))
      -- weak suspension stays around the held body, once the body has reacted
      of_weak_suspend : (env : Values) (t : Term) (c : Tree ℕ) (q : Reaction) → is_zero (value vs env c) ≡ false → React env t q
          → React env (suspend true true t c) (after_faults (faults vs env c) (stays (suspend true true q.held c) q))
      -- the body of a scope reacts with given values of the variable
      of_scope : (env : Values) (x : ℕ) (s : Option Store) (t : Term) (v : List ℤ) (q : Reaction) → length v ≡ length (store_of vs x s) → React (slice_set env x v) t q
          → React env (scope x s t) (scoped vs x s t v q)

    -- the parts of a parallel react
    pub data ReactEach : Values → Terms → Reactions → Type 0 where
      of_nobody : (env : Values) → ReactEach env none (record { residuals = none; helds = none; acts = []; faults = []; met = []; ended = true })
      of_beside : (env : Values) (t : Term) (ts : Terms) (q : Reaction) (p : Reactions) → React env t q → ReactEach env ts p
          → ReactEach env (part t ts) (beside q p)

-- each given value is the wanted one
abbrev pub AllResolved : List Met → Type 0
AllResolved [] = Unit {0}
AllResolved (m ∷ ms) = (m.given ≡ m.wanted) × AllResolved ms

-- the reaction of the semantics: each scope's value is the one that is resolved
pub record Reacts (vs : Vars) (env : Values) (t : Term) (r : Reaction) : Type 0 where
  pub walked : React vs env t r
  pub resolved : AllResolved r.met

-- the values given to the scopes, in the order in which they were met
abbrev pub givens : List Met → List ℤ
givens [] = []
givens (m ∷ ms) = m.given ∷ givens ms
