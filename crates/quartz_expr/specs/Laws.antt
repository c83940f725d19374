-- Laws of the semantics, in its own words.
use Rattle.std.specs.Prelude.{◌≡◌, ◌⊎◌, ◌↔◌, ℕ, ℤ, Bool, true, false, nat_lt, if◌then◌else◌, List, [], ◌++◌, take, length, Option, None, option_to_list}
use Rattle.quartz_tree.specs.declared.declare.Storage.{Storage}
use Rattle.quartz_tree.specs.declared.fault.Fault.{Fault}
use Rattle.quartz_tree.specs.Tree.{Tree}
use Rattle.quartz_tree.specs.Kernel.{Kernel}
use Rattle.quartz_expr.specs.declared.act.Kept.{Kept}
use Rattle.quartz_expr.specs.Values.{Values, is_zero}
use Rattle.quartz_expr.specs.Vars.{Vars}
use Rattle.quartz_expr.specs.Value.{value}
use Rattle.quartz_expr.specs.Faults.{faults}
use Rattle.quartz_expr.specs.Terms.{Term, seq, abort, suspend, Terms, part, is_fresh, is_instant, term_of}
use Rattle.quartz_expr.specs.Resolve.{resolved, differs_from, differ}
use Rattle.quartz_expr.specs.Tick.{tick}
use Rattle.quartz_expr.specs.React.{Reaction, React, givens}
use Rattle.quartz_expr.specs.Steps.{State, Macro, outputs_of}
use Rattle.quartz_expr.specs.Runs.{Runs}
use Rattle.quartz_expr.specs.Coherent.{IsCoherent}

-- a term, an environment and a list of values for the scopes have at most one reaction, which uses a front of the list
abbrev pub ReactionIsOne : Type 0
ReactionIsOne = (vs : Vars) (env : Values) (t : Term) (q r : Reaction) (xs ys : List ℤ) → React vs env t q → React vs env t r
    → givens q.met ++ xs ≡ givens r.met ++ ys → (q ≡ r) × (xs ≡ ys)

-- a term that may not be instant doesn't end in its first step
abbrev pub NotInstantStays : Type 0
NotInstantStays = (vs : Vars) (env : Values) (t : Term) (r : Reaction) → is_instant t ≡ false → React vs env t r → r.ended ≡ false

-- the acts of a sequence are those of its first part, and behind them those of the rest where the
-- first part ended
abbrev pub SequenceActsInOrder : Type 0
SequenceActsInOrder = (vs : Vars) (env : Values) (t : Term) (ts : Terms) (r : Reaction) → React vs env (seq (part t ts)) r
    → (q : Reaction) × React vs env t q × (((q.ended ≡ false) × (r.acts ≡ q.acts)) ⊎ ((q.ended ≡ true) × ((p : Reaction) × React vs env (seq ts) p × (r.acts ≡ q.acts ++ p.acts))))

-- nothing advances in a term without stores
abbrev pub TickOfFreshTerm : Type 0
TickOfFreshTerm = (vs : Vars) (t : Term) → is_fresh t ≡ true → tick vs t ≡ t

-- the term of a kernel statement has no stores
abbrev pub StatementsAreFresh : Type 0
StatementsAreFresh = (k : Kernel) → is_fresh (term_of k) ≡ true

-- a delayed abort does in its first step what its body does
abbrev pub DelayedAbortStartsAsItsBody : Type 0
DelayedAbortStartsAsItsBody = (vs : Vars) (env : Values) (weak : Bool) (t : Term) (c : Tree ℕ) (r : Reaction) → React vs env (abort weak false t c) r
    → (q : Reaction) × React vs env t q × (r.acts ≡ q.acts) × (r.faults ≡ q.faults) × (r.met ≡ q.met) × (r.ended ≡ q.ended)

-- where its condition holds, a strong abort ends and nothing of its body acts
abbrev pub StrongAbortDoesNothing : Type 0
StrongAbortDoesNothing = (vs : Vars) (env : Values) (t : Term) (c : Tree ℕ) (r : Reaction) → is_zero (value vs env c) ≡ false → React vs env (abort false true t c) r
    → (r.ended ≡ true) × (r.acts ≡ []) × (r.met ≡ []) × (r.faults ≡ faults vs env c)

-- where its condition holds, a strong suspension stays around its advanced body, and nothing of it acts
abbrev pub StrongSuspensionDoesNothing : Type 0
StrongSuspensionDoesNothing = (vs : Vars) (env : Values) (t : Term) (c : Tree ℕ) (r : Reaction) → is_zero (value vs env c) ≡ false → React vs env (suspend false true t c) r
    → (r.ended ≡ false) × (r.residual ≡ suspend false true (tick vs t) c) × (r.acts ≡ []) × (r.met ≡ []) × (r.faults ≡ faults vs env c)

-- a run cut after k steps is a run over the first k inputs, with the same fault where that comes in these steps: what
-- comes later plays no part
abbrev pub RunsLookBack : Type 0
RunsLookBack = (vs : Vars) (body : Kernel) (ins outs : List (List (List ℤ))) (end : Option Fault) (k : ℕ) → Runs vs body ins outs end
    → Runs vs body (take k ins) (take k outs) (if nat_lt (length outs) k then end else None)

-- at the resolved value a now-value differs exactly where two of the now-values and the pending value differ
abbrev pub ConflictsAreDifferences : Type 0
ConflictsAreDifferences = (s : Storage) (k : Kept) (now : List ℤ) → differs_from (resolved s k now) now ≡ differ (option_to_list k.pending ++ now)

-- the environment with these inputs and outputs is coherent exactly where it gives a macro step without a fault
abbrev pub CoherenceIsSoundness : Type 0
CoherenceIsSoundness = (vs : Vars) (s : State) (ins outs : List (List ℤ)) → length s.stores ≡ length (outputs_of vs)
    → (IsCoherent vs s ins outs) ↔ ((next : State) × Macro vs s ins outs next [])
