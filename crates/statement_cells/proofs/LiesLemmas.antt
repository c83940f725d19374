-- What reactions write and resolve lies in the ranges of variables.
use Rattle.std.proofs.Common.{◌≡◌, ℕ, ◌+◌, ◌==◌, ◌&&◌, ◌≤◌, ℤ, pos, Bool, true, false, List, [], ◌∷◌, ◌++◌, map, Option, Some, None, refl, subst, arith}
use Rattle.std.specs.Prelude.{if◌then◌else◌, slice_get, unwrap_or}
use Rattle.std.proofs.lemmas.Int.{ints}
use Rattle.std.proofs.lemmas.Bool.Decides.{nat_tests}
use Rattle.quartz_tree.specs.declared.declare.Base.{Base}
use Rattle.quartz_tree.specs.declared.declare.Base.TheVariants as base
use Rattle.quartz_tree.specs.declared.declare.Ty.{Ty}
use Rattle.quartz_tree.specs.declared.declare.Var.{Var}
use Rattle.quartz_expr.specs.declared.act.Act.{Act}
use Rattle.quartz_expr.specs.declared.act.Kept.{Kept}
use Rattle.quartz_expr.specs.Values.{Values}
use Rattle.quartz_expr.specs.Vars.{Vars, storage_of}
use Rattle.quartz_expr.specs.Intervals.{Interval, Lies, base_interval, is_in, is_sound_base, is_sound_type, range_of, sound_or_nought}
use Rattle.quartz_expr.specs.Typed.{AllLie}
use Rattle.quartz_expr.specs.Writes.{act_if, in_range}
use Rattle.quartz_expr.specs.Resolve.{absence, first_of_all, given_store, others, resolved, resolved_store, same_bool, values_of, writes_of}
use Rattle.quartz_expr.specs.Terms.{Store, Term, nothing, pause, write, choose, seq, par, loop, abort, suspend, scope, Terms, none, part}
use Rattle.quartz_expr.specs.React.{Met, Reaction, Reactions, React, ReactEach, meetings, store_of, of_nothing, of_pause, of_write, of_yes, of_no, of_none, of_turn, of_stop, of_par, of_loop, of_delayed_abort, of_delayed_suspend, of_spared_abort, of_spared_suspend, of_strong_abort, of_weak_abort, of_strong_suspend, of_weak_suspend, of_scope, of_nobody, of_beside}
use Rattle.absence_reaction.specs.Meaning.{or_nought, pendings_of}
use Rattle.quartz_expr.proofs.TruthLemmas.{and_left}
use Rattle.quartz_expr.proofs.RangeLemmas.{in_lies, base_has_zero}

-- ---- ranges

-- 0 lies in every range
pub zero_lies : (vs : Vars) (x : ℕ) → Lies (range_of vs x) (pos 0)
zero_lies vs x = at (slice_get vs x) refl
  where
    if_sound : (b : Bool) (t : Ty) → is_sound_type t ≡ b → Lies (sound_or_nought b (base_interval t.base)) (pos 0)
    if_sound true t e = base_has_zero t.base (and_left (is_sound_base t.base) _ e)
    if_sound false t e = record { above = omega (arith, ints); below = omega (arith, ints) }

    at : (o : Option Var) → slice_get vs x ≡ o → Lies (range_of vs x) (pos 0)
    at None e = rw e (record { above = omega (arith, ints); below = omega (arith, ints) })
    at (Some v) e = rw e (if_sound (is_sound_type v.decl.ty) v.decl.ty refl)

pub in_range_lies : (vs : Vars) (x : ℕ) (z : ℤ) → Lies (range_of vs x) (in_range vs x z)
in_range_lies vs x z = at (is_in (range_of vs x) z) refl
  where
    at : (b : Bool) → is_in (range_of vs x) z ≡ b → Lies (range_of vs x) (if b then z else pos 0)
    at true e = in_lies (range_of vs x) z e
    at false e = zero_lies vs x

-- ---- acts

-- each act's value lies in its variable's range
abbrev pub ActsLie : Vars → List Act → Type 0
ActsLie vs [] = Unit {0}
ActsLie vs (a ∷ ws) = Lies (range_of vs a.var) a.value × ActsLie vs ws

pub acts_both : (vs : Vars) (ws us : List Act) → ActsLie vs ws → ActsLie vs us → ActsLie vs (ws ++ us)
acts_both vs [] us g h = h
acts_both vs (a ∷ ws) us g h = (g.0, acts_both vs ws us g.1 h)

acts_others : (vs : Vars) (x : ℕ) (ws : List Act) → ActsLie vs ws → ActsLie vs (others x ws)
acts_others vs x [] h = tt
acts_others vs x (a ∷ ws) h = at (a.var == x) (acts_others vs x ws h.1)
  where
    at : (b : Bool) → ActsLie vs (others x ws) → ActsLie vs (if b then others x ws else a ∷ others x ws)
    at true g = g
    at false g = (h.0, g)

-- what is written to an element lies in the range
pub writes_lie : (vs : Vars) (x n : ℕ) (d : Bool) (ws : List Act) → ActsLie vs ws → AllLie (range_of vs x) (writes_of x n d ws)
writes_lie vs x n d [] h = tt
writes_lie vs x n d (a ∷ ws) h = at (a.var == x) refl ((a.element == n) && same_bool a.delayed d) (writes_lie vs x n d ws h.1)
  where
    same : (a.var == x) ≡ true → a.var ≡ x
    same e = grind (arith, nat_tests, e)

    at : (b : Bool) → (a.var == x) ≡ b → (c : Bool) → AllLie (range_of vs x) (writes_of x n d ws) → AllLie (range_of vs x) (if b && c then a.value ∷ writes_of x n d ws else writes_of x n d ws)
    at true e true g = (subst (λ y. Lies (range_of vs y) a.value) (same e) h.0, g)
    at true e false g = g
    at false e c g = g

act_lies : (vs : Vars) (b : Bool) (x : ℕ) (i z : ℤ) (d : Bool) → Lies (range_of vs x) z → ActsLie vs (act_if b x i z d)
act_lies vs true x i z d h = (h, tt)
act_lies vs false x i z d h = tt

module _ (vs : Vars) where
  mutual
    -- what a reaction writes lies in ranges
    pub react_acts : (env : Values) (t : Term) (r : Reaction) → React vs env t r → ActsLie vs r.acts
    react_acts env _ _ (of_nothing _) = tt
    react_acts env _ _ (of_pause _) = tt
    react_acts env _ _ (of_write _ x i e d p q) = act_lies vs _ x _ _ d (in_range_lies vs x _)
    react_acts env _ _ (of_yes _ c a b q e k) = react_acts env a q k
    react_acts env _ _ (of_no _ c a b q e k) = react_acts env b q k
    react_acts env _ _ (of_none _) = tt
    react_acts env _ _ (of_turn _ t ts q p k e j) = acts_both vs q.acts p.acts (react_acts env t q k) (react_acts env (seq ts) p j)
    react_acts env _ _ (of_stop _ t ts q k e) = react_acts env t q k
    react_acts env _ _ (of_par _ ts p k) = each_acts env ts p k
    react_acts env _ _ (of_loop _ t c q k) = react_acts env _ q k
    react_acts env _ _ (of_delayed_abort _ weak t c q k) = react_acts env t q k
    react_acts env _ _ (of_delayed_suspend _ weak t c q k) = react_acts env t q k
    react_acts env _ _ (of_spared_abort _ weak t c q e k) = react_acts env t q k
    react_acts env _ _ (of_spared_suspend _ weak t c q e k) = react_acts env t q k
    react_acts env _ _ (of_strong_abort _ t c e) = tt
    react_acts env _ _ (of_weak_abort _ t c q e k) = react_acts env t q k
    react_acts env _ _ (of_strong_suspend _ t c e) = tt
    react_acts env _ _ (of_weak_suspend _ t c q e k) = react_acts env t q k
    react_acts env _ _ (of_scope _ x s t v q e k) = acts_others vs x q.acts (react_acts _ t q k)

    each_acts : (env : Values) (ts : Terms) (p : Reactions) → ReactEach vs env ts p → ActsLie vs p.acts
    each_acts env _ _ (of_nobody _) = tt
    each_acts env _ _ (of_beside _ t ts q p k j) = acts_both vs q.acts p.acts (react_acts env t q k) (each_acts env ts p j)

-- ---- stores

abbrev pub PendingLies : Interval → Option ℤ → Type 0
PendingLies i None = Unit {0}
PendingLies i (Some z) = Lies i z

-- what an element has without writes lies in the range, and what is pending
abbrev pub KeptLies : Vars → (var : ℕ) → Kept → Type 0
KeptLies vs x k = Lies (range_of vs x) (absence (storage_of vs x) k.value) × PendingLies (range_of vs x) k.pending

abbrev pub StoreLies : Vars → (var : ℕ) → Store → Type 0
StoreLies vs x [] = Unit {0}
StoreLies vs x (k ∷ s) = KeptLies vs x k × StoreLies vs x s

resolved_lies : (vs : Vars) (x : ℕ) (k : Kept) (now : List ℤ) → KeptLies vs x k → AllLie (range_of vs x) now → Lies (range_of vs x) (resolved (storage_of vs x) k now)
resolved_lies vs x k now h g = at k.pending now h.1 g
  where
    at : (p : Option ℤ) (now : List ℤ) → PendingLies (range_of vs x) p → AllLie (range_of vs x) now → Lies (range_of vs x) (unwrap_or p (unwrap_or (first_of_all now) (absence (storage_of vs x) k.value)))
    at (Some z) now q g = q
    at None [] q g = h.0
    at None (z ∷ zs) q g = g.0

-- resolved values lie in the range
pub store_resolved : (vs : Vars) (x : ℕ) (ws : List Act) (n : ℕ) (s : Store) → StoreLies vs x s → ActsLie vs ws → AllLie (range_of vs x) (values_of (resolved_store (storage_of vs x) x ws n s))
store_resolved vs x ws n [] h g = tt
store_resolved vs x ws n (k ∷ s) h g = (resolved_lies vs x k (writes_of x n false ws) h.0 (writes_lie vs x n false ws g), store_resolved vs x ws (n + 1) s h.1 g)

-- so do pending values, and 0 where nothing is pending
pub pendings_lie : (vs : Vars) (x : ℕ) (ws : List Act) (n : ℕ) (zs : List ℤ) → ActsLie vs ws → AllLie (range_of vs x) (map or_nought (pendings_of (given_store x ws n zs)))
pendings_lie vs x ws n [] h = tt
pendings_lie vs x ws n (z ∷ zs) h = (first (writes_of x n true ws) (writes_lie vs x n true ws h), pendings_lie vs x ws (n + 1) zs h)
  where
    first : (l : List ℤ) → AllLie (range_of vs x) l → Lies (range_of vs x) (or_nought (first_of_all l))
    first [] g = zero_lies vs x
    first (y ∷ l) g = g.0

-- ---- terms whose stores lie in ranges

abbrev mutual
  pub TermLies : Vars → Term → Type 0
  TermLies vs nothing = Unit {0}
  TermLies vs pause = Unit {0}
  TermLies vs (write _ _ _ _ _ _) = Unit {0}
  TermLies vs (choose _ a b) = TermLies vs a × TermLies vs b
  TermLies vs (seq ts) = TermsLie vs ts
  TermLies vs (par ts) = TermsLie vs ts
  TermLies vs (loop t _) = TermLies vs t
  TermLies vs (abort _ _ t _) = TermLies vs t
  TermLies vs (suspend _ _ t _) = TermLies vs t
  TermLies vs (scope x s t) = StoreLies vs x (store_of vs x s) × TermLies vs t

  pub TermsLie : Vars → Terms → Type 0
  TermsLie vs none = Unit {0}
  TermsLie vs (part t ts) = TermLies vs t × TermsLie vs ts

-- the wanted values of scopes that are met lie in ranges
abbrev pub MetLie : Vars → List Met → Type 0
MetLie vs [] = Unit {0}
MetLie vs (m ∷ ms) = Lies (range_of vs m.var) m.wanted × MetLie vs ms

met_both : (vs : Vars) (ms ns : List Met) → MetLie vs ms → MetLie vs ns → MetLie vs (ms ++ ns)
met_both vs [] ns g h = h
met_both vs (m ∷ ms) ns g h = (g.0, met_both vs ms ns g.1 h)

meetings_lie : (vs : Vars) (x : ℕ) (zs us : List ℤ) → AllLie (range_of vs x) us → MetLie vs (meetings x zs us)
meetings_lie vs x [] us h = tt
meetings_lie vs x (z ∷ zs) [] h = tt
meetings_lie vs x (z ∷ zs) (u ∷ us) h = (h.0, meetings_lie vs x zs us h.1)

module _ (vs : Vars) where
  mutual
    -- what scopes resolve to lies in ranges, if the stores do
    pub react_met : (env : Values) (t : Term) (r : Reaction) → TermLies vs t → React vs env t r → MetLie vs r.met
    react_met env _ _ h (of_nothing _) = tt
    react_met env _ _ h (of_pause _) = tt
    react_met env _ _ h (of_write _ x i e d p q) = tt
    react_met env _ _ h (of_yes _ c a b q e k) = react_met env a q h.0 k
    react_met env _ _ h (of_no _ c a b q e k) = react_met env b q h.1 k
    react_met env _ _ h (of_none _) = tt
    react_met env _ _ h (of_turn _ t ts q p k e j) = met_both vs q.met p.met (react_met env t q h.0 k) (react_met env (seq ts) p h.1 j)
    react_met env _ _ h (of_stop _ t ts q k e) = react_met env t q h.0 k
    react_met env _ _ h (of_par _ ts p k) = each_met env ts p h k
    react_met env _ _ h (of_loop _ t c q k) = react_met env (seq (part t (part (choose c (loop t c) nothing) none))) q (h, ((h, tt), tt)) k
    react_met env _ _ h (of_delayed_abort _ weak t c q k) = react_met env t q h k
    react_met env _ _ h (of_delayed_suspend _ weak t c q k) = react_met env t q h k
    react_met env _ _ h (of_spared_abort _ weak t c q e k) = react_met env t q h k
    react_met env _ _ h (of_spared_suspend _ weak t c q e k) = react_met env t q h k
    react_met env _ _ h (of_strong_abort _ t c e) = tt
    react_met env _ _ h (of_weak_abort _ t c q e k) = react_met env t q h k
    react_met env _ _ h (of_strong_suspend _ t c e) = tt
    react_met env _ _ h (of_weak_suspend _ t c q e k) = react_met env t q h k
    react_met env _ _ h (of_scope _ x s t v q e k) =
        met_both vs _ q.met (meetings_lie vs x v _ (store_resolved vs x q.acts 0 (store_of vs x s) h.0 (react_acts vs _ t q k))) (react_met _ t q h.1 k)

    each_met : (env : Values) (ts : Terms) (p : Reactions) → TermsLie vs ts → ReactEach vs env ts p → MetLie vs p.met
    each_met env _ _ h (of_nobody _) = tt
    each_met env _ _ h (of_beside _ t ts q p k j) = met_both vs q.met p.met (react_met env t q h.0 k) (each_met env ts p h.1 j)
