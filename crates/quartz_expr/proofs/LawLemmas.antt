-- Proofs of the laws of the semantics.
use Rattle.std.proofs.Common.{nat_lt, if◌then◌else◌, ◌≡◌, ◌⊎◌, inl, inr, ℕ, zero, suc, ◌+◌, ℤ, pos, negsuc, Bool, true, false, ◌&&◌, ◌||◌, List, [], ◌∷◌, ◌++◌, take, length, Option, Some, None, refl, sym, ap, ap₂, ◌∙◌, subst, arith}
use Rattle.std.proofs.lemmas.Bool.Decides.{nat_tests}
use Rattle.std.specs.Prelude.{not, slice_set, option_to_list, unwrap_or}
use Rattle.quartz_tree.specs.declared.declare.Storage.{Storage}
use Rattle.quartz_tree.specs.declared.fault.Fault.{Fault}
use Rattle.quartz_tree.specs.Tree.{Tree}
use Rattle.quartz_tree.specs.Kernel.{Kernel, Kernels}
use Rattle.quartz_tree.specs.Kernel as kernel
use Rattle.quartz_expr.specs.declared.act.Act.{Act}
use Rattle.quartz_expr.specs.declared.act.Kept.{Kept}
use Rattle.quartz_expr.specs.Values.{Values, is_zero, same_value}
use Rattle.quartz_expr.specs.Vars.{Vars, storage_of}
use Rattle.quartz_expr.specs.Value.{value}
use Rattle.quartz_expr.specs.Faults.{faults}
use Rattle.quartz_expr.specs.Terms.{Store, Term, nothing, pause, write, choose, seq, par, loop, abort, suspend, scope, Terms, none, part, guard_of, term_of, terms_of, is_instant, are_instant, is_fresh, are_fresh}
use Rattle.quartz_expr.specs.Resolve.{resolved, resolved_store, values_of, differs_from, differ, first_of_all, absence}
use Rattle.quartz_expr.specs.Tick.{tick, tick_all}
use Rattle.quartz_expr.specs.React.{Met, Reaction, Reactions, sequence, after_faults, formed, stays, goes_on, beside, together, store_of, meetings, scoped, React, ReactEach, of_nothing, of_pause, of_write, of_yes, of_no, of_none, of_turn, of_stop, of_par, of_loop, of_delayed_abort, of_delayed_suspend, of_spared_abort, of_spared_suspend, of_strong_abort, of_weak_abort, of_strong_suspend, of_weak_suspend, of_scope, of_nobody, of_beside, givens}
use Rattle.quartz_expr.specs.Steps.{State}
use Rattle.quartz_expr.specs.Runs.{RunsFrom, of_end, of_step, of_fault}
use Rattle.quartz_expr.proofs.TruthLemmas.{and_parts, and_intro, or_parts, heads}

-- ---- terms without stores

mutual
  pub tick_fresh : (vs : Vars) (t : Term) → is_fresh t ≡ true → tick vs t ≡ t
  tick_fresh vs nothing e = refl
  tick_fresh vs pause e = refl
  tick_fresh vs (write x i v d p q) e = refl
  tick_fresh vs (choose c a b) e = let f = and_parts (is_fresh a) (is_fresh b) e in ap₂ (choose c) (tick_fresh vs a f.0) (tick_fresh vs b f.1)
  tick_fresh vs (seq ts) e = ap seq (tick_fresh_all vs ts e)
  tick_fresh vs (par ts) e = ap par (tick_fresh_all vs ts e)
  tick_fresh vs (loop t c) e = ap (λ t. loop t c) (tick_fresh vs t e)
  tick_fresh vs (abort weak immediate t c) e = ap (λ t. abort weak immediate t c) (tick_fresh vs t e)
  tick_fresh vs (suspend weak immediate t c) e = ap (λ t. suspend weak immediate t c) (tick_fresh vs t e)
  tick_fresh vs (scope x None t) e = ap (scope x None) (tick_fresh vs t e)
  tick_fresh vs (scope x (Some s) t) e = absurd (cc)

  tick_fresh_all : (vs : Vars) (ts : Terms) → are_fresh ts ≡ true → tick_all vs ts ≡ ts
  tick_fresh_all vs none e = refl
  tick_fresh_all vs (part t ts) e = let f = and_parts (is_fresh t) (are_fresh ts) e in ap₂ part (tick_fresh vs t f.0) (tick_fresh_all vs ts f.1)

fresh_guard : (is_abort weak immediate : Bool) (t : Term) (c : Tree ℕ) → is_fresh t ≡ true → is_fresh (guard_of is_abort weak immediate t c) ≡ true
fresh_guard true weak immediate t c e = e
fresh_guard false weak immediate t c e = e

mutual
  pub statement_fresh : (k : Kernel) → is_fresh (term_of k) ≡ true
  statement_fresh kernel.nothing = refl
  statement_fresh kernel.pause = refl
  statement_fresh (kernel.write x i e d p q) = refl
  statement_fresh (kernel.choose c a b) = and_intro _ _ (statement_fresh a) (statement_fresh b)
  statement_fresh (kernel.seq ks) = statements_fresh ks
  statement_fresh (kernel.par ks) = statements_fresh ks
  statement_fresh (kernel.loop k c p) = statement_fresh k
  statement_fresh (kernel.guard is_abort weak immediate k c) = fresh_guard is_abort weak immediate (term_of k) c (statement_fresh k)
  statement_fresh (kernel.local x k) = statement_fresh k

  statements_fresh : (ks : Kernels) → are_fresh (terms_of ks) ≡ true
  statements_fresh kernel.none = refl
  statements_fresh (kernel.part k ks) = and_intro _ _ (statement_fresh k) (statements_fresh ks)

-- ---- the rows backwards

pub sequence_back : (vs : Vars) (env : Values) (t : Term) (ts : Terms) (r : Reaction) → React vs env (seq (part t ts)) r
    → (q : Reaction) × React vs env t q × (((q.ended ≡ false) × (r.acts ≡ q.acts)) ⊎ ((q.ended ≡ true) × ((p : Reaction) × React vs env (seq ts) p × (r.acts ≡ q.acts ++ p.acts))))
sequence_back vs env t ts _ (of_turn _ _ _ q p k e h) = (q, k, inr (e, (p, h, refl)))
sequence_back vs env t ts _ (of_stop _ _ _ q k e) = (q, k, inl (e, refl))

pub delayed_abort_back : (vs : Vars) (env : Values) (weak : Bool) (t : Term) (c : Tree ℕ) (r : Reaction) → React vs env (abort weak false t c) r
    → (q : Reaction) × React vs env t q × (r.acts ≡ q.acts) × (r.faults ≡ q.faults) × (r.met ≡ q.met) × (r.ended ≡ q.ended)
delayed_abort_back vs env weak t c _ (of_delayed_abort _ _ _ _ q k) = (q, k, refl, refl, refl, refl)

pub strong_abort_back : (vs : Vars) (env : Values) (t : Term) (c : Tree ℕ) (r : Reaction) → is_zero (value vs env c) ≡ false → React vs env (abort false true t c) r
    → (r.ended ≡ true) × (r.acts ≡ []) × (r.met ≡ []) × (r.faults ≡ faults vs env c)
strong_abort_back vs env t c _ e (of_strong_abort _ _ _ _) = (refl, refl, refl, refl)
strong_abort_back vs env t c _ e (of_spared_abort _ _ _ _ q f k) = absurd (cc)

pub strong_suspend_back : (vs : Vars) (env : Values) (t : Term) (c : Tree ℕ) (r : Reaction) → is_zero (value vs env c) ≡ false → React vs env (suspend false true t c) r
    → (r.ended ≡ false) × (r.residual ≡ suspend false true (tick vs t) c) × (r.acts ≡ []) × (r.met ≡ []) × (r.faults ≡ faults vs env c)
strong_suspend_back vs env t c _ e (of_strong_suspend _ _ _ _) = (refl, refl, refl, refl, refl)
strong_suspend_back vs env t c _ e (of_spared_suspend _ _ _ _ q f k) = absurd (cc)

-- ---- terms that may not be instant

one_false : (a b : Bool) → (a && b) ≡ false → (a ≡ false) ⊎ (b ≡ false)
one_false true b e = inr e
one_false false b e = inl refl

falsified : (a b : Bool) → (a ≡ false) ⊎ (b ≡ false) → (a && b) ≡ false
falsified true b (inl e) = absurd (cc)
falsified true b (inr e) = e
falsified false b h = refl

either_of : (A B C D : Type 0) → A ⊎ B → (A → C) → (B → D) → C ⊎ D
either_of A B C D (inl a) f g = inl (f a)
either_of A B C D (inr b) f g = inr (g b)

after_turn : (a b m n : Bool) → (a ≡ false) ⊎ (b ≡ false) → m ≡ true → (a ≡ false → m ≡ false) → (b ≡ false → n ≡ false) → n ≡ false
after_turn a b m n (inl h) e f g = let k = f h in absurd (cc)
after_turn a b m n (inr h) e f g = g h

mutual
  pub stays_on : (vs : Vars) (env : Values) (t : Term) (r : Reaction) → is_instant t ≡ false → React vs env t r → r.ended ≡ false
  stays_on vs env _ _ e (of_nothing _) = absurd (cc)
  stays_on vs env _ _ e (of_pause _) = refl
  stays_on vs env _ _ e (of_write _ x i v d p q) = absurd (cc)
  stays_on vs env _ _ e (of_yes _ c a b q h k) = stays_on vs env a q (or_parts (is_instant a) (is_instant b) e).0 k
  stays_on vs env _ _ e (of_no _ c a b q h k) = stays_on vs env b q (or_parts (is_instant a) (is_instant b) e).1 k
  stays_on vs env _ _ e (of_none _) = absurd (cc)
  stays_on vs env _ _ e (of_turn _ t ts q p k f h) =
      after_turn (is_instant t) (are_instant ts) q.ended p.ended (one_false (is_instant t) (are_instant ts) e) f (λ g. stays_on vs env t q g k) (λ g. stays_on vs env (seq ts) p g h)
  stays_on vs env _ _ e (of_stop _ t ts q k f) = f
  stays_on vs env _ _ e (of_par _ ts p k) = stay_on vs env ts p e k
  stays_on vs env _ _ e (of_loop _ t c q k) = stays_on vs env _ q (falsified (is_instant t) _ (inl e)) k
  stays_on vs env _ _ e (of_delayed_abort _ w t c q k) = stays_on vs env t q e k
  stays_on vs env _ _ e (of_delayed_suspend _ w t c q k) = stays_on vs env t q e k
  stays_on vs env _ _ e (of_spared_abort _ w t c q h k) = absurd (cc)
  stays_on vs env _ _ e (of_spared_suspend _ w t c q h k) = stays_on vs env t q e k
  stays_on vs env _ _ e (of_strong_abort _ t c h) = absurd (cc)
  stays_on vs env _ _ e (of_weak_abort _ t c q h k) = absurd (cc)
  stays_on vs env _ _ e (of_strong_suspend _ t c h) = refl
  stays_on vs env _ _ e (of_weak_suspend _ t c q h k) = refl
  stays_on vs env _ _ e (of_scope _ x s t v q l k) = stays_on vs (slice_set env x v) t q e k

  stay_on : (vs : Vars) (env : Values) (ts : Terms) (p : Reactions) → are_instant ts ≡ false → ReactEach vs env ts p → p.ended ≡ false
  stay_on vs env _ _ e (of_nobody _) = absurd (cc)
  stay_on vs env _ _ e (of_beside _ t ts q p k h) =
      falsified q.ended p.ended (either_of _ _ _ _ (one_false (is_instant t) (are_instant ts) e) (λ g. stays_on vs env t q g k) (λ g. stay_on vs env ts p g h))

-- ---- runs

counted_down : (n k : ℕ) → nat_lt (suc n) (suc k) ≡ nat_lt n k
counted_down n k = grind (arith, nat_tests)

ended_before : (n k : ℕ) → nat_lt n zero ≡ false
ended_before n k = grind (arith, nat_tests)

counted_none : (k : ℕ) → nat_lt 0 (suc k) ≡ true
counted_none k = grind (arith, nat_tests)

pub runs_cut : (vs : Vars) (s : State) (ins outs : List (List (List ℤ))) (end : Option Fault) (k : ℕ) → RunsFrom vs s ins outs end
    → RunsFrom vs s (take k ins) (take k outs) (if nat_lt (length outs) k then end else None)
runs_cut vs s ins outs end zero _ = subst (λ (b : Bool). RunsFrom vs s [] [] (if b then end else None)) (sym (ended_before (length outs) 0)) (of_end s)
runs_cut vs s _ _ _ (suc k) (of_end _) = subst (λ (b : Bool). RunsFrom vs s [] [] (if b then None else None)) (sym (counted_none k)) (of_end s)
runs_cut vs s _ _ _ (suc k) (of_step _ i o t is os end m r) =
    subst (λ (b : Bool). RunsFrom vs s (i ∷ take k is) (o ∷ take k os) (if b then end else None)) (sym (counted_down (length os) k))
    (of_step s i o t (take k is) (take k os) (if nat_lt (length os) k then end else None) m (runs_cut vs t is os end k r))
runs_cut vs s _ _ _ (suc k) (of_fault _ i o t fs f is m l) =
    subst (λ (b : Bool). RunsFrom vs s (i ∷ take k is) [] (if b then Some f else None)) (sym (counted_none k)) (of_fault s i o t fs f (take k is) m l)

-- ---- conflicts

pub same_refl : (z : ℤ) → same_value z z ≡ true
same_refl (pos n) = grind (arith, nat_tests)
same_refl (negsuc n) = grind (arith, nat_tests)

pub conflict_is : (s : Storage) (k : Kept) (now : List ℤ) → differs_from (resolved s k now) now ≡ differ (option_to_list k.pending ++ now)
conflict_is s k now = at k.pending now
  where
    at : (p : Option ℤ) (now : List ℤ) → differs_from (unwrap_or p (unwrap_or (first_of_all now) (absence s k.value))) now ≡ differ (option_to_list p ++ now)
    at (Some z) now = refl
    at None [] = refl
    at None (y ∷ ys) = ap (λ b. not b || differs_from y ys) (same_refl y)

-- ---- a reaction is one

pub givens_append : (a b : List Met) (xs : List ℤ) → givens (a ++ b) ++ xs ≡ givens a ++ (givens b ++ xs)
givens_append [] b xs = refl
givens_append (m ∷ a) b xs = ap (λ l. m.given ∷ l) (givens_append a b xs)

pub givens_meetings : (x : ℕ) (v w : List ℤ) → length v ≡ length w → givens (meetings x v w) ≡ v
givens_meetings x [] w e = refl
givens_meetings x (z ∷ v) [] e = absurd (omega arith)
givens_meetings x (z ∷ v) (y ∷ w) e = ap (λ l. z ∷ l) (givens_meetings x v w (omega arith))

pub resolved_length : (s : Storage) (x : ℕ) (ws : List Act) (n : ℕ) (ks : Store) → length (values_of (resolved_store s x ws n ks)) ≡ length ks
resolved_length s x ws n [] = refl
resolved_length s x ws n (k ∷ ks) = ap suc (resolved_length s x ws (n + 1) ks)

same_front : (v w xs ys : List ℤ) → length v ≡ length w → v ++ xs ≡ w ++ ys → (v ≡ w) × (xs ≡ ys)
same_front [] [] xs ys e f = (refl, f)
same_front [] (z ∷ w) xs ys e f = absurd (omega arith)
same_front (z ∷ v) [] xs ys e f = absurd (omega arith)
same_front (y ∷ v) (z ∷ w) xs ys e f =
    let g = heads y z (v ++ xs) (w ++ ys) f in
    let h = same_front v w xs ys (omega arith) g.1 in
    (ap₂ (λ a l. a ∷ l) g.0 h.0, h.1)

-- what is left of two lists of given values behind two reactions is the same where the lists are
abbrev Same : Reaction → Reaction → Type 0
Same q r = (xs ys : List ℤ) → givens q.met ++ xs ≡ givens r.met ++ ys → (q ≡ r) × (xs ≡ ys)

abbrev SameEach : Reactions → Reactions → Type 0
SameEach q r = (xs ys : List ℤ) → givens q.met ++ xs ≡ givens r.met ++ ys → (q ≡ r) × (xs ≡ ys)

pub mapped : (f : Reaction → Reaction) (q r : Reaction) (xs ys : List ℤ) → (q ≡ r) × (xs ≡ ys) → (f q ≡ f r) × (xs ≡ ys)
mapped f q r xs ys h = (ap f h.0, h.1)

split : (a a' b b' : List Met) (xs ys : List ℤ) (P Q : Type 0) → givens (a ++ b) ++ xs ≡ givens (a' ++ b') ++ ys
    → ((us vs : List ℤ) → givens a ++ us ≡ givens a' ++ vs → P × (us ≡ vs)) → (P → (us vs : List ℤ) → givens b ++ us ≡ givens b' ++ vs → Q × (us ≡ vs)) → P × Q × (xs ≡ ys)
split a a' b b' xs ys P Q e f g =
    let h = f (givens b ++ xs) (givens b' ++ ys) (sym (givens_append a b xs) ∙ e ∙ givens_append a' b' ys) in
    let k = g h.0 xs ys h.1 in
    (h.0, k.0, k.1)

pub ended_same : (q r : Reaction) → q ≡ r → q.ended ≡ true → r.ended ≡ false → ⊥
ended_same q r e f g = let h : q.ended ≡ r.ended = ap (λ (z : Reaction). z.ended) e in absurd (cc)

mutual
  same : (vs : Vars) (env : Values) (t : Term) (q : Reaction) → React vs env t q → (r : Reaction) → React vs env t r → Same q r
  same vs env _ _ (of_nothing _) _ (of_nothing _) xs ys e = (refl, e)
  same vs env _ _ (of_pause _) _ (of_pause _) xs ys e = (refl, e)
  same vs env _ _ (of_write _ x i v d p q) _ (of_write _ _ _ _ _ _ _) xs ys e = (refl, e)
  same vs env _ _ (of_yes _ c a b q h k) _ (of_yes _ _ _ _ q' h' k') xs ys e = mapped (λ q. after_faults (faults vs env c) (record q { held = choose c a b })) q q' xs ys (same vs env a q k q' k' xs ys e)
  same vs env _ _ (of_yes _ c a b q h k) _ (of_no _ _ _ _ q' h' k') xs ys e = absurd (cc)
  same vs env _ _ (of_no _ c a b q h k) _ (of_yes _ _ _ _ q' h' k') xs ys e = absurd (cc)
  same vs env _ _ (of_no _ c a b q h k) _ (of_no _ _ _ _ q' h' k') xs ys e = mapped (λ q. after_faults (faults vs env c) (record q { held = choose c a b })) q q' xs ys (same vs env b q k q' k' xs ys e)
  same vs env _ _ (of_none _) _ (of_none _) xs ys e = (refl, e)
  same vs env _ _ (of_turn _ t ts q p k h j) _ (of_turn _ _ _ q' p' k' h' j') xs ys e =
      let s = split q.met q'.met p.met p'.met xs ys (q ≡ q') (p ≡ p') e (same vs env t q k q' k') (λ z. same vs env (seq ts) p j p' j') in
      (ap₂ (goes_on ts) s.0 s.1, s.2)
  same vs env _ _ (of_turn _ t ts q p k h j) _ (of_stop _ _ _ q' k' h') xs ys e =
      let s = same vs env t q k q' k' (givens p.met ++ xs) ys (sym (givens_append q.met p.met xs) ∙ e) in
      absurd (ended_same q q' s.0 h h')
  same vs env _ _ (of_stop _ t ts q k h) _ (of_turn _ _ _ q' p' k' h' j') xs ys e =
      let s = same vs env t q k q' k' xs (givens p'.met ++ ys) (e ∙ givens_append q'.met p'.met ys) in
      absurd (ended_same q' q (sym s.0) h' h)
  same vs env _ _ (of_stop _ t ts q k h) _ (of_stop _ _ _ q' k' h') xs ys e = mapped (λ q. record q { residual = sequence q.residual ts; held = seq (part q.held ts) }) q q' xs ys (same vs env t q k q' k' xs ys e)
  same vs env _ _ (of_par _ ts p k) _ (of_par _ _ p' k') xs ys e = let s = same_each vs env ts p k p' k' xs ys e in (ap together s.0, s.1)
  same vs env _ _ (of_loop _ t c q k) _ (of_loop _ _ _ q' k') xs ys e = mapped (λ q. record q { held = loop t c }) q q' xs ys (same vs env _ q k q' k' xs ys e)
  same vs env _ _ (of_delayed_abort _ w t c q k) _ (of_delayed_abort _ _ _ _ q' k') xs ys e = mapped (λ q. record (formed (λ u. abort w true u c) q) { held = abort w false t c }) q q' xs ys (same vs env t q k q' k' xs ys e)
  same vs env _ _ (of_delayed_suspend _ w t c q k) _ (of_delayed_suspend _ _ _ _ q' k') xs ys e = mapped (λ q. record (formed (λ u. suspend w true u c) q) { held = suspend w false t c }) q q' xs ys (same vs env t q k q' k' xs ys e)
  same vs env _ _ (of_spared_abort _ w t c q h k) _ (of_spared_abort _ _ _ _ q' h' k') xs ys e = mapped (λ q. after_faults (faults vs env c) (formed (λ u. abort w true u c) q)) q q' xs ys (same vs env t q k q' k' xs ys e)
  same vs env _ _ (of_spared_abort _ w t c q h k) _ (of_strong_abort _ _ _ h') xs ys e = absurd (cc)
  same vs env _ _ (of_spared_abort _ w t c q h k) _ (of_weak_abort _ _ _ q' h' k') xs ys e = absurd (cc)
  same vs env _ _ (of_strong_abort _ t c h) _ (of_spared_abort _ _ _ _ q' h' k') xs ys e = absurd (cc)
  same vs env _ _ (of_strong_abort _ t c h) _ (of_strong_abort _ _ _ h') xs ys e = (refl, e)
  same vs env _ _ (of_weak_abort _ t c q h k) _ (of_spared_abort _ _ _ _ q' h' k') xs ys e = absurd (cc)
  same vs env _ _ (of_weak_abort _ t c q h k) _ (of_weak_abort _ _ _ q' h' k') xs ys e = mapped (λ q. after_faults (faults vs env c) (record q { residual = nothing; held = abort true true q.held c; ended = true })) q q' xs ys (same vs env t q k q' k' xs ys e)
  same vs env _ _ (of_spared_suspend _ w t c q h k) _ (of_spared_suspend _ _ _ _ q' h' k') xs ys e = mapped (λ q. after_faults (faults vs env c) (formed (λ u. suspend w true u c) q)) q q' xs ys (same vs env t q k q' k' xs ys e)
  same vs env _ _ (of_spared_suspend _ w t c q h k) _ (of_strong_suspend _ _ _ h') xs ys e = absurd (cc)
  same vs env _ _ (of_spared_suspend _ w t c q h k) _ (of_weak_suspend _ _ _ q' h' k') xs ys e = absurd (cc)
  same vs env _ _ (of_strong_suspend _ t c h) _ (of_spared_suspend _ _ _ _ q' h' k') xs ys e = absurd (cc)
  same vs env _ _ (of_strong_suspend _ t c h) _ (of_strong_suspend _ _ _ h') xs ys e = (refl, e)
  same vs env _ _ (of_weak_suspend _ t c q h k) _ (of_spared_suspend _ _ _ _ q' h' k') xs ys e = absurd (cc)
  same vs env _ _ (of_weak_suspend _ t c q h k) _ (of_weak_suspend _ _ _ q' h' k') xs ys e = mapped (λ q. after_faults (faults vs env c) (stays (suspend true true q.held c) q)) q q' xs ys (same vs env t q k q' k' xs ys e)
  same vs env _ _ (of_scope _ x s t v q l k) _ (of_scope _ _ _ _ v' q' l' k') xs ys e =
      let w = λ (r : Reaction). values_of (resolved_store (storage_of vs x) x r.acts 0 (store_of vs x s)) in
      let n = λ (r : Reaction). resolved_length (storage_of vs x) x r.acts 0 (store_of vs x s) in
      let a : givens (meetings x v (w q)) ≡ v = givens_meetings x v (w q) (l ∙ sym (n q)) in
      let b : givens (meetings x v' (w q')) ≡ v' = givens_meetings x v' (w q') (l' ∙ sym (n q')) in
      let f : v ++ (givens q.met ++ xs) ≡ v' ++ (givens q'.met ++ ys) =
      ap (λ z. z ++ (givens q.met ++ xs)) (sym a) ∙ sym (givens_append (meetings x v (w q)) q.met xs) ∙ e ∙ givens_append (meetings x v' (w q')) q'.met ys ∙ ap (λ z. z ++ (givens q'.met ++ ys)) b in
      let g = same_front v v' (givens q.met ++ xs) (givens q'.met ++ ys) (l ∙ sym l') f in
      let h = same vs (slice_set env x v) t q k q' (subst (λ z. React vs (slice_set env x z) t q') (sym g.0) k') xs ys g.1 in
      (ap₂ (scoped vs x s t) g.0 h.0, h.1)

  same_each : (vs : Vars) (env : Values) (ts : Terms) (q : Reactions) → ReactEach vs env ts q → (r : Reactions) → ReactEach vs env ts r → SameEach q r
  same_each vs env _ _ (of_nobody _) _ (of_nobody _) xs ys e = (refl, e)
  same_each vs env _ _ (of_beside _ t ts q p k h) _ (of_beside _ _ _ q' p' k' h') xs ys e =
      let s = split q.met q'.met p.met p'.met xs ys (q ≡ q') (p ≡ p') e (same vs env t q k q' k') (λ z. same_each vs env ts p h p' h') in
      (ap₂ beside s.0 s.1, s.2)

pub reaction_one : (vs : Vars) (env : Values) (t : Term) (q r : Reaction) (xs ys : List ℤ) → React vs env t q → React vs env t r
    → givens q.met ++ xs ≡ givens r.met ++ ys → (q ≡ r) × (xs ≡ ys)
reaction_one vs env t q r xs ys k h e = same vs env t q k r h xs ys e
