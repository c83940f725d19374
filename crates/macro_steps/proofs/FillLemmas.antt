-- A reaction in which scopes take given values, or 0 where these lie out of their ranges, is the reaction that has these
-- values in their ranges.
use Rattle.std.proofs.Common.{◌≡◌, ◌∙◌, ℕ, suc, ◌+◌, ℤ, pos, true, false, List, [], ◌∷◌, ◌++◌, length, refl, sym, ap, ap₂, subst, arith}
use Rattle.std.specs.Prelude.{slice_set, if◌then◌else◌}
use Rattle.std.proofs.lemmas.Int.{ints}
use Rattle.quartz_tree.specs.declared.declare.Storage.{Storage}
use Rattle.quartz_expr.specs.declared.act.Act.{Act}
use Rattle.quartz_expr.specs.Values.{Values}
use Rattle.quartz_expr.specs.Vars.{Vars, storage_of}
use Rattle.quartz_expr.specs.Intervals.{Interval, Lies, is_in, range_of}
use Rattle.quartz_expr.specs.Typed.{AllLie}
use Rattle.quartz_expr.specs.Faults.{faults}
use Rattle.quartz_expr.specs.Writes.{in_range}
use Rattle.quartz_expr.specs.Terms.{Store, Term, nothing, choose, seq, loop, abort, suspend, Terms, part}
use Rattle.quartz_expr.specs.Resolve.{resolved_store, values_of}
use Rattle.quartz_expr.specs.React.{Met, Reaction, Reactions, sequence, after_faults, formed, stays, goes_on, beside, together, store_of, meetings, scoped, React, ReactEach, of_nothing, of_pause, of_write, of_yes, of_no, of_none, of_turn, of_stop, of_par, of_loop, of_delayed_abort, of_delayed_suspend, of_spared_abort, of_spared_suspend, of_strong_abort, of_weak_abort, of_strong_suspend, of_weak_suspend, of_scope, of_nobody, of_beside, givens}
use Rattle.quartz_expr.proofs.LawLemmas.{givens_append, givens_meetings, resolved_length, mapped, ended_same}

-- the scopes that were met take these values, each in its range, and the rest is left
abbrev pub Fills : Vars → List Met → (values rest : List ℤ) → Type 0
Fills vs [] ys rest = ys ≡ rest
Fills vs (m ∷ ms) [] rest = [] ≡ rest
Fills vs (m ∷ ms) (y ∷ ys) rest = (m.given ≡ in_range vs m.var y) × Fills vs ms ys rest

-- the given values lie in the ranges of their variables
abbrev pub GivenLie : Vars → List Met → Type 0
GivenLie vs [] = Unit {0}
GivenLie vs (m ∷ ms) = Lies (range_of vs m.var) m.given × GivenLie vs ms

lie_split : (vs : Vars) (a b : List Met) → GivenLie vs (a ++ b) → GivenLie vs a × GivenLie vs b
lie_split vs [] b h = (tt, h)
lie_split vs (m ∷ a) b h = let r = lie_split vs a b h.1 in ((h.0, r.0), r.1)

pub fills_none : (vs : Vars) (ms : List Met) (rest : List ℤ) → [] ≡ rest → Fills vs ms [] rest
fills_none vs [] rest e = e
fills_none vs (m ∷ ms) rest e = e

fills_split : (vs : Vars) (a b : List Met) (ys rest : List ℤ) → Fills vs (a ++ b) ys rest → (mid : List ℤ) × Fills vs a ys mid × Fills vs b mid rest
fills_split vs [] b ys rest h = (ys, refl, h)
fills_split vs (m ∷ a) b [] rest h = ([], refl, fills_none vs b rest h)
fills_split vs (m ∷ a) b (y ∷ ys) rest h = let r = fills_split vs a b ys rest h.1 in (r.0, (h.0, r.1), r.2)

split : (vs : Vars) (a a' b b' : List Met) (ys rest : List ℤ) (P Q : Type 0) → Fills vs (a ++ b) (givens (a' ++ b') ++ ys) rest
    → ((us ws : List ℤ) → Fills vs a (givens a' ++ us) ws → P × (us ≡ ws)) → (P → (us ws : List ℤ) → Fills vs b (givens b' ++ us) ws → Q × (us ≡ ws)) → P × Q × (ys ≡ rest)
split vs a a' b b' ys rest P Q e f g =
    let m = fills_split vs a b (givens a' ++ (givens b' ++ ys)) rest (subst (λ l. Fills vs (a ++ b) l rest) (givens_append a' b' ys) e) in
    let h = f (givens b' ++ ys) m.0 m.1 in
    let k = g h.0 ys rest (subst (λ l. Fills vs b l rest) (sym h.1) m.2) in
    (h.0, k.0, k.1)

-- a value in its range stays
in_range_is : (vs : Vars) (x : ℕ) (z : ℤ) → Lies (range_of vs x) z → in_range vs x z ≡ z
in_range_is vs x z h = ap (λ b. if b then z else pos 0) (inside (range_of vs x) h)
  where
    inside : (i : Interval) → Lies i z → is_in i z ≡ true
    inside i g = grind (arith, ints, g.above, g.below)

scope_lie : (vs : Vars) (x : ℕ) (v w : List ℤ) → length v ≡ length w → GivenLie vs (meetings x v w) → AllLie (range_of vs x) v
scope_lie vs x [] w e h = tt
scope_lie vs x (z ∷ v) [] e h = absurd (omega (arith, e))
scope_lie vs x (z ∷ v) (y ∷ w) e h = (h.0, scope_lie vs x v w (omega (arith, e)) h.1)

scope_fill : (vs : Vars) (x : ℕ) (v v' w ys rest : List ℤ) → length v ≡ length v' → length v ≡ length w → AllLie (range_of vs x) v' → Fills vs (meetings x v w) (v' ++ ys) rest → (v ≡ v') × (ys ≡ rest)
scope_fill vs x [] [] w ys rest e f l h = (refl, h)
scope_fill vs x [] (z ∷ v') w ys rest e f l h = absurd (omega (arith, e))
scope_fill vs x (z ∷ v) [] w ys rest e f l h = absurd (omega (arith, e))
scope_fill vs x (z ∷ v) (z' ∷ v') [] ys rest e f l h = absurd (omega (arith, f))
scope_fill vs x (z ∷ v) (z' ∷ v') (u ∷ w) ys rest e f l h =
    let r = scope_fill vs x v v' w ys rest (omega (arith, e)) (omega (arith, f)) l.1 h.1 in
    (ap₂ (λ a b. a ∷ b) (h.0 ∙ in_range_is vs x z' l.0) r.0, r.1)

-- what fills a reaction's scopes with what another one has makes them one
abbrev Same : Vars → Reaction → Reaction → Type 0
Same vs q r = (ys rest : List ℤ) → GivenLie vs r.met → Fills vs q.met (givens r.met ++ ys) rest → (q ≡ r) × (ys ≡ rest)

abbrev SameEach : Vars → Reactions → Reactions → Type 0
SameEach vs q r = (ys rest : List ℤ) → GivenLie vs r.met → Fills vs q.met (givens r.met ++ ys) rest → (q ≡ r) × (ys ≡ rest)

mutual
  same : (vs : Vars) (env : Values) (t : Term) (q : Reaction) → React vs env t q → (r : Reaction) → React vs env t r → Same vs q r
  same vs env _ _ (of_nothing _) _ (of_nothing _) ys zs g e = (refl, e)
  same vs env _ _ (of_pause _) _ (of_pause _) ys zs g e = (refl, e)
  same vs env _ _ (of_write _ x i v d p q) _ (of_write _ _ _ _ _ _ _) ys zs g e = (refl, e)
  same vs env _ _ (of_yes _ c a b q h k) _ (of_yes _ _ _ _ q' h' k') ys zs g e = mapped (λ q. after_faults (faults vs env c) (record q { held = choose c a b })) q q' ys zs (same vs env a q k q' k' ys zs g e)
  same vs env _ _ (of_yes _ c a b q h k) _ (of_no _ _ _ _ q' h' k') ys zs g e = absurd (cc)
  same vs env _ _ (of_no _ c a b q h k) _ (of_yes _ _ _ _ q' h' k') ys zs g e = absurd (cc)
  same vs env _ _ (of_no _ c a b q h k) _ (of_no _ _ _ _ q' h' k') ys zs g e = mapped (λ q. after_faults (faults vs env c) (record q { held = choose c a b })) q q' ys zs (same vs env b q k q' k' ys zs g e)
  same vs env _ _ (of_none _) _ (of_none _) ys zs g e = (refl, e)
  same vs env _ _ (of_turn _ t ts q p k h j) _ (of_turn _ _ _ q' p' k' h' j') ys zs g e =
      let l = lie_split vs q'.met p'.met g in
      let s = split vs q.met q'.met p.met p'.met ys zs (q ≡ q') (p ≡ p') e (λ us ws. same vs env t q k q' k' us ws l.0) (λ z us ws. same vs env (seq ts) p j p' j' us ws l.1) in
      (ap₂ (goes_on ts) s.0 s.1, s.2)
  same vs env _ _ (of_turn _ t ts q p k h j) _ (of_stop _ _ _ q' k' h') ys zs g e =
      let m = fills_split vs q.met p.met (givens q'.met ++ ys) zs e in
      let s = same vs env t q k q' k' ys m.0 g m.1 in
      absurd (ended_same q q' s.0 h h')
  same vs env _ _ (of_stop _ t ts q k h) _ (of_turn _ _ _ q' p' k' h' j') ys zs g e =
      let s = same vs env t q k q' k' (givens p'.met ++ ys) zs (lie_split vs q'.met p'.met g).0 (subst (λ l. Fills vs q.met l zs) (givens_append q'.met p'.met ys) e) in
      absurd (ended_same q' q (sym s.0) h' h)
  same vs env _ _ (of_stop _ t ts q k h) _ (of_stop _ _ _ q' k' h') ys zs g e = mapped (λ q. record q { residual = sequence q.residual ts; held = seq (part q.held ts) }) q q' ys zs (same vs env t q k q' k' ys zs g e)
  same vs env _ _ (of_par _ ts p k) _ (of_par _ _ p' k') ys zs g e = let s = same_each vs env ts p k p' k' ys zs g e in (ap together s.0, s.1)
  same vs env _ _ (of_loop _ t c q k) _ (of_loop _ _ _ q' k') ys zs g e = mapped (λ q. record q { held = loop t c }) q q' ys zs (same vs env _ q k q' k' ys zs g e)
  same vs env _ _ (of_delayed_abort _ w t c q k) _ (of_delayed_abort _ _ _ _ q' k') ys zs g e = mapped (λ q. record (formed (λ u. abort w true u c) q) { held = abort w false t c }) q q' ys zs (same vs env t q k q' k' ys zs g e)
  same vs env _ _ (of_delayed_suspend _ w t c q k) _ (of_delayed_suspend _ _ _ _ q' k') ys zs g e = mapped (λ q. record (formed (λ u. suspend w true u c) q) { held = suspend w false t c }) q q' ys zs (same vs env t q k q' k' ys zs g e)
  same vs env _ _ (of_spared_abort _ w t c q h k) _ (of_spared_abort _ _ _ _ q' h' k') ys zs g e = mapped (λ q. after_faults (faults vs env c) (formed (λ u. abort w true u c) q)) q q' ys zs (same vs env t q k q' k' ys zs g e)
  same vs env _ _ (of_spared_abort _ w t c q h k) _ (of_strong_abort _ _ _ h') ys zs g e = absurd (cc)
  same vs env _ _ (of_spared_abort _ w t c q h k) _ (of_weak_abort _ _ _ q' h' k') ys zs g e = absurd (cc)
  same vs env _ _ (of_strong_abort _ t c h) _ (of_spared_abort _ _ _ _ q' h' k') ys zs g e = absurd (cc)
  same vs env _ _ (of_strong_abort _ t c h) _ (of_strong_abort _ _ _ h') ys zs g e = (refl, e)
  same vs env _ _ (of_weak_abort _ t c q h k) _ (of_spared_abort _ _ _ _ q' h' k') ys zs g e = absurd (cc)
  same vs env _ _ (of_weak_abort _ t c q h k) _ (of_weak_abort _ _ _ q' h' k') ys zs g e = mapped (λ q. after_faults (faults vs env c) (record q { residual = nothing; held = abort true true q.held c; ended = true })) q q' ys zs (same vs env t q k q' k' ys zs g e)
  same vs env _ _ (of_spared_suspend _ w t c q h k) _ (of_spared_suspend _ _ _ _ q' h' k') ys zs g e = mapped (λ q. after_faults (faults vs env c) (formed (λ u. suspend w true u c) q)) q q' ys zs (same vs env t q k q' k' ys zs g e)
  same vs env _ _ (of_spared_suspend _ w t c q h k) _ (of_strong_suspend _ _ _ h') ys zs g e = absurd (cc)
  same vs env _ _ (of_spared_suspend _ w t c q h k) _ (of_weak_suspend _ _ _ q' h' k') ys zs g e = absurd (cc)
  same vs env _ _ (of_strong_suspend _ t c h) _ (of_spared_suspend _ _ _ _ q' h' k') ys zs g e = absurd (cc)
  same vs env _ _ (of_strong_suspend _ t c h) _ (of_strong_suspend _ _ _ h') ys zs g e = (refl, e)
  same vs env _ _ (of_weak_suspend _ t c q h k) _ (of_spared_suspend _ _ _ _ q' h' k') ys zs g e = absurd (cc)
  same vs env _ _ (of_weak_suspend _ t c q h k) _ (of_weak_suspend _ _ _ q' h' k') ys zs g e = mapped (λ q. after_faults (faults vs env c) (stays (suspend true true q.held c) q)) q q' ys zs (same vs env t q k q' k' ys zs g e)
  same vs env _ _ (of_scope _ x s t v q l k) _ (of_scope _ _ _ _ v' q' l' k') ys zs g e =
      let w = λ (r : Reaction). values_of (resolved_store (storage_of vs x) x r.acts 0 (store_of vs x s)) in
      let n = λ (r : Reaction). resolved_length (storage_of vs x) x r.acts 0 (store_of vs x s) in
      let b : givens (meetings x v' (w q')) ≡ v' = givens_meetings x v' (w q') (l' ∙ sym (n q')) in
      let lies = lie_split vs (meetings x v' (w q')) q'.met g in
      let list : givens (meetings x v' (w q') ++ q'.met) ++ ys ≡ v' ++ (givens q'.met ++ ys) = givens_append (meetings x v' (w q')) q'.met ys ∙ ap (λ z. z ++ (givens q'.met ++ ys)) b in
      let m = fills_split vs (meetings x v (w q)) q.met (v' ++ (givens q'.met ++ ys)) zs (subst (λ l. Fills vs (meetings x v (w q) ++ q.met) l zs) list e) in
      let front = scope_fill vs x v v' (w q) (givens q'.met ++ ys) m.0 (l ∙ sym l') (l ∙ sym (n q)) (scope_lie vs x v' (w q') (l' ∙ sym (n q')) lies.0) m.1 in
      let h = same vs (slice_set env x v) t q k q' (subst (λ z. React vs (slice_set env x z) t q') (sym front.0) k') ys zs lies.1 (subst (λ l. Fills vs q.met l zs) (sym front.1) m.2) in
      (ap₂ (scoped vs x s t) front.0 h.0, h.1)

  same_each : (vs : Vars) (env : Values) (ts : Terms) (q : Reactions) → ReactEach vs env ts q → (r : Reactions) → ReactEach vs env ts r → SameEach vs q r
  same_each vs env _ _ (of_nobody _) _ (of_nobody _) ys zs g e = (refl, e)
  same_each vs env _ _ (of_beside _ t ts q p k h) _ (of_beside _ _ _ q' p' k' h') ys zs g e =
      let l = lie_split vs q'.met p'.met g in
      let s = split vs q.met q'.met p.met p'.met ys zs (q ≡ q') (p ≡ p') e (λ us ws. same vs env t q k q' k' us ws l.0) (λ z us ws. same_each vs env ts p h p' h' us ws l.1) in
      (ap₂ beside s.0 s.1, s.2)

pub reaction_filled : (vs : Vars) (env : Values) (t : Term) (q r : Reaction) (ys rest : List ℤ) → React vs env t q → React vs env t r → GivenLie vs r.met → Fills vs q.met (givens r.met ++ ys) rest → q ≡ r
reaction_filled vs env t q r ys rest k h g e = (same vs env t q k r h ys rest g e).0
