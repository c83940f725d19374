-- Each reaction of a framed term is one of the plain term that it is: by induction on the framed reaction, two lines a row.
-- A frame and a call leave the plain term as it is, and use that what has ended leaves Nothing and that a body without stores
-- is held as it is.
use Rattle.std.proofs.Common.{◌≡◌, ℕ, ℤ, Bool, true, false, List, [], ◌∷◌, ◌++◌, length, Option, Some, None, refl, sym, ap, ap₂, ◌∙◌, subst, arith}
use Rattle.std.specs.Prelude.{slice_set}
use Rattle.quartz_tree.specs.declared.place.Place.{Place}
use Rattle.quartz_tree.specs.Surfaces.{Word}
use Rattle.quartz_tree.specs.Tree.{Tree}
use Rattle.quartz_expr.specs.declared.act.Act.{Act}
use Rattle.quartz_expr.specs.Values.{Values, is_zero}
use Rattle.quartz_expr.specs.Vars.{Vars, storage_of}
use Rattle.quartz_expr.specs.Value.{value}
use Rattle.quartz_expr.specs.Faults.{faults}
use Rattle.quartz_expr.specs.Terms.{Store, Term, Terms, is_fresh}
use Rattle.quartz_expr.specs.Terms as term
use Rattle.quartz_expr.specs.Resolve.{resolved_store, values_of}
use Rattle.quartz_expr.specs.React as plain
use Rattle.quartz_expr.specs.React.{Met, store_of, meetings, AllResolved, Reacts}
use Rattle.quartz_expr.proofs.LawLemmas.{resolved_length}
use Rattle.framed_terms.specs.Framed.{Framed, FramedList, Meanings, nothing, pause, write, choose, seq, par, loop, abort, suspend, scope, call, frame, none, part, inside, tick}
use Rattle.framed_terms.specs.Reacting.{Reaction, Reactions, React, ReactEach, of_nothing, of_pause, of_write, of_yes, of_no, of_none, of_turn, of_stop, of_par, of_loop, of_delayed_abort, of_delayed_suspend, of_spared_abort, of_spared_suspend, of_strong_abort, of_weak_abort, of_strong_suspend, of_weak_suspend, of_scope, of_frame, of_call, of_nobody, of_beside}
use Rattle.framed_terms.specs.Similar.{Carry, inner, opened, Same, SameActs, a_none, Sim, Sims, s_nothing, s_pause, s_write, s_choose, s_seq, s_par, s_loop, s_abort, s_suspend, s_scope, s_frame, s_call, s_none, s_part, IsLocal, Suits, Agree, Related, RelatedEach}
use Rattle.framed_terms.proofs.ExprLemmas.{same_values, same_faults, same_write_acts, same_write_faults}
use Rattle.framed_terms.proofs.EnvLemmas.{opened_agrees, inner_agrees}
use Rattle.framed_terms.proofs.TermLemmas.{leaves, held_fresh, tick_sim}
use Rattle.framed_terms.proofs.RowLemmas.{ends_related, pause_related, held_related, faults_related, turn_related, stop_related, together_related, nobody_related, beside_related, formed_related, stays_related, rests_related, weak_related, same_stores, same_wanted, scoped_related, framed_related, called_related}

pub resolved_join : (a b : List Met) → AllResolved a → AllResolved b → AllResolved (a ++ b)
resolved_join [] b g h = h
resolved_join (m ∷ a) b g h = (g.0, resolved_join a b g.1 h)

pub resolved_meetings : (x : ℕ) (v : List ℤ) → AllResolved (meetings x v v)
resolved_meetings x [] = tt
resolved_meetings x (z ∷ v) = (refl, resolved_meetings x v)

store_length : (vs : Vars) (x : ℕ) (a : List Act) (s : Option Store) (v : List ℤ) → v ≡ values_of (resolved_store (storage_of vs x) x a 0 (store_of vs x s)) → length v ≡ length (store_of vs x s)
store_length vs x a s v e = ap (λ (l : List ℤ). length l) e ∙ resolved_length (storage_of vs x) x a 0 (store_of vs x s)

module _ (us : Meanings) (ws : Vars) where
  -- the plain term reacts in the same way
  abbrev pub Forth : Vars → Carry → Values → Term → Reaction → Type 0
  Forth vs f all t q = (r : plain.Reaction) × plain.React ws all t r × AllResolved r.met × Related us ws vs f q r

  abbrev pub ForthEach : Vars → Carry → Values → Terms → Reactions → Type 0
  ForthEach vs f all ts q = (r : plain.Reactions) × plain.ReactEach ws all ts r × AllResolved r.met × RelatedEach us ws vs f q r

  zeros : (vs : Vars) (f : Carry) (env all : Values) (c d : Tree ℕ) (b : Bool) → Agree us ws vs f env all → Same f c d → is_zero (value vs env c) ≡ b → is_zero (value ws all d) ≡ b
  zeros vs f env all c d b g s e = ap is_zero (sym (same_values us ws vs f env all c d g s)) ∙ e

  mutual
    pub forth : (vs : Vars) (env : Values) (a : Framed) (q : Reaction) → React us vs env a q → (f : Carry) (all : Values) (t : Term) → Agree us ws vs f env all → Sim us ws vs f a t → Forth vs f all t q
    forth vs env _ _ (of_nothing _ _) f all _ g (s_nothing _ _) = (_, plain.of_nothing all, tt, ends_related us ws vs f [] [] [] [] nothing term.nothing a_none refl (s_nothing vs f))
    forth vs env _ _ (of_pause _ _) f all _ g (s_pause _ _) = (_, plain.of_pause all, tt, pause_related us ws vs f)
    forth vs env _ _ (of_write _ _ x i e d p q) f all _ g (s_write _ _ _ y _ j _ h _ _ _ k l m) =
        (_, plain.of_write all y j h d p q, tt, ends_related us ws vs f _ _ _ _ _ _ (same_write_acts us ws vs f env all x y i j e h d g k l m) (same_write_faults us ws vs f env all x y i j e h p q g k l m) (s_write vs f x y i j e h d p q k l m))
    forth vs env _ _ (of_yes _ _ c a b q e k) f all _ g (s_choose _ _ _ d _ _ t u s l m) =
        let r = forth vs env a q k f all t g l in
        (_, plain.of_yes all d t u r.0 (zeros vs f env all c d false g s e) r.1, r.2, faults_related us ws vs f _ _ _ _ (same_faults us ws vs f env all c d g s) (held_related us ws vs f q r.0 _ _ r.3 (s_choose vs f c d a b t u s l m)))
    forth vs env _ _ (of_no _ _ c a b q e k) f all _ g (s_choose _ _ _ d _ _ t u s l m) =
        let r = forth vs env b q k f all u g m in
        (_, plain.of_no all d t u r.0 (zeros vs f env all c d true g s e) r.1, r.2, faults_related us ws vs f _ _ _ _ (same_faults us ws vs f env all c d g s) (held_related us ws vs f q r.0 _ _ r.3 (s_choose vs f c d a b t u s l m)))
    forth vs env _ _ (of_none _ _) f all _ g (s_seq _ _ _ _ (s_none _ _)) = (_, plain.of_none all, tt, ends_related us ws vs f [] [] [] [] _ _ a_none refl (s_seq vs f _ _ (s_none vs f)))
    forth vs env _ _ (of_turn _ _ a parts q p k e h) f all _ g (s_seq _ _ _ _ (s_part _ _ _ _ t ts l m)) =
        let r = forth vs env a q k f all t g l in
        let s = forth vs env (seq parts) p h f all (term.seq ts) g (s_seq vs f parts ts m) in
        (_, plain.of_turn all t ts r.0 s.0 r.1 (sym r.3.ended ∙ e) s.1, resolved_join r.0.met s.0.met r.2 s.2, turn_related us ws vs f parts ts q p r.0 s.0 m r.3 s.3)
    forth vs env _ _ (of_stop _ _ a parts q k e) f all _ g (s_seq _ _ _ _ (s_part _ _ _ _ t ts l m)) =
        let r = forth vs env a q k f all t g l in
        (_, plain.of_stop all t ts r.0 r.1 (sym r.3.ended ∙ e), r.2, stop_related us ws vs f parts ts q r.0 m r.3)
    forth vs env _ _ (of_par _ _ parts p k) f all _ g (s_par _ _ _ ts l) =
        let r = forth_each vs env parts p k f all ts g l in
        (_, plain.of_par all ts r.0 r.1, r.2, together_related us ws vs f p r.0 r.3)
    forth vs env _ _ (of_loop _ _ a c q k) f all _ g (s_loop _ _ _ t _ d s l) =
        let r = forth vs env _ q k f all _ g (s_seq vs f _ _ (s_part vs f _ _ _ _ l (s_part vs f _ _ _ _ (s_choose vs f c d _ _ _ _ s (s_loop vs f a t c d s l) (s_nothing vs f)) (s_none vs f)))) in
        (_, plain.of_loop all t d r.0 r.1, r.2, held_related us ws vs f q r.0 _ _ r.3 (s_loop vs f a t c d s l))
    forth vs env _ _ (of_delayed_abort _ _ w a c q k) f all _ g (s_abort _ _ _ _ _ t _ d s l) =
        let r = forth vs env a q k f all t g l in
        (_, plain.of_delayed_abort all w t d r.0 r.1, r.2, held_related us ws vs f _ _ _ _ (formed_related us ws vs f _ _ q r.0 (λ b u. s_abort vs f w true b u c d s) r.3) (s_abort vs f w false a t c d s l))
    forth vs env _ _ (of_delayed_suspend _ _ w a c q k) f all _ g (s_suspend _ _ _ _ _ t _ d s l) =
        let r = forth vs env a q k f all t g l in
        (_, plain.of_delayed_suspend all w t d r.0 r.1, r.2, held_related us ws vs f _ _ _ _ (formed_related us ws vs f _ _ q r.0 (λ b u. s_suspend vs f w true b u c d s) r.3) (s_suspend vs f w false a t c d s l))
    forth vs env _ _ (of_spared_abort _ _ w a c q e k) f all _ g (s_abort _ _ _ _ _ t _ d s l) =
        let r = forth vs env a q k f all t g l in
        (_, plain.of_spared_abort all w t d r.0 (zeros vs f env all c d true g s e) r.1, r.2, faults_related us ws vs f _ _ _ _ (same_faults us ws vs f env all c d g s) (formed_related us ws vs f _ _ q r.0 (λ b u. s_abort vs f w true b u c d s) r.3))
    forth vs env _ _ (of_spared_suspend _ _ w a c q e k) f all _ g (s_suspend _ _ _ _ _ t _ d s l) =
        let r = forth vs env a q k f all t g l in
        (_, plain.of_spared_suspend all w t d r.0 (zeros vs f env all c d true g s e) r.1, r.2, faults_related us ws vs f _ _ _ _ (same_faults us ws vs f env all c d g s) (formed_related us ws vs f _ _ q r.0 (λ b u. s_suspend vs f w true b u c d s) r.3))
    forth vs env _ _ (of_strong_abort _ _ a c e) f all _ g (s_abort _ _ _ _ _ t _ d s l) =
        (_, plain.of_strong_abort all t d (zeros vs f env all c d false g s e), tt, ends_related us ws vs f _ _ _ _ _ _ a_none (same_faults us ws vs f env all c d g s) (s_abort vs f false true _ _ c d s (tick_sim us ws vs f a t l)))
    forth vs env _ _ (of_weak_abort _ _ a c q e k) f all _ g (s_abort _ _ _ _ _ t _ d s l) =
        let r = forth vs env a q k f all t g l in
        (_, plain.of_weak_abort all t d r.0 (zeros vs f env all c d false g s e) r.1, r.2, faults_related us ws vs f _ _ _ _ (same_faults us ws vs f env all c d g s) (weak_related us ws vs f _ _ q r.0 (s_abort vs f true true _ _ c d s r.3.held) r.3))
    forth vs env _ _ (of_strong_suspend _ _ a c e) f all _ g (s_suspend _ _ _ _ _ t _ d s l) =
        (_, plain.of_strong_suspend all t d (zeros vs f env all c d false g s e), tt, rests_related us ws vs f _ _ _ _ (s_suspend vs f false true _ _ c d s (tick_sim us ws vs f a t l)) (same_faults us ws vs f env all c d g s))
    forth vs env _ _ (of_weak_suspend _ _ a c q e k) f all _ g (s_suspend _ _ _ _ _ t _ d s l) =
        let r = forth vs env a q k f all t g l in
        (_, plain.of_weak_suspend all t d r.0 (zeros vs f env all c d false g s e) r.1, r.2, faults_related us ws vs f _ _ _ _ (same_faults us ws vs f env all c d g s) (stays_related us ws vs f _ _ q r.0 (s_suspend vs f true true _ _ c d s r.3.held) r.3))
    forth vs env _ _ (of_scope _ _ x s a v q e k) f all _ g (s_scope _ _ _ y _ _ t l m) =
        let r = forth vs _ a q k (opened f x y) (slice_set all y v) t (opened_agrees us ws vs f env all x y v l g) m in
        let wanted : v ≡ values_of (resolved_store (storage_of ws y) y r.0.acts 0 (store_of ws y s)) = e ∙ ap values_of (same_wanted us ws vs f x y s q.acts r.0.acts l r.3.acts) in (
          _,
          plain.of_scope all y s t v r.0 (store_length ws y r.0.acts s v wanted) r.1,
          resolved_join _ r.0.met (subst (λ (u : List ℤ). AllResolved (meetings y v u)) wanted (resolved_meetings y v)) r.2,
          scoped_related us ws vs f x y s a t v q r.0 l m r.3,
        )
    forth vs env _ _ (of_frame _ _ m args a q k) f all t g (s_frame _ _ _ _ _ _ s l) =
        let r = forth (us m).vars _ a q k (inner f args) all t (inner_agrees us ws vs f env all m args s g) l in
        (r.0, r.1, r.2, framed_related us ws vs f m args q r.0 s (leaves ws all t r.0 r.1) r.3)
    forth vs env _ _ (of_call _ _ m args q k) f all t g (s_call _ _ _ _ _ s e l) =
        let r = forth vs env _ q k f all t g (s_frame vs f m args _ t s l) in
        (r.0, r.1, r.2, called_related us ws vs f m args t q r.0 (s_call vs f m args t s e l) (held_fresh ws all t r.0 e r.1) r.3)

    pub forth_each : (vs : Vars) (env : Values) (parts : FramedList) (q : Reactions) → ReactEach us vs env parts q → (f : Carry) (all : Values) (ts : Terms) → Agree us ws vs f env all → Sims us ws vs f parts ts → ForthEach vs f all ts q
    forth_each vs env _ _ (of_nobody _ _) f all _ g (s_none _ _) = (_, plain.of_nobody all, tt, nobody_related us ws vs f)
    forth_each vs env _ _ (of_beside _ _ a parts q p k h) f all _ g (s_part _ _ _ _ t ts l m) =
        let r = forth vs env a q k f all t g l in
        let s = forth_each vs env parts p h f all ts g m in
        (_, plain.of_beside all t ts r.0 s.0 r.1 s.1, resolved_join r.0.met s.0.met r.2 s.2, beside_related us ws vs f q p r.0 s.0 r.3 s.3)
