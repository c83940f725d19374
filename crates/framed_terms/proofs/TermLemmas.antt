-- Terms that are the same: they stay so while they do nothing, by induction. Of plain terms: what has ended leaves Nothing,
-- and a term without stores is held as it is, both by induction on the reaction.
use Rattle.std.proofs.Common.{◌≡◌, ℕ, Bool, true, false, List, Option, Some, None, map, option_map, refl, sym, ap, ap₂, ◌∙◌, subst}
use Rattle.quartz_tree.specs.declared.declare.Storage.{Storage}
use Rattle.quartz_tree.specs.Surfaces.{Word}
use Rattle.quartz_tree.specs.Tree.{Tree}
use Rattle.quartz_expr.specs.Values.{Values}
use Rattle.quartz_expr.specs.Vars.{Vars}
use Rattle.quartz_expr.specs.Terms.{Store, Term, Terms, is_fresh, are_fresh}
use Rattle.quartz_expr.specs.Terms as term
use Rattle.quartz_expr.specs.Resolve.{absent}
use Rattle.quartz_expr.specs.Tick as plain
use Rattle.quartz_expr.specs.React.{Reaction, Reactions, React, ReactEach, unless_ended, of_nothing, of_pause, of_write, of_yes, of_no, of_none, of_turn, of_stop, of_par, of_loop, of_delayed_abort, of_delayed_suspend, of_spared_abort, of_spared_suspend, of_strong_abort, of_weak_abort, of_strong_suspend, of_weak_suspend, of_scope, of_nobody, of_beside}
use Rattle.quartz_expr.proofs.LawLemmas.{tick_fresh}
use Rattle.quartz_expr.proofs.TruthLemmas.{and_left, and_right}
use Rattle.framed_terms.specs.Framed.{Framed, FramedList, Meanings, tick, tick_all}
use Rattle.framed_terms.specs.Similar.{Carry, Sim, Sims, s_nothing, s_pause, s_write, s_choose, s_seq, s_par, s_loop, s_abort, s_suspend, s_scope, s_frame, s_call, s_none, s_part, IsLocal}

after_end : (b : Bool) (t : Term) → b ≡ true → unless_ended b t ≡ term.nothing
after_end true t e = refl
after_end false t e = absurd (cc)

-- what ended leaves Nothing
pub leaves : (vs : Vars) (env : Values) (t : Term) (r : Reaction) → React vs env t r → r.ended ≡ true → r.residual ≡ term.nothing
leaves vs env _ _ (of_nothing _) h = refl
leaves vs env _ _ (of_pause _) h = absurd (cc)
leaves vs env _ _ (of_write _ x i e d p q) h = refl
leaves vs env _ _ (of_yes _ c a b q e k) h = leaves vs env a q k h
leaves vs env _ _ (of_no _ c a b q e k) h = leaves vs env b q k h
leaves vs env _ _ (of_none _) h = refl
leaves vs env _ _ (of_turn _ t ts q p k e j) h = leaves vs env (term.seq ts) p j h
leaves vs env _ _ (of_stop _ t ts q k e) h = absurd (cc)
leaves vs env _ _ (of_par _ ts p k) h = after_end p.ended (term.par p.residuals) h
leaves vs env _ _ (of_loop _ t c q k) h = leaves vs env _ q k h
leaves vs env _ _ (of_delayed_abort _ w t c q k) h = after_end q.ended _ h
leaves vs env _ _ (of_delayed_suspend _ w t c q k) h = after_end q.ended _ h
leaves vs env _ _ (of_spared_abort _ w t c q e k) h = after_end q.ended _ h
leaves vs env _ _ (of_spared_suspend _ w t c q e k) h = after_end q.ended _ h
leaves vs env _ _ (of_strong_abort _ t c e) h = refl
leaves vs env _ _ (of_weak_abort _ t c q e k) h = refl
leaves vs env _ _ (of_strong_suspend _ t c e) h = absurd (cc)
leaves vs env _ _ (of_weak_suspend _ t c q e k) h = absurd (cc)
leaves vs env _ _ (of_scope _ x s t v q n k) h = after_end q.ended _ h

-- terms without stores are held as they are
mutual
  pub held_fresh : (vs : Vars) (env : Values) (t : Term) (r : Reaction) → is_fresh t ≡ true → React vs env t r → r.held ≡ t
  held_fresh vs env _ _ f (of_nothing _) = refl
  held_fresh vs env _ _ f (of_pause _) = refl
  held_fresh vs env _ _ f (of_write _ x i e d p q) = refl
  held_fresh vs env _ _ f (of_yes _ c a b q e k) = refl
  held_fresh vs env _ _ f (of_no _ c a b q e k) = refl
  held_fresh vs env _ _ f (of_none _) = refl
  held_fresh vs env _ _ f (of_turn _ t ts q p k e j) = ap (λ u. term.seq (term.part u ts)) (held_fresh vs env t q (and_left (is_fresh t) (are_fresh ts) f) k)
  held_fresh vs env _ _ f (of_stop _ t ts q k e) = ap (λ u. term.seq (term.part u ts)) (held_fresh vs env t q (and_left (is_fresh t) (are_fresh ts) f) k)
  held_fresh vs env _ _ f (of_par _ ts p k) = ap term.par (helds_fresh vs env ts p f k)
  held_fresh vs env _ _ f (of_loop _ t c q k) = refl
  held_fresh vs env _ _ f (of_delayed_abort _ w t c q k) = refl
  held_fresh vs env _ _ f (of_delayed_suspend _ w t c q k) = refl
  held_fresh vs env _ _ f (of_spared_abort _ w t c q e k) = ap (λ u. term.abort w true u c) (held_fresh vs env t q f k)
  held_fresh vs env _ _ f (of_spared_suspend _ w t c q e k) = ap (λ u. term.suspend w true u c) (held_fresh vs env t q f k)
  held_fresh vs env _ _ f (of_strong_abort _ t c e) = ap (λ u. term.abort false true u c) (tick_fresh vs t f)
  held_fresh vs env _ _ f (of_weak_abort _ t c q e k) = ap (λ u. term.abort true true u c) (held_fresh vs env t q f k)
  held_fresh vs env _ _ f (of_strong_suspend _ t c e) = ap (λ u. term.suspend false true u c) (tick_fresh vs t f)
  held_fresh vs env _ _ f (of_weak_suspend _ t c q e k) = ap (λ u. term.suspend true true u c) (held_fresh vs env t q f k)
  held_fresh vs env _ _ f (of_scope _ x None t v q n k) = refl
  held_fresh vs env _ _ f (of_scope _ x (Some s) t v q n k) = absurd (cc)

  pub helds_fresh : (vs : Vars) (env : Values) (ts : Terms) (p : Reactions) → are_fresh ts ≡ true → ReactEach vs env ts p → p.helds ≡ ts
  helds_fresh vs env _ _ f (of_nobody _) = refl
  helds_fresh vs env _ _ f (of_beside _ t ts q p k j) =
      ap₂ term.part (held_fresh vs env t q (and_left (is_fresh t) (are_fresh ts) f) k) (helds_fresh vs env ts p (and_right (is_fresh t) (are_fresh ts) f) j)

advanced_same : (g h : Storage) (s : Option Store) → g ≡ h → option_map (λ (s : Store). map (absent g) s) s ≡ option_map (λ (s : Store). map (absent h) s) s
advanced_same g h s e = ap (λ (g : Storage). option_map (λ (s : Store). map (absent g) s) s) e

module _ (us : Meanings) (ws : Vars) where
  -- the same terms stay the same while they do nothing
  mutual
    pub tick_sim : (vs : Vars) (f : Carry) (a : Framed) (t : Term) → Sim us ws vs f a t → Sim us ws vs f (tick us vs a) (plain.tick ws t)
    tick_sim vs f _ _ (s_nothing _ _) = s_nothing vs f
    tick_sim vs f _ _ (s_pause _ _) = s_pause vs f
    tick_sim vs f _ _ (s_write _ _ x y i j e g d p q h k l) = s_write vs f x y i j e g d p q h k l
    tick_sim vs f _ _ (s_choose _ _ c d a b t u k g h) = s_choose vs f c d _ _ _ _ k (tick_sim vs f a t g) (tick_sim vs f b u h)
    tick_sim vs f _ _ (s_seq _ _ parts ts g) = s_seq vs f _ _ (tick_sims vs f parts ts g)
    tick_sim vs f _ _ (s_par _ _ parts ts g) = s_par vs f _ _ (tick_sims vs f parts ts g)
    tick_sim vs f _ _ (s_loop _ _ a t c d k g) = s_loop vs f _ _ c d k (tick_sim vs f a t g)
    tick_sim vs f _ _ (s_abort _ _ w i a t c d k g) = s_abort vs f w i _ _ c d k (tick_sim vs f a t g)
    tick_sim vs f _ _ (s_suspend _ _ w i a t c d k g) = s_suspend vs f w i _ _ c d k (tick_sim vs f a t g)
    tick_sim vs f _ _ (s_scope _ _ x y s a t l g) =
        subst (λ (o : Option Store). Sim us ws vs f (tick us vs (Framed.scope x s a)) (term.scope y o (plain.tick ws t))) (advanced_same _ _ s l.storage)
        (s_scope vs f x y _ _ _ l (tick_sim vs _ a t g))
    tick_sim vs f _ _ (s_frame _ _ m args a t k g) = s_frame vs f m args _ _ k (tick_sim _ _ a t g)
    tick_sim vs f _ _ (s_call _ _ m args t k e g) = subst (λ (u : Term). Sim us ws vs f (Framed.call m args) u) (sym (tick_fresh ws t e)) (s_call vs f m args t k e g)

    pub tick_sims : (vs : Vars) (f : Carry) (parts : FramedList) (ts : Terms) → Sims us ws vs f parts ts → Sims us ws vs f (tick_all us vs parts) (plain.tick_all ws ts)
    tick_sims vs f _ _ (s_none _ _) = s_none vs f
    tick_sims vs f _ _ (s_part _ _ a parts t ts g h) = s_part vs f _ _ _ _ (tick_sim vs f a t g) (tick_sims vs f parts ts h)
