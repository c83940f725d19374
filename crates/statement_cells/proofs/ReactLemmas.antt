-- What reactions leave and hold, and sequences of one part.
use Rattle.std.proofs.Common.{◌≡◌, Bool, true, false, [], ◌++◌, Some, None, refl, sym, ap, ap₂, ◌∙◌, subst, append-nil}
use Rattle.quartz_expr.specs.Values.{Values}
use Rattle.quartz_expr.specs.Vars.{Vars}
use Rattle.quartz_expr.specs.Terms.{Term, nothing, seq, par, abort, suspend, Terms, none, part, is_fresh, are_fresh}
use Rattle.quartz_expr.specs.React.{Reaction, Reactions, unless_ended, sequence, ends, goes_on, React, ReactEach, of_nothing, of_pause, of_write, of_yes, of_no, of_none, of_turn, of_stop, of_par, of_loop, of_delayed_abort, of_delayed_suspend, of_spared_abort, of_spared_suspend, of_strong_abort, of_weak_abort, of_strong_suspend, of_weak_suspend, of_scope, of_nobody, of_beside}
use Rattle.quartz_expr.proofs.LawLemmas.{tick_fresh}
use Rattle.quartz_expr.proofs.TruthLemmas.{and_left, and_right}

-- ---- what is left

pub after_end : (b : Bool) (t : Term) → b ≡ true → unless_ended b t ≡ nothing
after_end true t h = refl
after_end false t h = absurd (cc)

pub before_end : (b : Bool) (t : Term) → b ≡ false → unless_ended b t ≡ t
before_end true t h = absurd (cc)
before_end false t h = refl

-- what ended leaves Nothing
pub leaves : (vs : Vars) (env : Values) (t : Term) (r : Reaction) → React vs env t r → r.ended ≡ true → r.residual ≡ nothing
leaves vs env _ _ (of_nothing _) h = refl
leaves vs env _ _ (of_pause _) h = absurd (cc)
leaves vs env _ _ (of_write _ x i e d p q) h = refl
leaves vs env _ _ (of_yes _ c a b q e k) h = leaves vs env a q k h
leaves vs env _ _ (of_no _ c a b q e k) h = leaves vs env b q k h
leaves vs env _ _ (of_none _) h = refl
leaves vs env _ _ (of_turn _ t ts q p k e j) h = leaves vs env (seq ts) p j h
leaves vs env _ _ (of_stop _ t ts q k e) h = absurd (cc)
leaves vs env _ _ (of_par _ ts p k) h = after_end p.ended (par p.residuals) h
leaves vs env _ _ (of_loop _ t c q k) h = leaves vs env _ q k h
leaves vs env _ _ (of_delayed_abort _ w t c q k) h = after_end q.ended _ h
leaves vs env _ _ (of_delayed_suspend _ w t c q k) h = after_end q.ended _ h
leaves vs env _ _ (of_spared_abort _ w t c q e k) h = after_end q.ended _ h
leaves vs env _ _ (of_spared_suspend _ w t c q e k) h = after_end q.ended _ h
leaves vs env _ _ (of_strong_abort _ t c e) h = refl
leaves vs env _ _ (of_weak_abort _ t c q e k) h = refl
leaves vs env _ _ (of_strong_suspend _ t c e) h = absurd (cc)
leaves vs env _ _ (of_weak_suspend _ t c q e k) h = absurd (cc)
leaves vs env _ _ (of_scope _ x s t v q n k) h = after_end q.ended _ h

-- ---- terms without stores are held as they are

mutual
  pub held_fresh : (vs : Vars) (env : Values) (t : Term) (r : Reaction) → is_fresh t ≡ true → React vs env t r → r.held ≡ t
  held_fresh vs env _ _ f (of_nothing _) = refl
  held_fresh vs env _ _ f (of_pause _) = refl
  held_fresh vs env _ _ f (of_write _ x i e d p q) = refl
  held_fresh vs env _ _ f (of_yes _ c a b q e k) = refl
  held_fresh vs env _ _ f (of_no _ c a b q e k) = refl
  held_fresh vs env _ _ f (of_none _) = refl
  held_fresh vs env _ _ f (of_turn _ t ts q p k e j) = ap (λ u. seq (part u ts)) (held_fresh vs env t q (and_left (is_fresh t) (are_fresh ts) f) k)
  held_fresh vs env _ _ f (of_stop _ t ts q k e) = ap (λ u. seq (part u ts)) (held_fresh vs env t q (and_left (is_fresh t) (are_fresh ts) f) k)
  held_fresh vs env _ _ f (of_par _ ts p k) = ap par (helds_fresh vs env ts p f k)
  held_fresh vs env _ _ f (of_loop _ t c q k) = refl
  held_fresh vs env _ _ f (of_delayed_abort _ w t c q k) = refl
  held_fresh vs env _ _ f (of_delayed_suspend _ w t c q k) = refl
  held_fresh vs env _ _ f (of_spared_abort _ w t c q e k) = ap (λ u. abort w true u c) (held_fresh vs env t q f k)
  held_fresh vs env _ _ f (of_spared_suspend _ w t c q e k) = ap (λ u. suspend w true u c) (held_fresh vs env t q f k)
  held_fresh vs env _ _ f (of_strong_abort _ t c e) = ap (λ u. abort false true u c) (tick_fresh vs t f)
  held_fresh vs env _ _ f (of_weak_abort _ t c q e k) = ap (λ u. abort true true u c) (held_fresh vs env t q f k)
  held_fresh vs env _ _ f (of_strong_suspend _ t c e) = ap (λ u. suspend false true u c) (tick_fresh vs t f)
  held_fresh vs env _ _ f (of_weak_suspend _ t c q e k) = ap (λ u. suspend true true u c) (held_fresh vs env t q f k)
  held_fresh vs env _ _ f (of_scope _ x None t v q n k) = refl
  held_fresh vs env _ _ f (of_scope _ x (Some s) t v q n k) = absurd (cc)

  pub helds_fresh : (vs : Vars) (env : Values) (ts : Terms) (p : Reactions) → are_fresh ts ≡ true → ReactEach vs env ts p → p.helds ≡ ts
  helds_fresh vs env _ _ f (of_nobody _) = refl
  helds_fresh vs env _ _ f (of_beside _ t ts q p k j) =
      ap₂ part (held_fresh vs env t q (and_left (is_fresh t) (are_fresh ts) f) k) (helds_fresh vs env ts p (and_right (is_fresh t) (are_fresh ts) f) j)

-- ---- a sequence of one part

none_back : (vs : Vars) (env : Values) (r : Reaction) → React vs env (seq none) r → r ≡ ends [] [] (seq none)
none_back vs env r (of_none _) = refl

-- what ended, and nothing behind it
ended_alone : (q p : Reaction) → q.ended ≡ true → q.residual ≡ nothing → p ≡ ends [] [] (seq none) → q ≡ record (goes_on none q p) { held = q.held }
ended_alone q p e n h = λ i. record {
  residual = (n ∙ sym (ap (λ (r : Reaction). r.residual) h)) i;
  held = q.held;
  acts = (sym (append-nil q.acts) ∙ sym (ap (λ (r : Reaction). q.acts ++ r.acts) h)) i;
  faults = (sym (append-nil q.faults) ∙ sym (ap (λ (r : Reaction). q.faults ++ r.faults) h)) i;
  met = (sym (append-nil q.met) ∙ sym (ap (λ (r : Reaction). q.met ++ r.met) h)) i;
  ended = (e ∙ sym (ap (λ (r : Reaction). r.ended) h)) i;
}

-- the first part of a sequence ended, and the rest goes on
pub sequence_turn : (vs : Vars) (env : Values) (t : Term) (ts : Terms) (q p : Reaction) → React vs env t q → q.ended ≡ true → React vs env (seq ts) p
    → React vs env (sequence t ts) (record (goes_on ts q p) { held = sequence q.held ts })
sequence_turn vs env t none q p k e j = subst (React vs env t) (ended_alone q p e (leaves vs env t q k e) (none_back vs env p j)) k
sequence_turn vs env t (part u ts) q p k e j = of_turn env t (part u ts) q p k e j

-- the first part of a sequence didn't end
pub sequence_stop : (vs : Vars) (env : Values) (t : Term) (ts : Terms) (q : Reaction) → React vs env t q → q.ended ≡ false
    → React vs env (sequence t ts) (record q { residual = sequence q.residual ts; held = sequence q.held ts })
sequence_stop vs env t none q k e = k
sequence_stop vs env t (part u ts) q k e = of_stop env t (part u ts) q k e

-- what a term does, but for its held term
abbrev pub Does : Vars → Values → Term → Reaction → Type 0
Does vs env t r = (q : Reaction) × React vs env t q × (r.residual ≡ q.residual) × (r.acts ≡ q.acts) × (r.faults ≡ q.faults) × (r.met ≡ q.met) × (r.ended ≡ q.ended)

-- a sequence of one part does what that part does
pub single : (vs : Vars) (env : Values) (t : Term) (ts : Terms) (r : Reaction) → React vs env (seq (part t ts)) r → Does vs env (sequence t ts) r
single vs env t ts _ (of_turn _ _ _ q p k e j) = (_, sequence_turn vs env t ts q p k e j, refl, refl, refl, refl, refl)
single vs env t ts _ (of_stop _ _ _ q k e) = (_, sequence_stop vs env t ts q k e, refl, refl, refl, refl, refl)
