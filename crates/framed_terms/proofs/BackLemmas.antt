-- Each reaction of the plain term is one of the framed term that it is: by induction on the plain reaction. Frames and calls
-- round a form don't make the plain term smaller; so they are taken off first, by induction on that the terms are the same,
-- and each row meets a form alone.
use Rattle.std.proofs.Common.{◌≡◌, ℕ, ℤ, Bool, true, false, List, [], ◌∷◌, ◌++◌, length, Option, Some, None, refl, sym, ap, ap₂, ◌∙◌, subst, arith}
use Rattle.std.specs.Prelude.{slice_set}
use Rattle.quartz_tree.specs.declared.place.Place.{Place}
use Rattle.quartz_tree.specs.Surfaces.{Word}
use Rattle.quartz_tree.specs.Tree.{Tree}
use Rattle.quartz_expr.specs.declared.act.Act.{Act}
use Rattle.quartz_expr.specs.Values.{Values, is_zero}
use Rattle.quartz_expr.specs.Vars.{Vars, storage_of}
use Rattle.quartz_expr.specs.Value.{value}
use Rattle.quartz_expr.specs.Faults.{faults}
use Rattle.quartz_expr.specs.Terms.{Store, Term, Terms, is_fresh}
use Rattle.quartz_expr.specs.Terms as term
use Rattle.quartz_expr.specs.Tick as ticking
use Rattle.quartz_expr.specs.Writes.{write_acts, write_faults}
use Rattle.quartz_expr.specs.Resolve.{resolved_store, values_of}
use Rattle.quartz_expr.specs.React as plain
use Rattle.quartz_expr.specs.React.{Met, store_of, meetings, AllResolved}
use Rattle.quartz_expr.proofs.LawLemmas.{resolved_length}
use Rattle.framed_terms.specs.Framed.{Framed, FramedList, Meanings, nothing, pause, write, choose, seq, par, loop, abort, suspend, scope, call, frame, none, part, inside, tick}
use Rattle.framed_terms.specs.Reacting.{Reaction, Reactions, React, ReactEach, of_nothing, of_pause, of_write, of_yes, of_no, of_none, of_turn, of_stop, of_par, of_loop, of_delayed_abort, of_delayed_suspend, of_spared_abort, of_spared_suspend, of_strong_abort, of_weak_abort, of_strong_suspend, of_weak_suspend, of_scope, of_frame, of_call, of_nobody, of_beside}
use Rattle.framed_terms.specs.Similar.{Carry, inner, opened, Same, SameActs, a_none, Sim, Sims, s_nothing, s_pause, s_write, s_choose, s_seq, s_par, s_loop, s_abort, s_suspend, s_scope, s_frame, s_call, s_none, s_part, IsLocal, Suits, Agree, Related, RelatedEach}
use Rattle.framed_terms.proofs.ExprLemmas.{same_values, same_faults, same_write_acts, same_write_faults}
use Rattle.framed_terms.proofs.EnvLemmas.{opened_agrees, inner_agrees}
use Rattle.framed_terms.proofs.TermLemmas.{leaves, held_fresh, tick_sim}
use Rattle.framed_terms.proofs.RowLemmas.{ends_related, pause_related, held_related, faults_related, turn_related, stop_related, together_related, nobody_related, beside_related, formed_related, stays_related, rests_related, weak_related, same_stores, same_wanted, scoped_related, framed_related, called_related}

-- ---- what is resolved

resolved_parts : (a b : List Met) → AllResolved (a ++ b) → AllResolved a × AllResolved b
resolved_parts [] b h = (tt, h)
resolved_parts (m ∷ a) b h = let g = resolved_parts a b h.1 in ((h.0, g.0), g.1)

met_wanted : (x : ℕ) (v w : List ℤ) → length v ≡ length w → AllResolved (meetings x v w) → v ≡ w
met_wanted x [] [] e h = refl
met_wanted x [] (z ∷ w) e h = absurd (omega (arith, e))
met_wanted x (z ∷ v) [] e h = absurd (omega (arith, e))
met_wanted x (y ∷ v) (z ∷ w) e h = ap₂ (λ (a : ℤ) (l : List ℤ). a ∷ l) h.0 (met_wanted x v w (omega (arith, e)) h.1)

-- neither a frame nor a call
abbrev is_head : Framed → Bool
is_head (call _ _) = false
is_head (frame _ _ _) = false
is_head _ = true

module _ (us : Meanings) (ws : Vars) where
  -- the framed term reacts in the same way
  abbrev pub Back : Vars → Carry → Values → Framed → plain.Reaction → Type 0
  Back vs f env a r = (q : Reaction) × React us vs env a q × Related us ws vs f q r

  -- and so each framed term that is this plain term
  abbrev pub Backs : Values → Term → plain.Reaction → Type 0
  Backs all t r = (vs : Vars) (f : Carry) (env : Values) (a : Framed) → Agree us ws vs f env all → Sim us ws vs f a t → Back vs f env a r

  -- each one that is no frame and no call
  abbrev Heads : Values → Term → plain.Reaction → Type 0
  Heads all t r = (vs : Vars) (f : Carry) (env : Values) (a : Framed) → Agree us ws vs f env all → Sim us ws vs f a t → is_head a ≡ true → Back vs f env a r

  -- ---- frames and calls round a form

  framed_back : (vs : Vars) (f : Carry) (env all : Values) (m : Word) (args : List ℕ) (a : Framed) (t : Term) (r : plain.Reaction) → Suits us ws f m args → plain.React ws all t r
      → Back (us m).vars (inner f args) (inside (us m).vars args env) a r → Back vs f env (frame m args a) r
  framed_back vs f env all m args a t r s k b = (_, of_frame vs env m args a b.0 b.1, framed_related us ws vs f m args b.0 r s (leaves ws all t r k) b.2)

  called_back : (vs : Vars) (f : Carry) (env all : Values) (m : Word) (args : List ℕ) (t : Term) (r : plain.Reaction) → Sim us ws vs f (call m args) t → is_fresh t ≡ true → plain.React ws all t r
      → Back vs f env (frame m args (us m).body) r → Back vs f env (call m args) r
  called_back vs f env all m args t r s e k b = (_, of_call vs env m args b.0 b.1, called_related us ws vs f m args t b.0 r s (held_fresh ws all t r e k) b.2)

  record Peeled (vs : Vars) (f : Carry) (env all : Values) (a : Framed) (t : Term) : Type 0 where
    vars : Vars
    carry : Carry
    within : Values
    core : Framed
    head : is_head core ≡ true
    agrees : Agree us ws vars carry within all
    sim : Sim us ws vars carry core t
    wrap : (r : plain.Reaction) → plain.React ws all t r → Back vars carry within core r → Back vs f env a r

  bare : (vs : Vars) (f : Carry) (env all : Values) (a : Framed) (t : Term) → is_head a ≡ true → Agree us ws vs f env all → Sim us ws vs f a t → Peeled vs f env all a t
  bare vs f env all a t h g s = record { vars = vs; carry = f; within = env; core = a; head = h; agrees = g; sim = s; wrap = λ r k b. b }

  peel : (vs : Vars) (f : Carry) (env all : Values) (a : Framed) (t : Term) → Agree us ws vs f env all → Sim us ws vs f a t → Peeled vs f env all a t
  peel vs f env all _ _ g (s_frame _ _ m args a t s l) =
      let p = peel (us m).vars (inner f args) (inside (us m).vars args env) all a t (inner_agrees us ws vs f env all m args s g) l in
      record {
        vars = p.vars;
        carry = p.carry;
        within = p.within;
        core = p.core;
        head = p.head;
        agrees = p.agrees;
        sim = p.sim;
        wrap = λ r k b. framed_back vs f env all m args a t r s k (p.wrap r k b);
      }
  peel vs f env all _ _ g (s_call _ _ m args t s e l) =
      let p = peel (us m).vars (inner f args) (inside (us m).vars args env) all (us m).body t (inner_agrees us ws vs f env all m args s g) l in
      record {
        vars = p.vars;
        carry = p.carry;
        within = p.within;
        core = p.core;
        head = p.head;
        agrees = p.agrees;
        sim = p.sim;
        wrap = λ r k b. called_back vs f env all m args t r (s_call vs f m args t s e l) e k (framed_back vs f env all m args (us m).body t r s k (p.wrap r k b));
      }
  peel vs f env all _ _ g (s_nothing _ _) = bare vs f env all _ _ refl g (s_nothing vs f)
  peel vs f env all _ _ g (s_pause _ _) = bare vs f env all _ _ refl g (s_pause vs f)
  peel vs f env all _ _ g (s_write _ _ x y i j e h d p q k l m) = bare vs f env all _ _ refl g (s_write vs f x y i j e h d p q k l m)
  peel vs f env all _ _ g (s_choose _ _ c d a b t u k l m) = bare vs f env all _ _ refl g (s_choose vs f c d a b t u k l m)
  peel vs f env all _ _ g (s_seq _ _ parts ts l) = bare vs f env all _ _ refl g (s_seq vs f parts ts l)
  peel vs f env all _ _ g (s_par _ _ parts ts l) = bare vs f env all _ _ refl g (s_par vs f parts ts l)
  peel vs f env all _ _ g (s_loop _ _ a t c d k l) = bare vs f env all _ _ refl g (s_loop vs f a t c d k l)
  peel vs f env all _ _ g (s_abort _ _ w i a t c d k l) = bare vs f env all _ _ refl g (s_abort vs f w i a t c d k l)
  peel vs f env all _ _ g (s_suspend _ _ w i a t c d k l) = bare vs f env all _ _ refl g (s_suspend vs f w i a t c d k l)
  peel vs f env all _ _ g (s_scope _ _ x y s a t k l) = bare vs f env all _ _ refl g (s_scope vs f x y s a t k l)

  by_head : (all : Values) (t : Term) (r : plain.Reaction) → plain.React ws all t r → Heads all t r → Backs all t r
  by_head all t r k h vs f env a g s = let p = peel vs f env all a t g s in p.wrap r k (h p.vars p.carry p.within p.core p.agrees p.sim p.head)

  -- ---- the rows

  zeros : (vs : Vars) (f : Carry) (env all : Values) (c d : Tree ℕ) (b : Bool) → Agree us ws vs f env all → Same f c d → is_zero (value ws all d) ≡ b → is_zero (value vs env c) ≡ b
  zeros vs f env all c d b g s e = ap is_zero (same_values us ws vs f env all c d g s) ∙ e

  row_nothing : (all : Values) → Heads all term.nothing (plain.ends [] [] term.nothing)
  row_nothing all vs f env _ g (s_nothing _ _) h = (_, of_nothing vs env, ends_related us ws vs f [] [] [] [] nothing term.nothing a_none refl (s_nothing vs f))
  row_nothing all vs f env _ g _ h = absurd (cc)

  row_pause : (all : Values) → Heads all term.pause (record { residual = term.nothing; held = term.pause; acts = []; faults = []; met = []; ended = false })
  row_pause all vs f env _ g (s_pause _ _) h = (_, of_pause vs env, pause_related us ws vs f)
  row_pause all vs f env _ g _ h = absurd (cc)

  row_write : (all : Values) (y : ℕ) (j : Option (Tree ℕ)) (e : Tree ℕ) (d : Bool) (p q : Place)
      → Heads all (term.write y j e d p q) (plain.ends (write_acts ws all y j e d) (write_faults ws all y j e p q) (term.write y j e d p q))
  row_write all y j e d p q vs f env _ g (s_write _ _ x _ i _ c _ _ _ _ k l m) h =
      (_, of_write vs env x i c d p q, ends_related us ws vs f _ _ _ _ _ _ (same_write_acts us ws vs f env all x y i j c e d g k l m) (same_write_faults us ws vs f env all x y i j c e p q g k l m) (s_write vs f x y i j c e d p q k l m))
  row_write all y j e d p q vs f env _ g _ h = absurd (cc)

  row_yes : (all : Values) (d : Tree ℕ) (t u : Term) (r : plain.Reaction) → is_zero (value ws all d) ≡ false → Backs all t r
      → Heads all (term.choose d t u) (plain.after_faults (faults ws all d) (record r { held = term.choose d t u }))
  row_yes all d t u r e k vs f env _ g (s_choose _ _ c _ a b _ _ s l m) h =
      let q = k vs f env a g l in
      (_, of_yes vs env c a b q.0 (zeros vs f env all c d false g s e) q.1, faults_related us ws vs f _ _ _ _ (same_faults us ws vs f env all c d g s) (held_related us ws vs f q.0 r _ _ q.2 (s_choose vs f c d a b t u s l m)))
  row_yes all d t u r e k vs f env _ g _ h = absurd (cc)

  row_no : (all : Values) (d : Tree ℕ) (t u : Term) (r : plain.Reaction) → is_zero (value ws all d) ≡ true → Backs all u r
      → Heads all (term.choose d t u) (plain.after_faults (faults ws all d) (record r { held = term.choose d t u }))
  row_no all d t u r e k vs f env _ g (s_choose _ _ c _ a b _ _ s l m) h =
      let q = k vs f env b g m in
      (_, of_no vs env c a b q.0 (zeros vs f env all c d true g s e) q.1, faults_related us ws vs f _ _ _ _ (same_faults us ws vs f env all c d g s) (held_related us ws vs f q.0 r _ _ q.2 (s_choose vs f c d a b t u s l m)))
  row_no all d t u r e k vs f env _ g _ h = absurd (cc)

  row_none : (all : Values) → Heads all (term.seq term.none) (plain.ends [] [] (term.seq term.none))
  row_none all vs f env _ g (s_seq _ _ _ _ (s_none _ _)) h = (_, of_none vs env, ends_related us ws vs f [] [] [] [] _ _ a_none refl (s_seq vs f _ _ (s_none vs f)))
  row_none all vs f env _ g _ h = absurd (cc)

  row_turn : (all : Values) (t : Term) (ts : Terms) (r s : plain.Reaction) → Backs all t r → r.ended ≡ true → Backs all (term.seq ts) s → Heads all (term.seq (term.part t ts)) (plain.goes_on ts r s)
  row_turn all t ts r s k e h vs f env _ g (s_seq _ _ _ _ (s_part _ _ a parts _ _ l m)) i =
      let q = k vs f env a g l in
      let p = h vs f env (seq parts) g (s_seq vs f parts ts m) in
      (_, of_turn vs env a parts q.0 p.0 q.1 (q.2.ended ∙ e) p.1, turn_related us ws vs f parts ts q.0 p.0 r s m q.2 p.2)
  row_turn all t ts r s k e h vs f env _ g _ i = absurd (cc)

  row_stop : (all : Values) (t : Term) (ts : Terms) (r : plain.Reaction) → Backs all t r → r.ended ≡ false
      → Heads all (term.seq (term.part t ts)) (record r { residual = plain.sequence r.residual ts; held = term.seq (term.part r.held ts) })
  row_stop all t ts r k e vs f env _ g (s_seq _ _ _ _ (s_part _ _ a parts _ _ l m)) i =
      let q = k vs f env a g l in
      (_, of_stop vs env a parts q.0 q.1 (q.2.ended ∙ e), stop_related us ws vs f parts ts q.0 r m q.2)
  row_stop all t ts r k e vs f env _ g _ i = absurd (cc)

  -- the parts of a parallel
  abbrev pub BacksEach : Values → Terms → plain.Reactions → Type 0
  BacksEach all ts r = (vs : Vars) (f : Carry) (env : Values) (parts : FramedList) → Agree us ws vs f env all → Sims us ws vs f parts ts
      → (q : Reactions) × ReactEach us vs env parts q × RelatedEach us ws vs f q r

  row_par : (all : Values) (ts : Terms) (r : plain.Reactions) → BacksEach all ts r → Heads all (term.par ts) (plain.together r)
  row_par all ts r k vs f env _ g (s_par _ _ parts _ l) h =
      let q = k vs f env parts g l in
      (_, of_par vs env parts q.0 q.1, together_related us ws vs f q.0 r q.2)
  row_par all ts r k vs f env _ g _ h = absurd (cc)

  row_nobody : (all : Values) → BacksEach all term.none (record { residuals = term.none; helds = term.none; acts = []; faults = []; met = []; ended = true })
  row_nobody all vs f env _ g (s_none _ _) = (_, of_nobody vs env, nobody_related us ws vs f)

  row_beside : (all : Values) (t : Term) (ts : Terms) (r : plain.Reaction) (s : plain.Reactions) → Backs all t r → BacksEach all ts s → BacksEach all (term.part t ts) (plain.beside r s)
  row_beside all t ts r s k h vs f env _ g (s_part _ _ a parts _ _ l m) =
      let q = k vs f env a g l in
      let p = h vs f env parts g m in
      (_, of_beside vs env a parts q.0 p.0 q.1 p.1, beside_related us ws vs f q.0 p.0 r s q.2 p.2)

  row_loop : (all : Values) (t : Term) (d : Tree ℕ) (r : plain.Reaction) → Backs all (term.seq (term.part t (term.part (term.choose d (term.loop t d) term.nothing) term.none))) r
      → Heads all (term.loop t d) (record r { held = term.loop t d })
  row_loop all t d r k vs f env _ g (s_loop _ _ a _ c _ s l) h =
      let q = k vs f env _ g (s_seq vs f _ _ (s_part vs f _ _ _ _ l (s_part vs f _ _ _ _ (s_choose vs f c d _ _ _ _ s (s_loop vs f a t c d s l) (s_nothing vs f)) (s_none vs f)))) in
      (_, of_loop vs env a c q.0 q.1, held_related us ws vs f q.0 r _ _ q.2 (s_loop vs f a t c d s l))
  row_loop all t d r k vs f env _ g _ h = absurd (cc)

  row_delayed_abort : (all : Values) (w : Bool) (t : Term) (d : Tree ℕ) (r : plain.Reaction) → Backs all t r
      → Heads all (term.abort w false t d) (record (plain.formed (λ u. term.abort w true u d) r) { held = term.abort w false t d })
  row_delayed_abort all w t d r k vs f env _ g (s_abort _ _ _ _ a _ c _ s l) h =
      let q = k vs f env a g l in
      (_, of_delayed_abort vs env w a c q.0 q.1, held_related us ws vs f _ _ _ _ (formed_related us ws vs f _ _ q.0 r (λ b u. s_abort vs f w true b u c d s) q.2) (s_abort vs f w false a t c d s l))
  row_delayed_abort all w t d r k vs f env _ g _ h = absurd (cc)

  row_delayed_suspend : (all : Values) (w : Bool) (t : Term) (d : Tree ℕ) (r : plain.Reaction) → Backs all t r
      → Heads all (term.suspend w false t d) (record (plain.formed (λ u. term.suspend w true u d) r) { held = term.suspend w false t d })
  row_delayed_suspend all w t d r k vs f env _ g (s_suspend _ _ _ _ a _ c _ s l) h =
      let q = k vs f env a g l in
      (_, of_delayed_suspend vs env w a c q.0 q.1, held_related us ws vs f _ _ _ _ (formed_related us ws vs f _ _ q.0 r (λ b u. s_suspend vs f w true b u c d s) q.2) (s_suspend vs f w false a t c d s l))
  row_delayed_suspend all w t d r k vs f env _ g _ h = absurd (cc)

  row_spared_abort : (all : Values) (w : Bool) (t : Term) (d : Tree ℕ) (r : plain.Reaction) → is_zero (value ws all d) ≡ true → Backs all t r
      → Heads all (term.abort w true t d) (plain.after_faults (faults ws all d) (plain.formed (λ u. term.abort w true u d) r))
  row_spared_abort all w t d r e k vs f env _ g (s_abort _ _ _ _ a _ c _ s l) h =
      let q = k vs f env a g l in
      (_, of_spared_abort vs env w a c q.0 (zeros vs f env all c d true g s e) q.1, faults_related us ws vs f _ _ _ _ (same_faults us ws vs f env all c d g s) (formed_related us ws vs f _ _ q.0 r (λ b u. s_abort vs f w true b u c d s) q.2))
  row_spared_abort all w t d r e k vs f env _ g _ h = absurd (cc)

  row_spared_suspend : (all : Values) (w : Bool) (t : Term) (d : Tree ℕ) (r : plain.Reaction) → is_zero (value ws all d) ≡ true → Backs all t r
      → Heads all (term.suspend w true t d) (plain.after_faults (faults ws all d) (plain.formed (λ u. term.suspend w true u d) r))
  row_spared_suspend all w t d r e k vs f env _ g (s_suspend _ _ _ _ a _ c _ s l) h =
      let q = k vs f env a g l in
      (_, of_spared_suspend vs env w a c q.0 (zeros vs f env all c d true g s e) q.1, faults_related us ws vs f _ _ _ _ (same_faults us ws vs f env all c d g s) (formed_related us ws vs f _ _ q.0 r (λ b u. s_suspend vs f w true b u c d s) q.2))
  row_spared_suspend all w t d r e k vs f env _ g _ h = absurd (cc)

  row_strong_abort : (all : Values) (t : Term) (d : Tree ℕ) → is_zero (value ws all d) ≡ false → Heads all (term.abort false true t d) (plain.ends [] (faults ws all d) (term.abort false true (ticking.tick ws t) d))
  row_strong_abort all t d e vs f env _ g (s_abort _ _ _ _ a _ c _ s l) h =
      (_, of_strong_abort vs env a c (zeros vs f env all c d false g s e), ends_related us ws vs f _ _ _ _ _ _ a_none (same_faults us ws vs f env all c d g s) (s_abort vs f false true _ _ c d s (tick_sim us ws vs f a t l)))
  row_strong_abort all t d e vs f env _ g _ h = absurd (cc)

  row_weak_abort : (all : Values) (t : Term) (d : Tree ℕ) (r : plain.Reaction) → is_zero (value ws all d) ≡ false → Backs all t r
      → Heads all (term.abort true true t d) (plain.after_faults (faults ws all d) (record r { residual = term.nothing; held = term.abort true true r.held d; ended = true }))
  row_weak_abort all t d r e k vs f env _ g (s_abort _ _ _ _ a _ c _ s l) h =
      let q = k vs f env a g l in
      (_, of_weak_abort vs env a c q.0 (zeros vs f env all c d false g s e) q.1, faults_related us ws vs f _ _ _ _ (same_faults us ws vs f env all c d g s) (weak_related us ws vs f _ _ q.0 r (s_abort vs f true true _ _ c d s q.2.held) q.2))
  row_weak_abort all t d r e k vs f env _ g _ h = absurd (cc)

  row_strong_suspend : (all : Values) (t : Term) (d : Tree ℕ) → is_zero (value ws all d) ≡ false
      → Heads all (term.suspend false true t d) (plain.rests (term.suspend false true (ticking.tick ws t) d) (faults ws all d))
  row_strong_suspend all t d e vs f env _ g (s_suspend _ _ _ _ a _ c _ s l) h =
      (_, of_strong_suspend vs env a c (zeros vs f env all c d false g s e), rests_related us ws vs f _ _ _ _ (s_suspend vs f false true _ _ c d s (tick_sim us ws vs f a t l)) (same_faults us ws vs f env all c d g s))
  row_strong_suspend all t d e vs f env _ g _ h = absurd (cc)

  row_weak_suspend : (all : Values) (t : Term) (d : Tree ℕ) (r : plain.Reaction) → is_zero (value ws all d) ≡ false → Backs all t r
      → Heads all (term.suspend true true t d) (plain.after_faults (faults ws all d) (plain.stays (term.suspend true true r.held d) r))
  row_weak_suspend all t d r e k vs f env _ g (s_suspend _ _ _ _ a _ c _ s l) h =
      let q = k vs f env a g l in
      (_, of_weak_suspend vs env a c q.0 (zeros vs f env all c d false g s e) q.1, faults_related us ws vs f _ _ _ _ (same_faults us ws vs f env all c d g s) (stays_related us ws vs f _ _ q.0 r (s_suspend vs f true true _ _ c d s q.2.held) q.2))
  row_weak_suspend all t d r e k vs f env _ g _ h = absurd (cc)

  row_scope : (all : Values) (y : ℕ) (s : Option Store) (t : Term) (v : List ℤ) (r : plain.Reaction) → v ≡ values_of (resolved_store (storage_of ws y) y r.acts 0 (store_of ws y s)) → Backs (slice_set all y v) t r
      → Heads all (term.scope y s t) (plain.scoped ws y s t v r)
  row_scope all y s t v r e k vs f env _ g (s_scope _ _ x _ _ a _ l m) h =
      let q = k vs (opened f x y) (slice_set env x v) a (opened_agrees us ws vs f env all x y v l g) m in
      (_, of_scope vs env x s a v q.0 (e ∙ ap values_of (sym (same_wanted us ws vs f x y s q.0.acts r.acts l q.2.acts))) q.1, scoped_related us ws vs f x y s a t v q.0 r l m q.2)
  row_scope all y s t v r e k vs f env _ g _ h = absurd (cc)

  -- ---- all

  mutual
    pub back : (all : Values) (t : Term) (r : plain.Reaction) → plain.React ws all t r → AllResolved r.met → Backs all t r
    back all _ _ (plain.of_nothing _) i = by_head all _ _ (plain.of_nothing all) (row_nothing all)
    back all _ _ (plain.of_pause _) i = by_head all _ _ (plain.of_pause all) (row_pause all)
    back all _ _ (plain.of_write _ y j e d p q) i = by_head all _ _ (plain.of_write all y j e d p q) (row_write all y j e d p q)
    back all _ _ (plain.of_yes _ d t u r e k) i = by_head all _ _ (plain.of_yes all d t u r e k) (row_yes all d t u r e (back all t r k i))
    back all _ _ (plain.of_no _ d t u r e k) i = by_head all _ _ (plain.of_no all d t u r e k) (row_no all d t u r e (back all u r k i))
    back all _ _ (plain.of_none _) i = by_head all _ _ (plain.of_none all) (row_none all)
    back all _ _ (plain.of_turn _ t ts r s k e h) i =
        let j = resolved_parts r.met s.met i in by_head all _ _ (plain.of_turn all t ts r s k e h) (row_turn all t ts r s (back all t r k j.0) e (back all (term.seq ts) s h j.1))
    back all _ _ (plain.of_stop _ t ts r k e) i = by_head all _ _ (plain.of_stop all t ts r k e) (row_stop all t ts r (back all t r k i) e)
    back all _ _ (plain.of_par _ ts r k) i = by_head all _ _ (plain.of_par all ts r k) (row_par all ts r (back_each all ts r k i))
    back all _ _ (plain.of_loop _ t d r k) i = by_head all _ _ (plain.of_loop all t d r k) (row_loop all t d r (back all _ r k i))
    back all _ _ (plain.of_delayed_abort _ w t d r k) i = by_head all _ _ (plain.of_delayed_abort all w t d r k) (row_delayed_abort all w t d r (back all t r k i))
    back all _ _ (plain.of_delayed_suspend _ w t d r k) i = by_head all _ _ (plain.of_delayed_suspend all w t d r k) (row_delayed_suspend all w t d r (back all t r k i))
    back all _ _ (plain.of_spared_abort _ w t d r e k) i = by_head all _ _ (plain.of_spared_abort all w t d r e k) (row_spared_abort all w t d r e (back all t r k i))
    back all _ _ (plain.of_spared_suspend _ w t d r e k) i = by_head all _ _ (plain.of_spared_suspend all w t d r e k) (row_spared_suspend all w t d r e (back all t r k i))
    back all _ _ (plain.of_strong_abort _ t d e) i = by_head all _ _ (plain.of_strong_abort all t d e) (row_strong_abort all t d e)
    back all _ _ (plain.of_weak_abort _ t d r e k) i = by_head all _ _ (plain.of_weak_abort all t d r e k) (row_weak_abort all t d r e (back all t r k i))
    back all _ _ (plain.of_strong_suspend _ t d e) i = by_head all _ _ (plain.of_strong_suspend all t d e) (row_strong_suspend all t d e)
    back all _ _ (plain.of_weak_suspend _ t d r e k) i = by_head all _ _ (plain.of_weak_suspend all t d r e k) (row_weak_suspend all t d r e (back all t r k i))
    back all _ _ (plain.of_scope _ y s t v r e k) i =
        let j = resolved_parts _ r.met i in
        by_head all _ _ (plain.of_scope all y s t v r e k)
        (row_scope all y s t v r (met_wanted y v _ (e ∙ sym (resolved_length (storage_of ws y) y r.acts 0 (store_of ws y s))) j.0) (back _ t r k j.1))

    pub back_each : (all : Values) (ts : Terms) (r : plain.Reactions) → plain.ReactEach ws all ts r → AllResolved r.met → BacksEach all ts r
    back_each all _ _ (plain.of_nobody _) i = row_nobody all
    back_each all _ _ (plain.of_beside _ t ts r s k h) i =
        let j = resolved_parts r.met s.met i in row_beside all t ts r s (back all t r k j.0) (back_each all ts s h j.1)
