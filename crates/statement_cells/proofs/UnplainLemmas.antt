-- A term reacts as one that differs in the kept values of events alone.
use Rattle.std.proofs.Common.{◌≡◌, ℕ, suc, ◌+◌, ◌&&◌, ℤ, pos, Bool, true, false, List, [], ◌∷◌, ◌++◌, length, map, Option, Some, None, refl, sym, ap, ap₂, ◌∙◌}
use Rattle.std.specs.Prelude.{option_map, slice_set}
use Rattle.quartz_tree.specs.declared.fault.Fault.{Fault}
use Rattle.quartz_tree.specs.declared.place.Place.{Place}
use Rattle.quartz_tree.specs.declared.declare.Storage.{Storage}
use Rattle.quartz_tree.specs.declared.declare.Storage.TheVariants.{Mem, Event}
use Rattle.quartz_tree.specs.Tree.{Tree as Expr}
use Rattle.quartz_expr.specs.declared.act.Act.{Act}
use Rattle.quartz_expr.specs.declared.act.Kept.{Kept}
use Rattle.quartz_expr.specs.Values.{Values}
use Rattle.quartz_expr.specs.Vars.{Vars, declared_at, storage_of}
use Rattle.quartz_expr.specs.Terms.{Store, Term, nothing, pause, write, choose, seq, par, loop, abort, suspend, scope, Terms, none, part}
use Rattle.quartz_expr.specs.Faults.{faults}
use Rattle.quartz_expr.specs.Resolve.{absent, given_store, kept, others, resolved, resolved_store, store_conflicts, values_of, writes_of}
use Rattle.quartz_expr.specs.Tick.{tick, tick_all}
use Rattle.quartz_expr.specs.React.{Met, React, ReactEach, Reaction, Reactions, ends, held_scope, meetings, sequence, store_of, unless_ended, of_nothing, of_pause, of_write, of_yes, of_no, of_none, of_turn, of_stop, of_par, of_loop, of_delayed_abort, of_delayed_suspend, of_spared_abort, of_spared_suspend, of_strong_abort, of_weak_abort, of_strong_suspend, of_weak_suspend, of_scope, of_nobody, of_beside}
use Rattle.statement_cells.specs.Stands.{plain, plain_all, plain_kept, plain_store}
use Rattle.quartz_expr.proofs.TruthLemmas.{heads}

-- ---- stores

resolved_alike : (st : Storage) (a b : Kept) (now : List ℤ) → plain_kept st a ≡ plain_kept st b → resolved st a now ≡ resolved st b now
resolved_alike Mem a b now e = ap (λ (k : Kept). resolved Mem k now) e
resolved_alike Event a b now e = ap (λ (k : Kept). resolved Event k now) e

-- what acts resolve doesn't depend on kept values of events
store_alike : (st : Storage) (x : ℕ) (ws : List Act) (n : ℕ) (s u : Store) → map (plain_kept st) s ≡ map (plain_kept st) u → resolved_store st x ws n s ≡ resolved_store st x ws n u
store_alike st x ws n [] [] e = refl
store_alike st x ws n (a ∷ s) (b ∷ u) e = ap₂ (λ z l. kept z (writes_of x n true ws) ∷ l) (resolved_alike st a b (writes_of x n false ws) (heads _ _ _ _ e).0) (store_alike st x ws (n + 1) s u (heads _ _ _ _ e).1)
store_alike st x ws n [] (b ∷ u) e = absurd (cc)
store_alike st x ws n (a ∷ s) [] e = absurd (cc)

length_alike : (st : Storage) (s u : Store) → map (plain_kept st) s ≡ map (plain_kept st) u → length s ≡ length u
length_alike st [] [] e = refl
length_alike st (a ∷ s) (b ∷ u) e = ap suc (length_alike st s u (heads _ _ _ _ e).1)
length_alike st [] (b ∷ u) e = absurd (cc)
length_alike st (a ∷ s) [] e = absurd (cc)

absent_alike : (st : Storage) (s u : Store) → map (plain_kept st) s ≡ map (plain_kept st) u → map (absent st) s ≡ map (absent st) u
absent_alike st [] [] e = refl
absent_alike st (a ∷ s) (b ∷ u) e = ap₂ (λ z l. kept z [] ∷ l) (resolved_alike st a b [] (heads _ _ _ _ e).0) (absent_alike st s u (heads _ _ _ _ e).1)
absent_alike st [] (b ∷ u) e = absurd (cc)
absent_alike st (a ∷ s) [] e = absurd (cc)

-- ---- terms

module _ (vs : Vars) where
  pub data AlikeStore (x : ℕ) : Option Store → Option Store → Type 0 where
    no_store : AlikeStore x None None
    some_store : (s u : Store) → plain_store vs x s ≡ plain_store vs x u → AlikeStore x (Some s) (Some u)

  mutual
    -- terms that differ in kept values of events alone
    pub data Alike : Term → Term → Type 0 where
      alike_nothing : Alike nothing nothing
      alike_pause : Alike pause pause
      alike_write : (x : ℕ) (i : Option (Expr ℕ)) (e : Expr ℕ) (d : Bool) (p q : Place) → Alike (write x i e d p q) (write x i e d p q)
      alike_choose : (c : Expr ℕ) (a a' b b' : Term) → Alike a a' → Alike b b' → Alike (choose c a b) (choose c a' b')
      alike_seq : (ts us : Terms) → AlikeAll ts us → Alike (seq ts) (seq us)
      alike_par : (ts us : Terms) → AlikeAll ts us → Alike (par ts) (par us)
      alike_loop : (t u : Term) (c : Expr ℕ) → Alike t u → Alike (loop t c) (loop u c)
      alike_abort : (w i : Bool) (t u : Term) (c : Expr ℕ) → Alike t u → Alike (abort w i t c) (abort w i u c)
      alike_suspend : (w i : Bool) (t u : Term) (c : Expr ℕ) → Alike t u → Alike (suspend w i t c) (suspend w i u c)
      alike_scope : (x : ℕ) (s s' : Option Store) (t u : Term) → AlikeStore x s s' → Alike t u → Alike (scope x s t) (scope x s' u)

    pub data AlikeAll : Terms → Terms → Type 0 where
      alike_none : AlikeAll none none
      alike_part : (t u : Term) (ts us : Terms) → Alike t u → AlikeAll ts us → AlikeAll (part t ts) (part u us)

  store_same : (x : ℕ) (s : Option Store) → AlikeStore x s s
  store_same x None = no_store
  store_same x (Some s) = some_store s s refl

  plain_twice : (st : Storage) (s : Store) → map (plain_kept st) s ≡ map (plain_kept st) (map (plain_kept st) s)
  plain_twice st [] = refl
  plain_twice Mem (k ∷ s) = ap (λ l. k ∷ l) (plain_twice Mem s)
  plain_twice Event (k ∷ s) = ap (λ l. record k { value = pos 0 } ∷ l) (plain_twice Event s)

  store_plain : (x : ℕ) (s : Option Store) → AlikeStore x s (option_map (plain_store vs x) s)
  store_plain x None = no_store
  store_plain x (Some s) = some_store s (plain_store vs x s) (plain_twice (storage_of vs x) s)

  mutual
    -- a term and the plain one
    pub alike_plain : (t : Term) → Alike t (plain vs t)
    alike_plain nothing = alike_nothing
    alike_plain pause = alike_pause
    alike_plain (write x i e d p q) = alike_write x i e d p q
    alike_plain (choose c a b) = alike_choose c a (plain vs a) b (plain vs b) (alike_plain a) (alike_plain b)
    alike_plain (seq ts) = alike_seq ts (plain_all vs ts) (alike_plain_all ts)
    alike_plain (par ts) = alike_par ts (plain_all vs ts) (alike_plain_all ts)
    alike_plain (loop t c) = alike_loop t (plain vs t) c (alike_plain t)
    alike_plain (abort w i t c) = alike_abort w i t (plain vs t) c (alike_plain t)
    alike_plain (suspend w i t c) = alike_suspend w i t (plain vs t) c (alike_plain t)
    alike_plain (scope x s t) = alike_scope x s (option_map (plain_store vs x) s) t (plain vs t) (store_plain x s) (alike_plain t)

    alike_plain_all : (ts : Terms) → AlikeAll ts (plain_all vs ts)
    alike_plain_all none = alike_none
    alike_plain_all (part t ts) = alike_part t (plain vs t) ts (plain_all vs ts) (alike_plain t) (alike_plain_all ts)

  store_plains : (x : ℕ) (s u : Option Store) → AlikeStore x s u → option_map (plain_store vs x) s ≡ option_map (plain_store vs x) u
  store_plains x _ _ no_store = refl
  store_plains x _ _ (some_store s u e) = ap Some e

  mutual
    -- alike terms are plainly the same
    pub plains_alike : (t u : Term) → Alike t u → plain vs t ≡ plain vs u
    plains_alike _ _ alike_nothing = refl
    plains_alike _ _ alike_pause = refl
    plains_alike _ _ (alike_write x i e d p q) = refl
    plains_alike _ _ (alike_choose c a a' b b' g h) = ap₂ (choose c) (plains_alike a a' g) (plains_alike b b' h)
    plains_alike _ _ (alike_seq ts us g) = ap seq (all_plains_alike ts us g)
    plains_alike _ _ (alike_par ts us g) = ap par (all_plains_alike ts us g)
    plains_alike _ _ (alike_loop t u c g) = ap (λ w. loop w c) (plains_alike t u g)
    plains_alike _ _ (alike_abort w i t u c g) = ap (λ z. abort w i z c) (plains_alike t u g)
    plains_alike _ _ (alike_suspend w i t u c g) = ap (λ z. suspend w i z c) (plains_alike t u g)
    plains_alike _ _ (alike_scope x s s' t u h g) = ap₂ (scope x) (store_plains x s s' h) (plains_alike t u g)

    all_plains_alike : (ts us : Terms) → AlikeAll ts us → plain_all vs ts ≡ plain_all vs us
    all_plains_alike _ _ alike_none = refl
    all_plains_alike _ _ (alike_part t u ts us g h) = ap₂ part (plains_alike t u g) (all_plains_alike ts us h)

  sequence_alike : (t u : Term) (ts us : Terms) → Alike t u → AlikeAll ts us → Alike (sequence t ts) (sequence u us)
  sequence_alike t u _ _ g alike_none = g
  sequence_alike t u _ _ g (alike_part a b as' bs h j) = alike_seq (part t (part a as')) (part u (part b bs)) (alike_part t u (part a as') (part b bs) g (alike_part a b as' bs h j))

  ended_alike : (b c : Bool) (t u : Term) → b ≡ c → Alike t u → Alike (unless_ended b t) (unless_ended c u)
  ended_alike true true t u e g = alike_nothing
  ended_alike false false t u e g = g
  ended_alike true false t u e g = absurd (cc)
  ended_alike false true t u e g = absurd (cc)

  store_ticks : (x : ℕ) (s u : Option Store) → AlikeStore x s u → AlikeStore x (option_map (map (absent (storage_of vs x))) s) (option_map (map (absent (storage_of vs x))) u)
  store_ticks x _ _ no_store = no_store
  store_ticks x _ _ (some_store s u e) = some_store (map (absent (storage_of vs x)) s) (map (absent (storage_of vs x)) u) (ap (plain_store vs x) (absent_alike (storage_of vs x) s u e))

  mutual
    -- so they advance alike
    tick_alike : (t u : Term) → Alike t u → Alike (tick vs t) (tick vs u)
    tick_alike _ _ alike_nothing = alike_nothing
    tick_alike _ _ alike_pause = alike_pause
    tick_alike _ _ (alike_write x i e d p q) = alike_write x i e d p q
    tick_alike _ _ (alike_choose c a a' b b' g h) = alike_choose c (tick vs a) (tick vs a') (tick vs b) (tick vs b') (tick_alike a a' g) (tick_alike b b' h)
    tick_alike _ _ (alike_seq ts us g) = alike_seq (tick_all vs ts) (tick_all vs us) (all_tick_alike ts us g)
    tick_alike _ _ (alike_par ts us g) = alike_par (tick_all vs ts) (tick_all vs us) (all_tick_alike ts us g)
    tick_alike _ _ (alike_loop t u c g) = alike_loop (tick vs t) (tick vs u) c (tick_alike t u g)
    tick_alike _ _ (alike_abort w i t u c g) = alike_abort w i (tick vs t) (tick vs u) c (tick_alike t u g)
    tick_alike _ _ (alike_suspend w i t u c g) = alike_suspend w i (tick vs t) (tick vs u) c (tick_alike t u g)
    tick_alike _ _ (alike_scope x s s' t u h g) = alike_scope x _ _ (tick vs t) (tick vs u) (store_ticks x s s' h) (tick_alike t u g)

    all_tick_alike : (ts us : Terms) → AlikeAll ts us → AlikeAll (tick_all vs ts) (tick_all vs us)
    all_tick_alike _ _ alike_none = alike_none
    all_tick_alike _ _ (alike_part t u ts us g h) = alike_part (tick vs t) (tick vs u) (tick_all vs ts) (tick_all vs us) (tick_alike t u g) (all_tick_alike ts us h)

  -- ---- reactions

  -- the term reacts alike
  pub record ReactsAlike (env : Values) (t : Term) (r : Reaction) : Type 0 where
    pub reaction : Reaction
    pub reacts : React vs env t reaction
    pub acts : reaction.acts ≡ r.acts
    pub faults : reaction.faults ≡ r.faults
    pub met : reaction.met ≡ r.met
    pub ended : reaction.ended ≡ r.ended
    pub residual : Alike reaction.residual r.residual
    pub held : Alike reaction.held r.held

  record ReactAlikeAll (env : Values) (ts : Terms) (p : Reactions) : Type 0 where
    pub reactions : Reactions
    pub reacts : ReactEach vs env ts reactions
    pub acts : reactions.acts ≡ p.acts
    pub faults : reactions.faults ≡ p.faults
    pub met : reactions.met ≡ p.met
    pub ended : reactions.ended ≡ p.ended
    pub residuals : AlikeAll reactions.residuals p.residuals
    pub helds : AlikeAll reactions.helds p.helds

  fresh_alike : (x : ℕ) (s u : Option Store) → AlikeStore x s u → map (plain_kept (storage_of vs x)) (store_of vs x s) ≡ map (plain_kept (storage_of vs x)) (store_of vs x u)
  fresh_alike x _ _ no_store = refl
  fresh_alike x _ _ (some_store s u e) = e

  held_alike : (x : ℕ) (s s' : Option Store) (t u : Term) (new new' : Store) (h h' : Term) → AlikeStore x s s' → Alike t u → new ≡ new' → Alike h h' → Alike (held_scope x s t new h) (held_scope x s' u new' h')
  held_alike x _ _ t u new new' h h' no_store g e k = alike_scope x None None t u no_store g
  held_alike x _ _ t u new new' h h' (some_store s s' f) g e k = alike_scope x (Some new) (Some new') h h' (some_store new new' (ap (plain_store vs x) e)) k

  again_alike : (t u : Term) (c : Expr ℕ) → Alike t u → AlikeAll (part t (part (choose c (loop t c) nothing) none)) (part u (part (choose c (loop u c) nothing) none))
  again_alike t u c g = alike_part t u _ _ g (alike_part _ _ none none (alike_choose c (loop t c) (loop u c) nothing nothing (alike_loop t u c g) alike_nothing) alike_none)

  mutual
    -- a term reacts as one that differs in kept values of events alone
    pub unplain : (env : Values) (t u : Term) (r : Reaction) → Alike t u → React vs env u r → ReactsAlike env t r
    unplain env _ _ _ alike_nothing (of_nothing _) = record { reaction = ends [] [] nothing; reacts = of_nothing env; acts = refl; faults = refl; met = refl; ended = refl; residual = alike_nothing; held = alike_nothing }
    unplain env _ _ _ alike_pause (of_pause _) = record { reaction = record { residual = nothing; held = pause; acts = []; faults = []; met = []; ended = false }; reacts = of_pause env; acts = refl; faults = refl; met = refl; ended = refl; residual = alike_nothing; held = alike_pause }
    unplain env _ _ _ (alike_write x i e d p q) (of_write _ _ _ _ _ _ _) = record { reaction = _; reacts = of_write env x i e d p q; acts = refl; faults = refl; met = refl; ended = refl; residual = alike_nothing; held = alike_write x i e d p q }
    unplain env _ _ _ (alike_choose c a a' b b' g h) (of_yes _ _ _ _ q z k) =
        let m = unplain env a a' q g k in
        record { reaction = _; reacts = of_yes env c a b m.reaction z m.reacts; acts = m.acts; faults = ap (λ l. faults vs env c ++ l) m.faults; met = m.met; ended = m.ended; residual = m.residual; held = alike_choose c a a' b b' g h }
    unplain env _ _ _ (alike_choose c a a' b b' g h) (of_no _ _ _ _ q z k) =
        let m = unplain env b b' q h k in
        record { reaction = _; reacts = of_no env c a b m.reaction z m.reacts; acts = m.acts; faults = ap (λ l. faults vs env c ++ l) m.faults; met = m.met; ended = m.ended; residual = m.residual; held = alike_choose c a a' b b' g h }
    unplain env _ _ _ (alike_seq _ _ alike_none) (of_none _) = record { reaction = _; reacts = of_none env; acts = refl; faults = refl; met = refl; ended = refl; residual = alike_nothing; held = alike_seq none none alike_none }
    unplain env _ _ _ (alike_seq _ _ (alike_part t u ts us g h)) (of_turn _ _ _ q p k e j) =
        let m = unplain env t u q g k in
        let n = unplain env (seq ts) (seq us) p (alike_seq ts us h) j in
        record {
          reaction = _;
          reacts = of_turn env t ts m.reaction n.reaction m.reacts (m.ended ∙ e) n.reacts;
          acts = ap₂ (λ a b. a ++ b) m.acts n.acts;
          faults = ap₂ (λ a b. a ++ b) m.faults n.faults;
          met = ap₂ (λ a b. a ++ b) m.met n.met;
          ended = n.ended;
          residual = n.residual;
          held = alike_seq _ _ (alike_part m.reaction.held q.held ts us m.held h);
        }
    unplain env _ _ _ (alike_seq _ _ (alike_part t u ts us g h)) (of_stop _ _ _ q k e) =
        let m = unplain env t u q g k in
        record {
          reaction = _;
          reacts = of_stop env t ts m.reaction m.reacts (m.ended ∙ e);
          acts = m.acts;
          faults = m.faults;
          met = m.met;
          ended = m.ended;
          residual = sequence_alike m.reaction.residual q.residual ts us m.residual h;
          held = alike_seq _ _ (alike_part m.reaction.held q.held ts us m.held h);
        }
    unplain env _ _ _ (alike_par ts us g) (of_par _ _ p k) =
        let m = unplain_all env ts us p g k in
        record {
          reaction = _;
          reacts = of_par env ts m.reactions m.reacts;
          acts = m.acts;
          faults = m.faults;
          met = m.met;
          ended = m.ended;
          residual = ended_alike m.reactions.ended p.ended _ _ m.ended (alike_par m.reactions.residuals p.residuals m.residuals);
          held = alike_par m.reactions.helds p.helds m.helds;
        }
    unplain env _ _ _ (alike_loop t u c g) (of_loop _ _ _ q k) =
        let m = unplain env (seq (part t (part (choose c (loop t c) nothing) none))) (seq (part u (part (choose c (loop u c) nothing) none))) q (alike_seq _ _ (again_alike t u c g)) k in
        record { reaction = _; reacts = of_loop env t c m.reaction m.reacts; acts = m.acts; faults = m.faults; met = m.met; ended = m.ended; residual = m.residual; held = alike_loop t u c g }
    unplain env _ _ _ (alike_abort _ _ t u _ g) (of_delayed_abort _ w _ c q k) =
        let m = unplain env t u q g k in
        record {
          reaction = _;
          reacts = of_delayed_abort env w t c m.reaction m.reacts;
          acts = m.acts;
          faults = m.faults;
          met = m.met;
          ended = m.ended;
          residual = ended_alike m.reaction.ended q.ended _ _ m.ended (alike_abort w true m.reaction.residual q.residual c m.residual);
          held = alike_abort w false t u c g;
        }
    unplain env _ _ _ (alike_suspend _ _ t u _ g) (of_delayed_suspend _ w _ c q k) =
        let m = unplain env t u q g k in
        record {
          reaction = _;
          reacts = of_delayed_suspend env w t c m.reaction m.reacts;
          acts = m.acts;
          faults = m.faults;
          met = m.met;
          ended = m.ended;
          residual = ended_alike m.reaction.ended q.ended _ _ m.ended (alike_suspend w true m.reaction.residual q.residual c m.residual);
          held = alike_suspend w false t u c g;
        }
    unplain env _ _ _ (alike_abort _ _ t u _ g) (of_spared_abort _ w _ c q z k) =
        let m = unplain env t u q g k in
        record {
          reaction = _;
          reacts = of_spared_abort env w t c m.reaction z m.reacts;
          acts = m.acts;
          faults = ap (λ l. faults vs env c ++ l) m.faults;
          met = m.met;
          ended = m.ended;
          residual = ended_alike m.reaction.ended q.ended _ _ m.ended (alike_abort w true m.reaction.residual q.residual c m.residual);
          held = alike_abort w true m.reaction.held q.held c m.held;
        }
    unplain env _ _ _ (alike_suspend _ _ t u _ g) (of_spared_suspend _ w _ c q z k) =
        let m = unplain env t u q g k in
        record {
          reaction = _;
          reacts = of_spared_suspend env w t c m.reaction z m.reacts;
          acts = m.acts;
          faults = ap (λ l. faults vs env c ++ l) m.faults;
          met = m.met;
          ended = m.ended;
          residual = ended_alike m.reaction.ended q.ended _ _ m.ended (alike_suspend w true m.reaction.residual q.residual c m.residual);
          held = alike_suspend w true m.reaction.held q.held c m.held;
        }
    unplain env _ _ _ (alike_abort _ _ t u _ g) (of_strong_abort _ _ c z) =
        record { reaction = _; reacts = of_strong_abort env t c z; acts = refl; faults = refl; met = refl; ended = refl; residual = alike_nothing; held = alike_abort false true (tick vs t) (tick vs u) c (tick_alike t u g) }
    unplain env _ _ _ (alike_abort _ _ t u _ g) (of_weak_abort _ _ c q z k) =
        let m = unplain env t u q g k in
        record { reaction = _; reacts = of_weak_abort env t c m.reaction z m.reacts; acts = m.acts; faults = ap (λ l. faults vs env c ++ l) m.faults; met = m.met; ended = refl; residual = alike_nothing; held = alike_abort true true m.reaction.held q.held c m.held }
    unplain env _ _ _ (alike_suspend _ _ t u _ g) (of_strong_suspend _ _ c z) =
        record {
          reaction = _;
          reacts = of_strong_suspend env t c z;
          acts = refl;
          faults = refl;
          met = refl;
          ended = refl;
          residual = alike_suspend false true (tick vs t) (tick vs u) c (tick_alike t u g);
          held = alike_suspend false true (tick vs t) (tick vs u) c (tick_alike t u g);
        }
    unplain env _ _ _ (alike_suspend _ _ t u _ g) (of_weak_suspend _ _ c q z k) =
        let m = unplain env t u q g k in
        record {
          reaction = _;
          reacts = of_weak_suspend env t c m.reaction z m.reacts;
          acts = m.acts;
          faults = ap (λ l. faults vs env c ++ l) m.faults;
          met = m.met;
          ended = refl;
          residual = alike_suspend true true m.reaction.held q.held c m.held;
          held = alike_suspend true true m.reaction.held q.held c m.held;
        }
    unplain env _ _ _ (alike_scope x s s' t u h g) (of_scope _ _ _ _ v q size k) =
        let m = unplain (slice_set env x v) t u q g k in
        let st : Storage = storage_of vs x in
        let same = fresh_alike x s s' h in
        let new : given_store x m.reaction.acts 0 v ≡ given_store x q.acts 0 v = ap (λ (l : List Act). given_store x l 0 v) m.acts in
        record {
          reaction = _;
          reacts = of_scope env x s t v m.reaction (size ∙ sym (length_alike st (store_of vs x s) (store_of vs x s') same)) m.reacts;
          acts = ap (others x) m.acts;
          faults = ap₂ (λ (l : List Fault) (a : List Act). l ++ store_conflicts (declared_at vs x) x a 0 v) m.faults m.acts;
          met = ap₂ (λ (a : Store) (l : List Met). meetings x v (values_of a) ++ l) (ap (λ (l : List Act). resolved_store st x l 0 (store_of vs x s)) m.acts ∙ store_alike st x q.acts 0 (store_of vs x s) (store_of vs x s') same) m.met;
          ended = m.ended;
          residual = ended_alike m.reaction.ended q.ended _ _ m.ended (alike_scope x _ _ m.reaction.residual q.residual (some_store _ _ (ap (plain_store vs x) new)) m.residual);
          held = held_alike x s s' t u _ _ m.reaction.held q.held h g new m.held;
        }

    unplain_all : (env : Values) (ts us : Terms) (p : Reactions) → AlikeAll ts us → ReactEach vs env us p → ReactAlikeAll env ts p
    unplain_all env _ _ _ alike_none (of_nobody _) = record { reactions = _; reacts = of_nobody env; acts = refl; faults = refl; met = refl; ended = refl; residuals = alike_none; helds = alike_none }
    unplain_all env _ _ _ (alike_part t u ts us g h) (of_beside _ _ _ q p k j) =
        let m = unplain env t u q g k in
        let n = unplain_all env ts us p h j in
        record {
          reactions = _;
          reacts = of_beside env t ts m.reaction n.reactions m.reacts n.reacts;
          acts = ap₂ (λ a b. a ++ b) m.acts n.acts;
          faults = ap₂ (λ a b. a ++ b) m.faults n.faults;
          met = ap₂ (λ a b. a ++ b) m.met n.met;
          ended = ap₂ (λ a b. a && b) m.ended n.ended;
          residuals = alike_part m.reaction.residual q.residual _ _ m.residual n.residuals;
          helds = alike_part m.reaction.held q.held _ _ m.held n.helds;
        }
