-- What each form makes of the reactions of its parts is the same, where these are the same: a lemma a row. Both directions of
-- the simulation use them.
use Rattle.std.proofs.Common.{◌≡◌, ℕ, ℤ, Bool, true, false, ◌&&◌, List, [], ◌++◌, length, Option, Some, None, refl, sym, ap, ap₂, ◌∙◌, subst, replicate, unwrap_or}
use Rattle.quartz_tree.specs.declared.place.Place.{Place}
use Rattle.quartz_tree.specs.declared.declare.Storage.{Storage}
use Rattle.quartz_tree.specs.declared.fault.Fault.{Fault}
use Rattle.quartz_tree.specs.Surfaces.{Word}
use Rattle.quartz_tree.specs.Tree.{Tree}
use Rattle.quartz_expr.specs.declared.act.Act.{Act}
use Rattle.quartz_expr.specs.declared.act.Kept.{Kept}
use Rattle.quartz_expr.specs.Values.{Values}
use Rattle.quartz_expr.specs.Vars.{Vars, count_of, start_of, storage_of, declared_at}
use Rattle.quartz_expr.specs.Terms.{Store, Term, Terms, is_fresh}
use Rattle.quartz_expr.specs.Terms as term
use Rattle.quartz_expr.specs.Resolve.{others, given_store, resolved_store, store_conflicts, values_of, fresh_store}
use Rattle.quartz_expr.specs.React.{store_of}
use Rattle.quartz_expr.specs.React as plain
use Rattle.framed_terms.specs.Framed.{Framed, FramedList, Meanings, nothing, pause, write, choose, seq, par, loop, abort, suspend, scope, call, frame, none, part, passed, tick}
use Rattle.framed_terms.specs.Reacting.{Reaction, Reactions, unless_ended, sequence, ends, after_faults, formed, stays, rests, goes_on, beside, together, held_scope, scoped, framed}
use Rattle.framed_terms.specs.Similar.{Carry, inner, opened, Same, SameActs, a_none, Sim, Sims, s_nothing, s_pause, s_choose, s_seq, s_par, s_loop, s_abort, s_suspend, s_scope, s_frame, s_call, s_none, s_part, IsLocal, IsLike, Suits, Related, RelatedEach}
use Rattle.framed_terms.proofs.ActLemmas.{same_append, same_others, same_passed, same_given, same_resolved, same_conflicts, opened_tells, Tells}
use Rattle.framed_terms.proofs.TermLemmas.{tick_sim}

joins : {a b c d : List Fault} → a ≡ b → c ≡ d → a ++ c ≡ b ++ d
joins e g = ap₂ (λ (x y : List Fault). x ++ y) e g

module _ (us : Meanings) (ws : Vars) where
  pub unless_sim : (vs : Vars) (f : Carry) (b c : Bool) (a : Framed) (t : Term) → b ≡ c → Sim us ws vs f a t → Sim us ws vs f (unless_ended b a) (plain.unless_ended c t)
  unless_sim vs f true true a t e s = s_nothing vs f
  unless_sim vs f true false a t e s = absurd (cc)
  unless_sim vs f false true a t e s = absurd (cc)
  unless_sim vs f false false a t e s = s

  pub sequence_sim : (vs : Vars) (f : Carry) (a : Framed) (t : Term) (parts : FramedList) (ts : Terms) → Sim us ws vs f a t → Sims us ws vs f parts ts → Sim us ws vs f (sequence a parts) (plain.sequence t ts)
  sequence_sim vs f a t _ _ s (s_none _ _) = s
  sequence_sim vs f a t _ _ s (s_part _ _ b bs u us' g h) = s_seq vs f _ _ (s_part vs f _ _ _ _ s (s_part vs f _ _ _ _ g h))

  pub ends_related : (vs : Vars) (f : Carry) (a b : List Act) (g h : List Fault) (c : Framed) (t : Term) → SameActs f a b → g ≡ h → Sim us ws vs f c t → Related us ws vs f (ends a g c) (plain.ends b h t)
  ends_related vs f a b g h c t s e k = record { residual = s_nothing vs f; held = k; acts = s; faults = e; ended = refl }

  pub pause_related : (vs : Vars) (f : Carry) → Related us ws vs f (record { residual = nothing; held = pause; acts = []; faults = []; ended = false })
      (record { residual = term.nothing; held = term.pause; acts = []; faults = []; met = []; ended = false })
  pause_related vs f = record { residual = s_nothing vs f; held = s_pause vs f; acts = a_none; faults = refl; ended = refl }

  pub held_related : (vs : Vars) (f : Carry) (q : Reaction) (r : plain.Reaction) (a : Framed) (t : Term) → Related us ws vs f q r → Sim us ws vs f a t → Related us ws vs f (record q { held = a }) (record r { held = t })
  held_related vs f q r a t h s = record { residual = h.residual; held = s; acts = h.acts; faults = h.faults; ended = h.ended }

  pub faults_related : (vs : Vars) (f : Carry) (g h : List Fault) (q : Reaction) (r : plain.Reaction) → g ≡ h → Related us ws vs f q r → Related us ws vs f (after_faults g q) (plain.after_faults h r)
  faults_related vs f g h q r e k = record { residual = k.residual; held = k.held; acts = k.acts; faults = joins e k.faults; ended = k.ended }

  pub turn_related : (vs : Vars) (f : Carry) (parts : FramedList) (ts : Terms) (q p : Reaction) (r s : plain.Reaction) → Sims us ws vs f parts ts → Related us ws vs f q r → Related us ws vs f p s
      → Related us ws vs f (goes_on parts q p) (plain.goes_on ts r s)
  turn_related vs f parts ts q p r s k g h = record {
    residual = h.residual;
    held = s_seq vs f _ _ (s_part vs f _ _ _ _ g.held k);
    acts = same_append f _ _ _ _ g.acts h.acts;
    faults = joins g.faults h.faults;
    ended = h.ended;
  }

  pub stop_related : (vs : Vars) (f : Carry) (parts : FramedList) (ts : Terms) (q : Reaction) (r : plain.Reaction) → Sims us ws vs f parts ts → Related us ws vs f q r
      → Related us ws vs f (record q { residual = sequence q.residual parts; held = seq (part q.held parts) }) (record r { residual = plain.sequence r.residual ts; held = term.seq (term.part r.held ts) })
  stop_related vs f parts ts q r k h = record { residual = sequence_sim vs f _ _ parts ts h.residual k; held = s_seq vs f _ _ (s_part vs f _ _ _ _ h.held k); acts = h.acts; faults = h.faults; ended = h.ended }

  pub together_related : (vs : Vars) (f : Carry) (q : Reactions) (r : plain.Reactions) → RelatedEach us ws vs f q r → Related us ws vs f (together q) (plain.together r)
  together_related vs f q r h = record {
    residual = unless_sim vs f _ _ _ _ h.ended (s_par vs f _ _ h.residuals);
    held = s_par vs f _ _ h.helds;
    acts = h.acts;
    faults = h.faults;
    ended = h.ended;
  }

  pub nobody_related : (vs : Vars) (f : Carry) → RelatedEach us ws vs f (record { residuals = none; helds = none; acts = []; faults = []; ended = true })
      (record { residuals = term.none; helds = term.none; acts = []; faults = []; met = []; ended = true })
  nobody_related vs f = record { residuals = s_none vs f; helds = s_none vs f; acts = a_none; faults = refl; ended = refl }

  pub beside_related : (vs : Vars) (f : Carry) (q : Reaction) (p : Reactions) (r : plain.Reaction) (s : plain.Reactions) → Related us ws vs f q r → RelatedEach us ws vs f p s
      → RelatedEach us ws vs f (beside q p) (plain.beside r s)
  beside_related vs f q p r s g h = record {
    residuals = s_part vs f _ _ _ _ g.residual h.residuals;
    helds = s_part vs f _ _ _ _ g.held h.helds;
    acts = same_append f _ _ _ _ g.acts h.acts;
    faults = joins g.faults h.faults;
    ended = ap₂ (λ (a b : Bool). a && b) g.ended h.ended;
  }

  -- a form around what is left
  pub formed_related : (vs : Vars) (f : Carry) (around : Framed → Framed) (about : Term → Term) (q : Reaction) (r : plain.Reaction)
      → ((a : Framed) (t : Term) → Sim us ws vs f a t → Sim us ws vs f (around a) (about t)) → Related us ws vs f q r → Related us ws vs f (formed around q) (plain.formed about r)
  formed_related vs f around about q r g h = record { residual = unless_sim vs f _ _ _ _ h.ended (g _ _ h.residual); held = g _ _ h.held; acts = h.acts; faults = h.faults; ended = h.ended }

  pub stays_related : (vs : Vars) (f : Carry) (a : Framed) (t : Term) (q : Reaction) (r : plain.Reaction) → Sim us ws vs f a t → Related us ws vs f q r → Related us ws vs f (stays a q) (plain.stays t r)
  stays_related vs f a t q r s h = record { residual = s; held = s; acts = h.acts; faults = h.faults; ended = refl }

  pub rests_related : (vs : Vars) (f : Carry) (a : Framed) (t : Term) (g h : List Fault) → Sim us ws vs f a t → g ≡ h → Related us ws vs f (rests a g) (plain.rests t h)
  rests_related vs f a t g h s e = record { residual = s; held = s; acts = a_none; faults = e; ended = refl }

  pub weak_related : (vs : Vars) (f : Carry) (a : Framed) (t : Term) (q : Reaction) (r : plain.Reaction) → Sim us ws vs f a t → Related us ws vs f q r
      → Related us ws vs f (record q { residual = nothing; held = a; ended = true }) (record r { residual = term.nothing; held = t; ended = true })
  weak_related vs f a t q r s h = record { residual = s_nothing vs f; held = s; acts = h.acts; faults = h.faults; ended = refl }

  -- ---- scopes

  pub same_stores : (vs : Vars) (f : Carry) (x y : ℕ) (s : Option Store) → IsLocal us ws vs f x y → store_of vs x s ≡ store_of ws y s
  same_stores vs f x y (Some s) l = refl
  same_stores vs f x y None l =
      ap₂ (λ (o : Option ℕ) (z : ℤ). replicate (unwrap_or o 1) (record { value = z; pending = None })) l.like.len l.start

  pub same_wanted : (vs : Vars) (f : Carry) (x y : ℕ) (s : Option Store) (a b : List Act) → IsLocal us ws vs f x y → SameActs (opened f x y) a b
      → resolved_store (storage_of vs x) x a 0 (store_of vs x s) ≡ resolved_store (storage_of ws y) y b 0 (store_of ws y s)
  same_wanted vs f x y s a b l k =
      same_resolved (opened f x y) (storage_of vs x) x y 0 a b (store_of vs x s) (opened_tells f x y l.new) k
      ∙ ap₂ (λ (g : Storage) (ks : Store). resolved_store g y b 0 ks) l.storage (same_stores vs f x y s l)

  held_sim : (vs : Vars) (f : Carry) (x y : ℕ) (s : Option Store) (a b : Framed) (t u : Term) (n m : Store) → IsLocal us ws vs f x y → n ≡ m
      → Sim us ws vs (opened f x y) a t → Sim us ws vs (opened f x y) b u → Sim us ws vs f (held_scope x s a n b) (plain.held_scope y s t m u)
  held_sim vs f x y None a b t u n m l e g h = s_scope vs f x y None _ _ l g
  held_sim vs f x y (Some s) a b t u n m l e g h = subst (λ (k : Store). Sim us ws vs f (scope x (Some n) b) (term.scope y (Some k) u)) e (s_scope vs f x y _ _ _ l h)

  pub scoped_related : (vs : Vars) (f : Carry) (x y : ℕ) (s : Option Store) (a : Framed) (t : Term) (v : List ℤ) (q : Reaction) (r : plain.Reaction) → IsLocal us ws vs f x y
      → Sim us ws vs (opened f x y) a t → Related us ws vs (opened f x y) q r → Related us ws vs f (scoped vs x s a v q) (plain.scoped ws y s t v r)
  scoped_related vs f x y s a t v q r l g h =
      let tells : Tells (opened f x y) x y = opened_tells f x y l.new in
      let new : given_store x q.acts 0 v ≡ given_store y r.acts 0 v = same_given (opened f x y) x y 0 q.acts r.acts v tells h.acts in
      let left : Sim us ws vs f (scope x (Some (given_store x q.acts 0 v)) q.residual) (term.scope y (Some (given_store y r.acts 0 v)) r.residual) =
      subst (λ (k : Store). Sim us ws vs f (scope x (Some (given_store x q.acts 0 v)) q.residual) (term.scope y (Some k) r.residual)) new (s_scope vs f x y _ _ _ l h.residual) in
      record {
        residual = unless_sim vs f _ _ _ _ h.ended left;
        held = held_sim vs f x y s a q.held t r.held _ _ l new g h.held;
        acts = same_others f x y q.acts r.acts l.new h.acts;
        faults = joins h.faults (ap (λ (p : Place). store_conflicts p x q.acts 0 v) l.place ∙ same_conflicts (opened f x y) (declared_at ws y) x y 0 q.acts r.acts v tells h.acts);
        ended = h.ended;
      }

  -- ---- frames

  pub framed_related : (vs : Vars) (f : Carry) (m : Word) (args : List ℕ) (q : Reaction) (r : plain.Reaction) → Suits us ws f m args → (r.ended ≡ true → r.residual ≡ term.nothing)
      → Related us ws (us m).vars (inner f args) q r → Related us ws vs f (framed m args q) r
  framed_related vs f m args q r k g h = record {
    residual = at q.ended r.ended h.ended g;
    held = s_frame vs f m args q.held r.held k h.held;
    acts = same_passed f args q.acts r.acts h.acts;
    faults = h.faults;
    ended = h.ended;
  }
    where
      at : (b c : Bool) → b ≡ c → (c ≡ true → r.residual ≡ term.nothing) → Sim us ws vs f (unless_ended b (frame m args q.residual)) r.residual
      at true true e g = subst (λ (t : Term). Sim us ws vs f nothing t) (sym (g refl)) (s_nothing vs f)
      at true false e g = absurd (cc)
      at false true e g = absurd (cc)
      at false false e g = s_frame vs f m args q.residual r.residual k h.residual

  pub called_related : (vs : Vars) (f : Carry) (m : Word) (args : List ℕ) (t : Term) (q : Reaction) (r : plain.Reaction) → Sim us ws vs f (call m args) t → r.held ≡ t
      → Related us ws vs f q r → Related us ws vs f (record q { held = call m args }) r
  called_related vs f m args t q r s e h = record { residual = h.residual; held = subst (λ (u : Term). Sim us ws vs f (call m args) u) (sym e) s; acts = h.acts; faults = h.faults; ended = h.ended }
