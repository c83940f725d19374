-- Immediate suspensions start, and go on from their wait label or from those of the body.
use Rattle.std.proofs.Common.{◌≡◌, ℕ, suc, ◌+◌, Bool, true, false, ◌&&◌, ◌||◌, not, List, ◌++◌, refl, sym, ap, ap₂, ◌∙◌, subst, subst₂, append-nil}
use Rattle.std.specs.Prelude.{if◌then◌else◌}
use Rattle.quartz_tree.specs.declared.fault.Fault.{Fault}
use Rattle.quartz_tree.specs.Tree.{Tree as Expr}
use Rattle.quartz_expr.specs.Values.{Values, is_zero}
use Rattle.quartz_expr.specs.Vars.{Vars}
use Rattle.quartz_expr.specs.Value.{value}
use Rattle.quartz_expr.specs.Faults.{faults}
use Rattle.quartz_expr.specs.Terms.{Term, suspend, is_fresh}
use Rattle.quartz_expr.specs.React.{Reaction, after_faults, stays, rests, React, AllResolved, of_strong_suspend, of_weak_suspend}
use Rattle.quartz_expr.specs.Tick.{tick}
use Rattle.statement_cells.specs.Labels.{labels, registers}
use Rattle.statement_cells.specs.Stands.{Marks, Registers, some, at, plain, AtOne}
use Rattle.statement_cells.specs.Walk.{no_takes, else_takes, Trail, no_marks, union, plus, Holds, Bounded, Live, Idle, Runs}
use Rattle.statement_cells.proofs.BoolLemmas.{and_false, and_true}
use Rattle.statement_cells.proofs.MarkLemmas.{some_none, at_one_free, union_none}
use Rattle.statement_cells.proofs.TrailLemmas.{mark}
use Rattle.statement_cells.proofs.ReactLemmas.{held_fresh}
use Rattle.statement_cells.proofs.PlainLemmas.{plain_fresh, plain_tick_fresh}
use Rattle.statement_cells.proofs.RunLemmas.{raises, faults_if, bounds, ranges, Enters, Proceeds, told, idle_free, first_only, second_only, begun}
use Rattle.statement_cells.proofs.AbortLemmas.{nowhere_on}
use Rattle.statement_cells.proofs.SleepLemmas.{stays_with, stays_spared, stays_idle, asleep}
use Rattle.statement_cells.proofs.WaitLemmas.{waits, some_next, mark_none, mark_own, mark_after, range_wait, all_stay, body_at, body_held, body_ticked, awake_in, idle_wait}
use Rattle.quartz_expr.proofs.TruthLemmas.{and_assoc}

-- ---- start

module _ (vs : Vars) (env : Values) (now : Registers) where
  -- the suspension waits: its label alone is 1 next, if control moves
  begins_to_wait : (l v : ℕ) (t : Term) (weak : Bool) (c : Expr ℕ) (mv : Bool) (o : Trail) (fs : List Fault) (r : Reaction) → React vs env (suspend weak true t c) r → r.ended ≡ false
      → r.acts ≡ o.acts → r.met ≡ o.met → (AllResolved o.met → r.faults ≡ fs ++ o.faults) → plain vs r.residual ≡ suspend weak true t c
      → o.marks ≡ no_marks → o.takes ≡ no_takes → Bounded vs no_marks (l + 1) v t o
      → Live vs env (suspend weak true t c) no_marks l v (suspend weak true t c) mv false false (plus (raises fs) (plus (waits l mv) o))
  begins_to_wait l v t weak c mv o fs r reacts live acts met faulty left marks takes bounded = record {
    reaction = r;
    reacts = reacts;
    ends = live;
    acts = acts;
    met = met;
    faults = faulty;
    stops = λ x y. absurd (cc);
    goes = λ x y.
        subst (λ n. (some n l (suc (labels t)) ≡ true) × AtOne n l (suspend weak true t c)
        × ((k : Registers) → Holds (else_takes o.takes o.defaults) k → at vs n k l v (suspend weak true t c) ≡ plain vs r.residual))
        (sym (ap₂ union (ap (mark l) x) marks ∙ union_none (mark l true))) (
          some_next (mark l true) l (labels t) ∙ ap (λ a. a || some (mark l true) (l + 1) (labels t)) (mark_own l true),
          (ap (λ a. mark l true l && a) (mark_after l (labels t) true) ∙ and_false (mark l true l), at_one_free t (mark l true) (l + 1) (mark_after l (labels t) true)),
          λ k hk. ap (λ a. suspend weak true (if a then t else at vs (mark l true) k (l + 1) v t) c) (mark_own l true) ∙ sym left,
        );
    stays = λ x. (ap₂ union (ap (mark l) x ∙ mark_none l) marks, takes);
    held = λ on. nowhere_on l (suc (labels t)) _ on;
    bounded = bounds vs no_marks l v (suspend weak true t c) (plus (raises fs) (plus (waits l mv) o)) (range_wait no_marks l (labels t) v (registers vs t) mv o (ranges vs no_marks (l + 1) v t o bounded));
  }

  -- an immediate strong suspension starts
  pub starts_strong_wait : (l v : ℕ) (t : Term) (c : Expr ℕ) (go k mv e : Bool) (o : Trail) → is_fresh t ≡ true → is_zero (value vs env c) ≡ not k → Enters vs env now (l + 1) v t (go && not k) mv e o
      → Enters vs env now l v (suspend false true t c) go mv e (plus (raises (faults_if go (faults vs env c))) (plus (waits l ((go && k) && mv)) o))
  starts_strong_wait l v t c true true mv e o fresh z h =
      let fs = faults vs env c in
      let u = suspend false true (tick vs t) c in
      told vs env no_marks _ l v (suspend false true t c) mv false false e _ _ (sym h.ends) refl
      (begins_to_wait l v t false c mv o fs (rests u fs) (of_strong_suspend env t c z) refl
      (sym h.acts) (sym h.met) (λ all. sym (ap (λ x. fs ++ x) h.faults ∙ append-nil fs)) (ap (λ x. suspend false true x c) (plain_tick_fresh vs t fresh)) h.marks h.takes h.bounded)
  starts_strong_wait l v t c true false mv e o fresh z h = awake_in vs env no_marks now t l v t false c mv false e o fresh (λ on. nowhere_on l (suc (labels t)) _ on) (and_false mv) z h
  starts_strong_wait l v t c false k mv e o fresh z h = idle_wait vs env no_marks now l v t false c false e o fresh h

  -- an immediate weak suspension starts
  pub starts_weak_wait : (l v : ℕ) (t : Term) (c : Expr ℕ) (go k mv e : Bool) (o : Trail) → is_fresh t ≡ true → is_zero (value vs env c) ≡ not k → Enters vs env now (l + 1) v t go (mv && not k) e o
      → Enters vs env now l v (suspend true true t c) go mv (e && not k) (plus (raises (faults_if go (faults vs env c))) (plus (waits l ((go && k) && mv)) o))
  starts_weak_wait l v t c true true mv e o fresh z h =
      let fs = faults vs env c in
      let u = suspend true true h.reaction.held c in
      let g = h.stays (and_false mv) in
      told vs env no_marks _ l v (suspend true true t c) mv false false (e && false) _ _ (sym (and_false e)) refl
      (begins_to_wait l v t true c mv o fs (after_faults fs (stays u h.reaction)) (of_weak_suspend env t c h.reaction z h.reacts) refl
      h.acts h.met (λ all. ap (λ x. fs ++ x) (h.faults all)) (ap (λ x. suspend true true x c) (ap (plain vs) (held_fresh vs env t h.reaction fresh h.reacts) ∙ plain_fresh vs t fresh)) g.0 g.1 h.bounded)
  starts_weak_wait l v t c true false mv e o fresh z h =
      told vs env no_marks _ l v (suspend true true t c) mv false e (e && true) _ _ (sym (and_true e)) refl
      (awake_in vs env no_marks now t l v t true c mv false e o fresh (λ on. nowhere_on l (suc (labels t)) _ on) (and_false mv) z (subst (λ x. Live vs env t no_marks (l + 1) v t x false e o) (and_true mv) h))
  starts_weak_wait l v t c false k mv e o fresh z h =
      subst (λ x. Idle vs no_marks now l v (suspend true true t c) false x (plus (waits l false) o)) (h.ends ∙ sym (ap (λ x. x && not k) h.ends)) (idle_wait vs env no_marks now l v t true c false e o fresh h)

-- ---- depth

module _ (vs : Vars) (env : Values) (m : Marks) (now : Registers) where
  body_cases : (l v : ℕ) (t : Term) (w sb res mv st ea eb : Bool) (a b : Trail) → some m (l + 1) (labels t) ≡ sb → (w && sb) ≡ false
      → Enters vs env now (l + 1) v t (w && res) mv ea a → Runs vs env (at vs m now (l + 1) v t) m now (l + 1) v t (sb && res) mv st eb b
      → Runs vs env (if w then t else at vs m now (l + 1) v t) m now (l + 1) v t ((w || sb) && res) mv st (ea || eb) (plus a b)
  body_cases l v t true true res mv st ea eb a b x p h i = absurd (cc)
  body_cases l v t true false true mv st ea eb a b x p h i =
      first_only vs env m t (l + 1) v t mv st ea eb a b i.ends (idle_free vs env m now (l + 1) v t st eb b x i) (begun vs env m t (l + 1) v t mv st ea a x h)
  body_cases l v t true false false mv st ea eb a b x p h i = neither l v t st ea eb a b h i
    where
      neither : (l v : ℕ) (t : Term) (st ea eb : Bool) (a b : Trail) → Idle vs no_marks now (l + 1) v t false ea a → Idle vs m now (l + 1) v t st eb b → Idle vs m now (l + 1) v t st (ea || eb) (plus a b)
      neither l v t st ea eb a b h i =
          subst₂ (λ y z. Idle vs m now (l + 1) v t st (y || eb) (plus z b)) (sym h.ends) (sym (idle_free vs env no_marks now (l + 1) v t false ea a (some_none (l + 1) (labels t)) h)) i
  body_cases l v t false true true mv st ea eb a b x p h i =
      second_only vs env m _ (l + 1) v t mv st ea eb a b h.ends (idle_free vs env no_marks now (l + 1) v t false ea a (some_none (l + 1) (labels t)) h) i
  body_cases l v t false true false mv st ea eb a b x p h i =
      subst₂ (λ y z. Idle vs m now (l + 1) v t st (y || eb) (plus z b)) (sym h.ends) (sym (idle_free vs env no_marks now (l + 1) v t false ea a (some_none (l + 1) (labels t)) h)) i
  body_cases l v t false false res mv st ea eb a b x p h i =
      subst₂ (λ y z. Idle vs m now (l + 1) v t st (y || eb) (plus z b)) (sym h.ends) (sym (idle_free vs env no_marks now (l + 1) v t false ea a (some_none (l + 1) (labels t)) h)) i

  -- the body starts behind the wait label, or goes on from its own
  pub body_runs : (l v : ℕ) (t : Term) (res mv st ea eb : Bool) (a b : Trail) → (m l && some m (l + 1) (labels t)) ≡ false
      → Enters vs env now (l + 1) v t (m l && res) mv ea a → Proceeds vs env m now (l + 1) v t res mv st eb b
      → Runs vs env (body_at vs m now l v t) m now (l + 1) v t (some m l (suc (labels t)) && res) mv st (ea || eb) (plus a b)
  body_runs l v t res mv st ea eb a b one h i =
      subst (λ x. Runs vs env (body_at vs m now l v t) m now (l + 1) v t (x && res) mv st (ea || eb) (plus a b)) (sym (some_next m l (labels t)))
      (body_cases l v t (m l) (some m (l + 1) (labels t)) res mv st ea eb a b refl one h i)

  strong_cases : (l v : ℕ) (t : Term) (c : Expr ℕ) (go k mv st e : Bool) (o : Trail) → is_fresh t ≡ true → (go ≡ true → some m l (suc (labels t)) ≡ true) → AtOne m l (suspend false true t c)
      → (go ≡ true → (mv && st) ≡ false) → is_zero (value vs env c) ≡ not k → Runs vs env (body_at vs m now l v t) m now (l + 1) v t (go && not k) mv (stays_with st mv go k) e o
      → Runs vs env (suspend false true (body_at vs m now l v t) c) m now l v (suspend false true t c) go mv st e (plus (raises (faults_if go (faults vs env c))) (plus (waits l (m l && stays_with st mv go k)) o))
  strong_cases l v t c true true mv st e o fresh on one excl z h =
      let fs = faults vs env c in
      let u = suspend false true (tick vs (body_at vs m now l v t)) c in
      let w = m l && stays_with st mv true true in
      told vs env m _ l v (suspend false true t c) mv st false e _ _ (sym h.ends) refl
      (asleep vs env m _ u l v (suspend false true t c) mv st (plus (waits l w) o) fs (rests u fs) (on refl) one (of_strong_suspend env (body_at vs m now l v t) c z) refl
      (sym h.acts) (sym h.met) (λ all. sym (ap (λ x. fs ++ x) h.faults ∙ append-nil fs)) refl refl (all_stay m l (labels t) (stays_with st mv true true) o.marks h.marks) h.takes
      (λ on k hk. ap (λ x. suspend false true x c) (body_ticked vs env m now l v t (stays_with st mv true true) e o fresh h on k hk))
      (bounds vs m l v (suspend false true t c) (plus (waits l w) o) (range_wait m l (labels t) v (registers vs t) w o (ranges vs m (l + 1) v t o h.bounded))))
  strong_cases l v t c true false mv st e o fresh on one excl z h =
      subst (λ x. Live vs env (suspend false true (body_at vs m now l v t) c) m l v (suspend false true t c) mv st e (plus (raises (faults vs env c)) (plus (waits l (m l && x)) o))) (sym (stays_spared st mv true))
      (awake_in vs env m now (body_at vs m now l v t) l v t false c mv st e o fresh (λ x. refl) (excl refl) z
      (subst (λ x. Live vs env (body_at vs m now l v t) m (l + 1) v t mv x e o) (stays_spared st mv true) h))
  strong_cases l v t c false k mv st e o fresh on one excl z h =
      subst (λ x. Idle vs m now l v (suspend false true t c) st e (plus (waits l (m l && x)) o)) (sym (stays_idle st mv k))
      (idle_wait vs env m now l v t false c st e o fresh (subst (λ x. Idle vs m now (l + 1) v t x e o) (stays_idle st mv k) h))

  weak_cases : (l v : ℕ) (t : Term) (c : Expr ℕ) (go k mv st e : Bool) (o : Trail) → is_fresh t ≡ true → (go ≡ true → some m l (suc (labels t)) ≡ true) → AtOne m l (suspend true true t c)
      → (go ≡ true → (mv && st) ≡ false) → is_zero (value vs env c) ≡ not k → Runs vs env (body_at vs m now l v t) m now (l + 1) v t go (mv && not k) (stays_with st mv go k) e o
      → Runs vs env (suspend true true (body_at vs m now l v t) c) m now l v (suspend true true t c) go mv st (e && not k) (plus (raises (faults_if go (faults vs env c))) (plus (waits l (m l && stays_with st mv go k)) o))
  weak_cases l v t c true true mv st e o fresh on one excl z h =
      let fs = faults vs env c in
      let u = suspend true true h.reaction.held c in
      let w = m l && stays_with st mv true true in
      let g = h.stays (and_false mv) in
      told vs env m _ l v (suspend true true t c) mv st false (e && false) _ _ (sym (and_false e)) refl
      (asleep vs env m _ u l v (suspend true true t c) mv st (plus (waits l w) o) fs (after_faults fs (stays u h.reaction)) (on refl) one (of_weak_suspend env (body_at vs m now l v t) c h.reaction z h.reacts) refl
      h.acts h.met (λ all. ap (λ x. fs ++ x) (h.faults all)) refl refl (all_stay m l (labels t) (stays_with st mv true true) o.marks g.0) g.1
      (λ on k hk. ap (λ x. suspend true true x c) (body_held vs env m now (body_at vs m now l v t) l v t (mv && false) (stays_with st mv true true) e o fresh (λ x. refl) h on k hk))
      (bounds vs m l v (suspend true true t c) (plus (waits l w) o) (range_wait m l (labels t) v (registers vs t) w o (ranges vs m (l + 1) v t o h.bounded))))
  weak_cases l v t c true false mv st e o fresh on one excl z h =
      told vs env m _ l v (suspend true true t c) mv st e (e && true) _ _ (sym (and_true e)) refl
      (subst (λ x. Live vs env (suspend true true (body_at vs m now l v t) c) m l v (suspend true true t c) mv st e (plus (raises (faults vs env c)) (plus (waits l (m l && x)) o))) (sym (stays_spared st mv true))
      (awake_in vs env m now (body_at vs m now l v t) l v t true c mv st e o fresh (λ x. refl) (excl refl) z
      (subst₂ (λ x y. Live vs env (body_at vs m now l v t) m (l + 1) v t x y e o) (and_true mv) (stays_spared st mv true) h)))
  weak_cases l v t c false k mv st e o fresh on one excl z h =
      subst₂ (λ x y. Idle vs m now l v (suspend true true t c) st x (plus (waits l (m l && y)) o)) (h.ends ∙ sym (ap (λ x. x && not k) h.ends)) (sym (stays_idle st mv k))
      (idle_wait vs env m now l v t true c st e o fresh (subst (λ x. Idle vs m now (l + 1) v t x e o) (stays_idle st mv k) h))

  on_of : (x y : Bool) → (x && y) ≡ true → x ≡ true
  on_of true y h = refl
  on_of false y h = absurd (cc)

  running : (x y z : Bool) → (y && z) ≡ false → (x && y) ≡ true → z ≡ false
  running true true z p q = p
  running true false z p q = absurd (cc)
  running false y z p q = absurd (cc)

  -- an immediate strong suspension goes on
  pub resumes_strong_wait : (l v : ℕ) (t : Term) (c : Expr ℕ) (res k mv st ea eb : Bool) (a b : Trail) → is_fresh t ≡ true → AtOne m l (suspend false true t c) → (res && (mv && st)) ≡ false → is_zero (value vs env c) ≡ not k
      → Enters vs env now (l + 1) v t (m l && (res && not k)) mv ea a → Proceeds vs env m now (l + 1) v t (res && not k) mv (stays_with st mv (some m l (suc (labels t)) && res) k) eb b
      → Proceeds vs env m now l v (suspend false true t c) res mv st (ea || eb)
      (plus (raises (faults_if (some m l (suc (labels t)) && res) (faults vs env c))) (plus (waits l (m l && stays_with st mv (some m l (suc (labels t)) && res) k)) (plus a b)))
  resumes_strong_wait l v t c res k mv st ea eb a b fresh one excl z h i =
      let go = some m l (suc (labels t)) && res in
      strong_cases l v t c go k mv st (ea || eb) (plus a b) fresh (on_of (some m l (suc (labels t))) res) one (running (some m l (suc (labels t))) res (mv && st) excl) z
      (subst (λ x. Runs vs env (body_at vs m now l v t) m now (l + 1) v t x mv (stays_with st mv go k) (ea || eb) (plus a b)) (sym (and_assoc (some m l (suc (labels t))) res (not k)))
      (body_runs l v t (res && not k) mv (stays_with st mv go k) ea eb a b one.0 h i))

  -- an immediate weak suspension goes on
  pub resumes_weak_wait : (l v : ℕ) (t : Term) (c : Expr ℕ) (res k mv st ea eb : Bool) (a b : Trail) → is_fresh t ≡ true → AtOne m l (suspend true true t c) → (res && (mv && st)) ≡ false → is_zero (value vs env c) ≡ not k
      → Enters vs env now (l + 1) v t (m l && res) (mv && not k) ea a → Proceeds vs env m now (l + 1) v t res (mv && not k) (stays_with st mv (some m l (suc (labels t)) && res) k) eb b
      → Proceeds vs env m now l v (suspend true true t c) res mv st ((ea || eb) && not k)
      (plus (raises (faults_if (some m l (suc (labels t)) && res) (faults vs env c))) (plus (waits l (m l && stays_with st mv (some m l (suc (labels t)) && res) k)) (plus a b)))
  resumes_weak_wait l v t c res k mv st ea eb a b fresh one excl z h i =
      let go = some m l (suc (labels t)) && res in
      weak_cases l v t c go k mv st (ea || eb) (plus a b) fresh (on_of (some m l (suc (labels t))) res) one (running (some m l (suc (labels t))) res (mv && st) excl) z
      (body_runs l v t res (mv && not k) (stays_with st mv go k) ea eb a b one.0 h i)
