-- Runs of delayed suspensions.
use Rattle.std.proofs.Common.{◌≡◌, ℕ, Bool, true, false, ◌&&◌, ◌||◌, not, List, [], ◌++◌, refl, sym, ap, ◌∙◌, subst, subst₂, append-nil}
use Rattle.quartz_tree.specs.declared.fault.Fault.{Fault}
use Rattle.quartz_tree.specs.Tree.{Tree as Expr}
use Rattle.quartz_expr.specs.Values.{Values, is_zero}
use Rattle.quartz_expr.specs.Vars.{Vars}
use Rattle.quartz_expr.specs.Value.{value}
use Rattle.quartz_expr.specs.Faults.{faults}
use Rattle.quartz_expr.specs.Terms.{Term, suspend}
use Rattle.quartz_expr.specs.React.{Reaction, after_faults, formed, stays, rests, React, AllResolved, of_delayed_suspend, of_spared_suspend, of_strong_suspend, of_weak_suspend}
use Rattle.quartz_expr.specs.Tick.{tick}
use Rattle.statement_cells.specs.Labels.{labels}
use Rattle.statement_cells.specs.Stands.{Marks, Registers, some, at, plain, AtOne}
use Rattle.statement_cells.specs.Walk.{no_takes, else_takes, Trail, no_marks, plus, kept_marks, Holds, Bounded, Live, Idle, Runs}
use Rattle.statement_cells.proofs.BoolLemmas.{and_false, and_true, or_false, or_true}
use Rattle.statement_cells.proofs.MarkLemmas.{some_agree, at_agree, at_one_agree, kept_agree}
use Rattle.statement_cells.proofs.ReactLemmas.{before_end}
use Rattle.statement_cells.proofs.RunLemmas.{raises, faults_if, bounds, ranges, Enters, Proceeds, told}
use Rattle.statement_cells.proofs.AbortLemmas.{nowhere_on}
use Rattle.quartz_expr.proofs.TruthLemmas.{and_assoc}

-- where a suspension's labels stay: where they did, and where control moves, it reacts and the condition holds
abbrev pub stays_with : (stay move go cond : Bool) → Bool
stays_with stay move go cond = stay || ((move && go) && cond)

pub stays_held : (st mv : Bool) → mv ≡ true → stays_with st mv true true ≡ true
stays_held st true h = or_true st
stays_held st false h = absurd (cc)

pub stays_same : (st mv : Bool) → mv ≡ false → stays_with st mv true true ≡ st
stays_same st true h = absurd (cc)
stays_same st false h = or_false st

pub stays_spared : (st mv go : Bool) → stays_with st mv go false ≡ st
stays_spared st mv go = ap (λ x. st || x) (and_false (mv && go)) ∙ or_false st

pub stays_idle : (st mv k : Bool) → stays_with st mv false k ≡ st
stays_idle st mv k = ap (λ x. st || (x && k)) (and_false mv) ∙ or_false st

-- a term around which nothing has happened: its labels and the next registers stand for what is held
abbrev pub Stands : Vars → Marks → (l v : ℕ) → Term → Trail → Term → Type 0
Stands vs m l v s o t = some m l (labels s) ≡ true → (k : Registers) → Holds o.defaults k → at vs m k l v s ≡ plain vs t

module _ (vs : Vars) (env : Values) (m : Marks) where
  -- what stays as it is held: all its labels stay
  pub asleep : (u h : Term) (l v : ℕ) (s : Term) (mv st : Bool) (ws : Trail) (fs : List Fault) (r : Reaction) → some m l (labels s) ≡ true → AtOne m l s → React vs env u r → r.ended ≡ false
      → r.acts ≡ ws.acts → r.met ≡ ws.met → (AllResolved ws.met → r.faults ≡ fs ++ ws.faults) → r.residual ≡ h → r.held ≡ h
      → ws.marks ≡ kept_marks m (stays_with st mv true true) l (labels s) → ws.takes ≡ no_takes → Stands vs m l v s ws h → Bounded vs m l v s ws
      → Live vs env u m l v s mv st false (plus (raises fs) ws)
  asleep u h l v s mv st ws fs r on one reacts live acts met faulty left held marks takes stands bounded = record {
    reaction = r;
    reacts = reacts;
    ends = live;
    acts = acts;
    met = met;
    faults = faulty;
    stops = λ x y. absurd (cc);
    goes = λ x y.
        let all : ws.marks ≡ kept_marks m true l (labels s) = marks ∙ ap (λ z. kept_marks m z l (labels s)) (stays_held st mv x) in
        let own = kept_agree m l (labels s) in
        subst (λ n. (some n l (labels s) ≡ true) × AtOne n l s × ((k : Registers) → Holds (else_takes ws.takes ws.defaults) k → at vs n k l v s ≡ plain vs r.residual)) (sym all) (
          some_agree (kept_marks m true l (labels s)) m l (labels s) own ∙ on,
          at_one_agree s (kept_marks m true l (labels s)) m l own one,
          λ k hk. at_agree vs k s (kept_marks m true l (labels s)) m l v own ∙ stands on k (subst (λ f. Holds (else_takes f ws.defaults) k) takes hk) ∙ sym (ap (plain vs) left),
        );
    stays = λ x. (marks ∙ ap (λ z. kept_marks m z l (labels s)) (stays_same st mv x), takes);
    held = λ on k hk. stands on k hk ∙ sym (ap (plain vs) held);
    bounded = bounds vs m l v s (plus (raises fs) ws) (ranges vs m l v s ws bounded);
  }

  -- the body of a delayed suspension reacts under it
  awake : (t u : Term) (l v : ℕ) (s : Term) (weak : Bool) (c : Expr ℕ) (mv st e : Bool) (o : Trail) (fs : List Fault) (form : Term → Term)
      → (some m l (labels s) ≡ true → (x : Term) → form x ≡ suspend weak true x c)
      → ((r : Reaction) → React vs env t r → React vs env u (record (after_faults fs (formed (λ x. suspend weak true x c) r)) { held = form r.held }))
      → Live vs env t m l v s mv st e o → Live vs env u m l v (suspend weak false s c) mv st e (plus (raises fs) o)
  awake t u l v s weak c mv st e o fs form same f h = record {
    reaction = record (after_faults fs (formed (λ x. suspend weak true x c) h.reaction)) { held = form h.reaction.held };
    reacts = f h.reaction h.reacts;
    ends = h.ends;
    acts = h.acts;
    met = h.met;
    faults = λ all. ap (λ x. fs ++ x) (h.faults all);
    stops = h.stops;
    goes = λ x y. let g = h.goes x y in
        (g.0, g.1, λ k hk. ap (λ z. suspend weak true z c) (g.2 k hk) ∙ sym (ap (plain vs) (before_end h.reaction.ended (suspend weak true h.reaction.residual c) (h.ends ∙ y))));
    stays = h.stays;
    held = λ on k hk. ap (λ z. suspend weak true z c) (h.held on k hk) ∙ sym (ap (plain vs) (same on h.reaction.held));
    bounded = bounds vs m l v (suspend weak false s c) (plus (raises fs) o) (ranges vs m l v s o h.bounded);
  }

  -- the body of a delayed suspension doesn't react
  idle_suspend : (now : Registers) (l v : ℕ) (s : Term) (weak : Bool) (c : Expr ℕ) (st e : Bool) (o : Trail) → Idle vs m now l v s st e o → Idle vs m now l v (suspend weak false s c) st e o
  idle_suspend now l v s weak c st e o h = record {
    ends = h.ends;
    acts = h.acts;
    faults = h.faults;
    met = h.met;
    marks = h.marks;
    takes = h.takes;
    held = λ on k hk. ap (λ z. suspend weak true z c) (h.held on k hk);
    bounded = bounds vs m l v (suspend weak false s c) o (ranges vs m l v s o h.bounded);
  }

module _ (vs : Vars) (env : Values) (now : Registers) where
  -- a delayed suspension starts
  pub starts_delayed_suspend : (l v : ℕ) (t : Term) (weak : Bool) (c : Expr ℕ) (go mv e : Bool) (o : Trail) → Enters vs env now l v t go mv e o → Enters vs env now l v (suspend weak false t c) go mv e o
  starts_delayed_suspend l v t weak c true mv e o h =
      awake vs env no_marks t (suspend weak false t c) l v t weak c mv false e o [] (λ x. suspend weak false t c) (λ on. nowhere_on l (labels t) _ on) (λ r q. of_delayed_suspend env weak t c r q) h
  starts_delayed_suspend l v t weak c false mv e o h = idle_suspend vs env no_marks now l v t weak c false e o h

module _ (vs : Vars) (env : Values) (m : Marks) (now : Registers) where
  strong_cases : (l v : ℕ) (t : Term) (c : Expr ℕ) (go k mv st e : Bool) (o : Trail) → (go ≡ true → some m l (labels t) ≡ true) → AtOne m l t → is_zero (value vs env c) ≡ not k
      → Runs vs env (at vs m now l v t) m now l v t (go && not k) mv (stays_with st mv go k) e o
      → Runs vs env (suspend false true (at vs m now l v t) c) m now l v (suspend false false t c) go mv st e (plus (raises (faults_if go (faults vs env c))) o)
  strong_cases l v t c true true mv st e o on one z h =
      let fs = faults vs env c in
      let u = suspend false true (tick vs (at vs m now l v t)) c in
      told vs env m _ l v (suspend false false t c) mv st false e _ _ (sym h.ends) refl
      (asleep vs env m _ u l v (suspend false false t c) mv st o fs (rests u fs) (on refl) one (of_strong_suspend env (at vs m now l v t) c z) refl
      (sym h.acts) (sym h.met) (λ all. sym (ap (λ x. fs ++ x) h.faults ∙ append-nil fs)) refl refl h.marks h.takes
      (λ on k hk. ap (λ x. suspend false true x c) (h.held on k hk)) (bounds vs m l v (suspend false false t c) o (ranges vs m l v t o h.bounded)))
  strong_cases l v t c true false mv st e o on one z h =
      awake vs env m (at vs m now l v t) _ l v t false c mv st e o (faults vs env c) (λ x. suspend false true x c) (λ on x. refl) (λ r q. of_spared_suspend env false (at vs m now l v t) c r z q)
      (subst (λ x. Live vs env (at vs m now l v t) m l v t mv x e o) (stays_spared st mv true) h)
  strong_cases l v t c false k mv st e o on one z h = idle_suspend vs env m now l v t false c st e o (subst (λ x. Idle vs m now l v t x e o) (stays_idle st mv k) h)

  weak_cases : (l v : ℕ) (t : Term) (c : Expr ℕ) (go k mv st e : Bool) (o : Trail) → (go ≡ true → some m l (labels t) ≡ true) → AtOne m l t → is_zero (value vs env c) ≡ not k
      → Runs vs env (at vs m now l v t) m now l v t go (mv && not k) (stays_with st mv go k) e o
      → Runs vs env (suspend true true (at vs m now l v t) c) m now l v (suspend true false t c) go mv st (e && not k) (plus (raises (faults_if go (faults vs env c))) o)
  weak_cases l v t c true true mv st e o on one z h =
      let fs = faults vs env c in
      let g = h.stays (and_false mv) in
      let u = suspend true true h.reaction.held c in
      told vs env m _ l v (suspend true false t c) mv st false (e && false) _ _ (sym (and_false e)) refl
      (asleep vs env m _ u l v (suspend true false t c) mv st o fs (after_faults fs (stays u h.reaction)) (on refl) one (of_weak_suspend env (at vs m now l v t) c h.reaction z h.reacts) refl
      h.acts h.met (λ all. ap (λ x. fs ++ x) (h.faults all)) refl refl g.0 g.1
      (λ on k hk. ap (λ x. suspend true true x c) (h.held on k hk)) (bounds vs m l v (suspend true false t c) o (ranges vs m l v t o h.bounded)))
  weak_cases l v t c true false mv st e o on one z h =
      told vs env m _ l v (suspend true false t c) mv st e (e && true) _ _ (sym (and_true e)) refl
      (awake vs env m (at vs m now l v t) _ l v t true c mv st e o (faults vs env c) (λ x. suspend true true x c) (λ on x. refl) (λ r q. of_spared_suspend env true (at vs m now l v t) c r z q)
      (subst₂ (λ x y. Live vs env (at vs m now l v t) m l v t x y e o) (and_true mv) (stays_spared st mv true) h))
  weak_cases l v t c false k mv st e o on one z h =
      subst (λ x. Idle vs m now l v (suspend true false t c) st x o) (h.ends ∙ sym (ap (λ x. x && not k) h.ends))
      (idle_suspend vs env m now l v t true c st e o (subst (λ x. Idle vs m now l v t x e o) (stays_idle st mv k) h))

  on_of : (x y : Bool) → (x && y) ≡ true → x ≡ true
  on_of true y h = refl
  on_of false y h = absurd (cc)

  -- a delayed strong suspension goes on
  pub resumes_strong_suspend : (l v : ℕ) (t : Term) (c : Expr ℕ) (res k mv st e : Bool) (o : Trail) → AtOne m l t → is_zero (value vs env c) ≡ not k
      → Proceeds vs env m now l v t (res && not k) mv (stays_with st mv (some m l (labels t) && res) k) e o
      → Proceeds vs env m now l v (suspend false false t c) res mv st e (plus (raises (faults_if (some m l (labels t) && res) (faults vs env c))) o)
  resumes_strong_suspend l v t c res k mv st e o one z h =
      strong_cases l v t c (some m l (labels t) && res) k mv st e o (on_of (some m l (labels t)) res) one z
      (subst (λ x. Runs vs env (at vs m now l v t) m now l v t x mv (stays_with st mv (some m l (labels t) && res) k) e o) (sym (and_assoc (some m l (labels t)) res (not k))) h)

  -- a delayed weak suspension goes on
  pub resumes_weak_suspend : (l v : ℕ) (t : Term) (c : Expr ℕ) (res k mv st e : Bool) (o : Trail) → AtOne m l t → is_zero (value vs env c) ≡ not k
      → Proceeds vs env m now l v t res (mv && not k) (stays_with st mv (some m l (labels t) && res) k) e o
      → Proceeds vs env m now l v (suspend true false t c) res mv st (e && not k) (plus (raises (faults_if (some m l (labels t) && res) (faults vs env c))) o)
  resumes_weak_suspend l v t c res k mv st e o one z h = weak_cases l v t c (some m l (labels t) && res) k mv st e o (on_of (some m l (labels t)) res) one z h
