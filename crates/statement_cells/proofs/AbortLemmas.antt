-- Runs of aborts.
use Rattle.std.proofs.Common.{◌≡◌, ℕ, Bool, true, false, ◌&&◌, ◌||◌, not, List, [], ◌++◌, refl, sym, ap, ◌∙◌, subst, append-nil}
use Rattle.quartz_tree.specs.declared.fault.Fault.{Fault}
use Rattle.quartz_tree.specs.Tree.{Tree as Expr}
use Rattle.quartz_expr.specs.Values.{Values, is_zero}
use Rattle.quartz_expr.specs.Vars.{Vars}
use Rattle.quartz_expr.specs.Value.{value}
use Rattle.quartz_expr.specs.Faults.{faults}
use Rattle.quartz_expr.specs.Terms.{Term, nothing, abort}
use Rattle.quartz_expr.specs.React.{Reaction, ends, after_faults, formed, React, of_delayed_abort, of_spared_abort, of_strong_abort, of_weak_abort}
use Rattle.quartz_expr.specs.Tick.{tick}
use Rattle.statement_cells.specs.Labels.{labels}
use Rattle.statement_cells.specs.Stands.{Marks, Registers, some, at, plain}
use Rattle.statement_cells.specs.Walk.{Trail, no_marks, plus, kept_marks, Live, Idle, Runs}
use Rattle.statement_cells.proofs.BoolLemmas.{and_false, and_true, or_false, or_true}
use Rattle.statement_cells.proofs.MarkLemmas.{some_none}
use Rattle.statement_cells.proofs.ReactLemmas.{before_end}
use Rattle.statement_cells.proofs.RunLemmas.{raises, faults_if, bounds, ranges, Enters, Proceeds, told}
use Rattle.quartz_expr.proofs.TruthLemmas.{and_assoc}

-- among no marks none is 1
pub nowhere_on : (l n : ℕ) (P : Type 0) → some no_marks l n ≡ true → P
nowhere_on l n P on = let off : some no_marks l n ≡ false = some_none l n in absurd (cc)

module _ (vs : Vars) (env : Values) (m : Marks) where
  -- the body of an abort reacts under it
  guarded : (t u : Term) (l v : ℕ) (s : Term) (weak immediate : Bool) (c : Expr ℕ) (mv st e : Bool) (o : Trail) (fs : List Fault) (form : Term → Term)
      → (some m l (labels s) ≡ true → (x : Term) → form x ≡ abort weak true x c)
      → ((r : Reaction) → React vs env t r → React vs env u (record (after_faults fs (formed (λ x. abort weak true x c) r)) { held = form r.held }))
      → Live vs env t m l v s mv st e o → Live vs env u m l v (abort weak immediate s c) mv st e (plus (raises fs) o)
  guarded t u l v s weak immediate c mv st e o fs form same f h = record {
    reaction = record (after_faults fs (formed (λ x. abort weak true x c) h.reaction)) { held = form h.reaction.held };
    reacts = f h.reaction h.reacts;
    ends = h.ends;
    acts = h.acts;
    met = h.met;
    faults = λ all. ap (λ x. fs ++ x) (h.faults all);
    stops = h.stops;
    goes = λ x y. let g = h.goes x y in
        (g.0, g.1, λ k hk. ap (λ z. abort weak true z c) (g.2 k hk) ∙ sym (ap (plain vs) (before_end h.reaction.ended (abort weak true h.reaction.residual c) (h.ends ∙ y))));
    stays = h.stays;
    held = λ on k hk. ap (λ z. abort weak true z c) (h.held on k hk) ∙ sym (ap (plain vs) (same on h.reaction.held));
    bounded = bounds vs m l v (abort weak immediate s c) (plus (raises fs) o) (ranges vs m l v s o h.bounded);
  }

  -- the body of an abort doesn't react
  idle_abort : (now : Registers) (l v : ℕ) (s : Term) (weak immediate : Bool) (c : Expr ℕ) (st e : Bool) (o : Trail) → Idle vs m now l v s st e o → Idle vs m now l v (abort weak immediate s c) st e o
  idle_abort now l v s weak immediate c st e o h = record {
    ends = h.ends;
    acts = h.acts;
    faults = h.faults;
    met = h.met;
    marks = h.marks;
    takes = h.takes;
    held = λ on k hk. ap (λ z. abort weak true z c) (h.held on k hk);
    bounded = bounds vs m l v (abort weak immediate s c) o (ranges vs m l v s o h.bounded);
  }

  -- a strong abort whose condition holds
  aborted : (now : Registers) (t : Term) (l v : ℕ) (s : Term) (immediate : Bool) (c : Expr ℕ) (mv st e : Bool) (o : Trail) → (mv && st) ≡ false → (some m l (labels s) ≡ true → t ≡ at vs m now l v s)
      → is_zero (value vs env c) ≡ false → Idle vs m now l v s st e o → Live vs env (abort false true t c) m l v (abort false immediate s c) mv st true (plus (raises (faults vs env c)) o)
  aborted now t l v s immediate c mv st e o excl same z h =
      let fs = faults vs env c in
      record {
        reaction = ends [] fs (abort false true (tick vs t) c);
        reacts = of_strong_abort env t c z;
        ends = refl;
        acts = sym h.acts;
        met = sym h.met;
        faults = λ all. sym (ap (λ x. fs ++ x) h.faults ∙ append-nil fs);
        stops = λ x y. (h.marks ∙ ap (λ w. kept_marks m w l (labels s)) (held_back mv st excl x), h.takes);
        goes = λ x y. absurd (cc);
        stays = λ x. (h.marks, h.takes);
        held = λ on k hk. ap (λ w. abort false true w c) (h.held on k hk ∙ ap (λ w. plain vs (tick vs w)) (sym (same on)));
        bounded = bounds vs m l v (abort false immediate s c) (plus (raises fs) o) (ranges vs m l v s o h.bounded);
      }
    where
      held_back : (x y : Bool) → (x && y) ≡ false → x ≡ true → y ≡ false
      held_back true y p q = p
      held_back false y p q = absurd (cc)

  -- a weak abort whose condition holds, once the body has reacted
  left : (t : Term) (l v : ℕ) (s : Term) (immediate : Bool) (c : Expr ℕ) (mv st e : Bool) (o : Trail) → (mv && st) ≡ false
      → is_zero (value vs env c) ≡ false → Live vs env t m l v s false st e o → Live vs env (abort true true t c) m l v (abort true immediate s c) mv st true (plus (raises (faults vs env c)) o)
  left t l v s immediate c mv st e o excl z h =
      let fs = faults vs env c in
      let g = h.stays refl in
      record {
        reaction = after_faults fs (record (h.reaction) { residual = nothing; held = abort true true h.reaction.held c; ended = true });
        reacts = of_weak_abort env t c h.reaction z h.reacts;
        ends = refl;
        acts = h.acts;
        met = h.met;
        faults = λ all. ap (λ x. fs ++ x) (h.faults all);
        stops = λ x y. (g.0 ∙ ap (λ w. kept_marks m w l (labels s)) (held_back mv st excl x), g.1);
        goes = λ x y. absurd (cc);
        stays = λ x. g;
        held = λ on k hk. ap (λ w. abort true true w c) (h.held on k hk);
        bounded = bounds vs m l v (abort true immediate s c) (plus (raises fs) o) (ranges vs m l v s o h.bounded);
      }
    where
      held_back : (x y : Bool) → (x && y) ≡ false → x ≡ true → y ≡ false
      held_back true y p q = p
      held_back false y p q = absurd (cc)

  -- a strong abort, from the start or from its labels
  strongly : (now : Registers) (t : Term) (l v : ℕ) (s : Term) (immediate : Bool) (c : Expr ℕ) (go k mv st e : Bool) (o : Trail) → (go ≡ true → (mv && st) ≡ false)
      → (some m l (labels s) ≡ true → t ≡ at vs m now l v s) → is_zero (value vs env c) ≡ not k → Runs vs env t m now l v s (go && not k) mv st e o
      → Runs vs env (abort false true t c) m now l v (abort false immediate s c) go mv st (e || (go && k)) (plus (raises (faults_if go (faults vs env c))) o)
  strongly now t l v s immediate c true true mv st e o excl same z h =
      told vs env m _ l v (abort false immediate s c) mv st true (e || true) _ _ (sym (or_true e)) refl (aborted now t l v s immediate c mv st e o (excl refl) same z h)
  strongly now t l v s immediate c true false mv st e o excl same z h =
      told vs env m _ l v (abort false immediate s c) mv st e (e || false) _ _ (sym (or_false e)) refl
      (guarded t (abort false true t c) l v s false immediate c mv st e o (faults vs env c) (λ x. abort false true x c) (λ on x. refl) (λ r q. of_spared_abort env false t c r z q) h)
  strongly now t l v s immediate c false k mv st e o excl same z h =
      subst (λ x. Idle vs m now l v (abort false immediate s c) st x o) (sym (or_false e)) (idle_abort now l v s false immediate c st e o h)

  -- a weak abort, from the start or from its labels
  weakly : (now : Registers) (t : Term) (l v : ℕ) (s : Term) (immediate : Bool) (c : Expr ℕ) (go k mv st e : Bool) (o : Trail) → (go ≡ true → (mv && st) ≡ false)
      → is_zero (value vs env c) ≡ not k → Runs vs env t m now l v s go (mv && not k) st e o
      → Runs vs env (abort true true t c) m now l v (abort true immediate s c) go mv st (e || (go && k)) (plus (raises (faults_if go (faults vs env c))) o)
  weakly now t l v s immediate c true true mv st e o excl z h =
      told vs env m _ l v (abort true immediate s c) mv st true (e || true) _ _ (sym (or_true e)) refl
      (left t l v s immediate c mv st e o (excl refl) z (subst (λ x. Live vs env t m l v s x st e o) (and_false mv) h))
  weakly now t l v s immediate c true false mv st e o excl z h =
      told vs env m _ l v (abort true immediate s c) mv st e (e || false) _ _ (sym (or_false e)) refl
      (guarded t (abort true true t c) l v s true immediate c mv st e o (faults vs env c) (λ x. abort true true x c) (λ on x. refl) (λ r q. of_spared_abort env true t c r z q)
      (subst (λ x. Live vs env t m l v s x st e o) (and_true mv) h))
  weakly now t l v s immediate c false k mv st e o excl z h =
      subst (λ x. Idle vs m now l v (abort true immediate s c) st x o) (sym (or_false e)) (idle_abort now l v s true immediate c st e o h)

module _ (vs : Vars) (env : Values) (now : Registers) where
  -- a delayed abort starts
  pub starts_delayed_abort : (l v : ℕ) (t : Term) (weak : Bool) (c : Expr ℕ) (go mv e : Bool) (o : Trail) → Enters vs env now l v t go mv e o → Enters vs env now l v (abort weak false t c) go mv e o
  starts_delayed_abort l v t weak c true mv e o h =
      guarded vs env no_marks t (abort weak false t c) l v t weak false c mv false e o [] (λ x. abort weak false t c) (λ on. nowhere_on l (labels t) _ on) (λ r q. of_delayed_abort env weak t c r q) h
  starts_delayed_abort l v t weak c false mv e o h = idle_abort vs env no_marks now l v t weak false c false e o h

  -- an immediate strong abort starts
  pub starts_strong_abort : (l v : ℕ) (t : Term) (c : Expr ℕ) (go k mv e : Bool) (o : Trail) → is_zero (value vs env c) ≡ not k → Enters vs env now l v t (go && not k) mv e o
      → Enters vs env now l v (abort false true t c) go mv (e || (go && k)) (plus (raises (faults_if go (faults vs env c))) o)
  starts_strong_abort l v t c go k mv e o z h = strongly vs env no_marks now t l v t true c go k mv false e o (λ x. and_false mv) (λ on. nowhere_on l (labels t) _ on) z h

  -- an immediate weak abort starts
  pub starts_weak_abort : (l v : ℕ) (t : Term) (c : Expr ℕ) (go k mv e : Bool) (o : Trail) → is_zero (value vs env c) ≡ not k → Enters vs env now l v t go (mv && not k) e o
      → Enters vs env now l v (abort true true t c) go mv (e || (go && k)) (plus (raises (faults_if go (faults vs env c))) o)
  starts_weak_abort l v t c go k mv e o z h = weakly vs env no_marks now t l v t true c go k mv false e o (λ x. and_false mv) z h

module _ (vs : Vars) (env : Values) (m : Marks) (now : Registers) where
  running : (x y z : Bool) → (y && z) ≡ false → (x && y) ≡ true → z ≡ false
  running true true z p q = p
  running true false z p q = absurd (cc)
  running false y z p q = absurd (cc)

  -- a strong abort goes on
  pub resumes_strong_abort : (l v : ℕ) (t : Term) (immediate : Bool) (c : Expr ℕ) (res k mv st e : Bool) (o : Trail) → (res && (mv && st)) ≡ false → is_zero (value vs env c) ≡ not k
      → Proceeds vs env m now l v t (res && not k) mv st e o
      → Proceeds vs env m now l v (abort false immediate t c) res mv st (e || ((some m l (labels t) && res) && k)) (plus (raises (faults_if (some m l (labels t) && res) (faults vs env c))) o)
  resumes_strong_abort l v t immediate c res k mv st e o excl z h =
      strongly vs env m now (at vs m now l v t) l v t immediate c (some m l (labels t) && res) k mv st e o (running (some m l (labels t)) res (mv && st) excl) (λ on. refl) z
      (subst (λ x. Runs vs env (at vs m now l v t) m now l v t x mv st e o) (sym (and_assoc (some m l (labels t)) res (not k))) h)

  -- a weak abort goes on
  pub resumes_weak_abort : (l v : ℕ) (t : Term) (immediate : Bool) (c : Expr ℕ) (res k mv st e : Bool) (o : Trail) → (res && (mv && st)) ≡ false → is_zero (value vs env c) ≡ not k
      → Proceeds vs env m now l v t res (mv && not k) st e o
      → Proceeds vs env m now l v (abort true immediate t c) res mv st (e || ((some m l (labels t) && res) && k)) (plus (raises (faults_if (some m l (labels t) && res) (faults vs env c))) o)
  resumes_weak_abort l v t immediate c res k mv st e o excl z h =
      weakly vs env m now (at vs m now l v t) l v t immediate c (some m l (labels t) && res) k mv st e o (running (some m l (labels t)) res (mv && st) excl) z h
