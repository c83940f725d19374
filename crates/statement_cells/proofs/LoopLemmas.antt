-- Runs of loops.
use Rattle.std.proofs.Common.{◌≡◌, ℕ, Bool, true, false, ◌&&◌, not, List, [], ◌++◌, refl, sym, ap, ap₂, ◌∙◌, subst, append-nil}
use Rattle.quartz_tree.specs.declared.fault.Fault.{Fault}
use Rattle.quartz_tree.specs.Tree.{Tree as Expr}
use Rattle.quartz_expr.specs.Values.{Values, is_zero}
use Rattle.quartz_expr.specs.Vars.{Vars}
use Rattle.quartz_expr.specs.Value.{value}
use Rattle.quartz_expr.specs.Faults.{faults}
use Rattle.quartz_expr.specs.Terms.{Term, nothing, choose, seq, loop, Terms, none, part, is_fresh, is_instant}
use Rattle.quartz_expr.specs.React.{sequence, of_nothing, of_yes, of_no, of_none, of_turn, of_stop, of_loop}
use Rattle.quartz_expr.specs.Tick.{tick}
use Rattle.quartz_expr.proofs.LawLemmas.{stays_on, tick_fresh}
use Rattle.statement_cells.specs.Labels.{labels, registers}
use Rattle.statement_cells.specs.Stands.{Marks, Registers, some, at, plain, AtOne}
use Rattle.statement_cells.specs.Walk.{no_takes, else_takes, Trail, no_marks, union, plus, kept_marks, Holds, Live, Idle, Runs}
use Rattle.statement_cells.proofs.MarkLemmas.{some_none, marks_none, takes_none, holds_first, union_none}
use Rattle.statement_cells.proofs.TrailLemmas.{plus_none}
use Rattle.statement_cells.proofs.PlainLemmas.{plain_fresh}
use Rattle.statement_cells.proofs.RunLemmas.{raises, faults_if, resolved_left, resolved_right, holds_later, InRange, bounds, ranges, range_both, Enters, Proceeds, told, reworded, idle_free}

-- what comes behind the body: the condition, and the loop again
abbrev pub again : Term → Expr ℕ → Terms
again t c = part (choose c (loop t c) nothing) none

-- around a rest of the body nothing has a store
plain_again : (vs : Vars) (u t : Term) (c : Expr ℕ) → is_fresh t ≡ true → plain vs (seq (part u (again t c))) ≡ seq (part (plain vs u) (again t c))
plain_again vs u t c fresh = ap (λ x. seq (part (plain vs u) (again x c))) (plain_fresh vs t fresh)

tick_again : (vs : Vars) (u t : Term) (c : Expr ℕ) → is_fresh t ≡ true → tick vs (seq (part u (again t c))) ≡ seq (part (tick vs u) (again t c))
tick_again vs u t c fresh = ap (λ x. seq (part (tick vs u) (again x c))) (tick_fresh vs t fresh)

module _ (vs : Vars) (env : Values) (m : Marks) where
  -- the body doesn't end
  body_stops : (u : Term) (l v : ℕ) (t : Term) (c : Expr ℕ) (mv st : Bool) (o : Trail) → is_fresh t ≡ true
      → Live vs env u m l v t mv st false o → Live vs env (seq (part u (again t c))) m l v (loop t c) mv st false o
  body_stops u l v t c mv st o fresh h = record {
    reaction = record (h.reaction) { residual = sequence h.reaction.residual (again t c); held = seq (part h.reaction.held (again t c)) };
    reacts = of_stop env u (again t c) h.reaction h.reacts h.ends;
    ends = h.ends;
    acts = h.acts;
    met = h.met;
    faults = h.faults;
    stops = λ x y. absurd (cc);
    goes = λ x y. let g = h.goes x y in
        (g.0, g.1, λ k hk. ap (λ z. seq (part z (again t c))) (g.2 k hk) ∙ sym (plain_again vs h.reaction.residual t c fresh));
    stays = h.stays;
    held = λ on k hk. ap (λ z. seq (part z (again t c))) (h.held on k hk) ∙ sym (plain_again vs h.reaction.held t c fresh);
    bounded = bounds vs m l v (loop t c) o (ranges vs m l v t o h.bounded);
  }

  -- the body ends, and the condition fails
  body_ends : (u : Term) (l v : ℕ) (t : Term) (c : Expr ℕ) (mv st : Bool) (o : Trail) → is_fresh t ≡ true → is_zero (value vs env c) ≡ true
      → Live vs env u m l v t mv st true o → Live vs env (seq (part u (again t c))) m l v (loop t c) mv st true (plus o (raises (faults vs env c)))
  body_ends u l v t c mv st o fresh z h =
      let fs = faults vs env c in
      record {
        reaction = _;
        reacts = of_turn env u (again t c) h.reaction _ h.reacts h.ends (of_turn env (choose c (loop t c) nothing) none _ _ (of_no env c (loop t c) nothing _ z (of_nothing env)) refl (of_none env));
        ends = refl;
        acts = ap (λ x. x ++ []) h.acts;
        met = ap (λ x. x ++ []) h.met;
        faults = λ all. ap₂ (λ x y. x ++ y) (h.faults (resolved_left o.met [] all)) (append-nil (fs ++ []) ∙ append-nil fs);
        stops = λ x y. let g = h.stops x refl in (ap (λ n. union n no_marks) g.0, ap (λ n. else_takes n no_takes) g.1);
        goes = λ x y. absurd (cc);
        stays = λ x. let g = h.stays x in (union_none o.marks ∙ g.0, ap (λ n. else_takes n no_takes) g.1);
        held = λ on k hk. ap (λ x. seq (part x (again t c))) (h.held on k (holds_first o.defaults no_takes k hk)) ∙ sym (plain_again vs h.reaction.held t c fresh);
        bounded = bounds vs m l v (loop t c) (plus o (raises fs)) (range_both m l (labels t) v (registers vs t) o (raises fs) (ranges vs m l v t o h.bounded) (quiet l v t fs));
      }
    where
      quiet : (l v : ℕ) (t : Term) (fs : List Fault) → InRange m l (labels t) v (registers vs t) (raises fs)
      quiet l v t fs = (marks_none l (labels t), takes_none v (registers vs t), takes_none v (registers vs t), λ f. refl)

module _ (vs : Vars) (env : Values) (now : Registers) where
  -- a body that isn't instant doesn't end when it starts
  pub not_yet : (n : Marks) (l v : ℕ) (t : Term) (mv st e : Bool) (o : Trail) → is_instant t ≡ false → Live vs env t n l v t mv st e o → e ≡ false
  not_yet n l v t mv st e o slow h = sym h.ends ∙ stays_on vs env t h.reaction slow h.reacts

  loop_begins : (l v : ℕ) (t : Term) (c : Expr ℕ) (mv e : Bool) (o : Trail) → is_instant t ≡ false → is_fresh t ≡ true
      → Live vs env t no_marks l v t mv false e o → Live vs env (loop t c) no_marks l v (loop t c) mv false false o
  loop_begins l v t c mv e o slow fresh h =
      reworded vs env no_marks (seq (part t (again t c))) (loop t c) l v (loop t c) mv false false o [] (λ x. loop t c)
      (λ on. let off : some no_marks l (labels t) ≡ false = some_none l (labels t) in absurd (cc)) (λ r k. of_loop env t c r k)
      (body_stops vs env no_marks t l v t c mv false o fresh (subst (λ x. Live vs env t no_marks l v t mv false x o) (not_yet no_marks l v t mv false e o slow h) h))

  -- a loop starts
  pub starts_loop : (l v : ℕ) (t : Term) (c : Expr ℕ) (go mv e : Bool) (o : Trail) → is_instant t ≡ false → is_fresh t ≡ true
      → Enters vs env now l v t go mv e o → Enters vs env now l v (loop t c) go mv false o
  starts_loop l v t c true mv e o slow fresh h = loop_begins l v t c mv e o slow fresh h
  starts_loop l v t c false mv e o slow fresh h = record {
    ends = refl;
    acts = h.acts;
    faults = h.faults;
    met = h.met;
    marks = h.marks;
    takes = h.takes;
    held = λ on. let off : some no_marks l (labels t) ≡ false = some_none l (labels t) in absurd (cc);
    bounded = bounds vs no_marks l v (loop t c) o (ranges vs no_marks l v t o h.bounded);
  }

module _ (vs : Vars) (env : Values) (m : Marks) (now : Registers) where
  -- the body ends, and starts again
  body_again : (u : Term) (l v : ℕ) (t : Term) (c : Expr ℕ) (mv st e : Bool) (a b : Trail) → is_instant t ≡ false → is_fresh t ≡ true → is_zero (value vs env c) ≡ false
      → Live vs env u m l v t mv st true a → Live vs env t no_marks l v t mv false e b
      → Live vs env (seq (part u (again t c))) m l v (loop t c) mv st false (plus a (plus (raises (faults vs env c)) b))
  body_again u l v t c mv st e a b slow fresh z h i =
      let fs = faults vs env c in
      let j = loop_begins vs env now l v t c mv e b slow fresh i in
      record {
        reaction = _;
        reacts = of_turn env u (again t c) h.reaction _ h.reacts h.ends (of_stop env (choose c (loop t c) nothing) none _ (of_yes env c (loop t c) nothing j.reaction z j.reacts) j.ends);
        ends = j.ends;
        acts = ap₂ (λ x y. x ++ y) h.acts j.acts;
        met = ap₂ (λ x y. x ++ y) h.met j.met;
        faults = λ all. ap₂ (λ x y. x ++ (fs ++ y)) (h.faults (resolved_left a.met b.met all)) (j.faults (resolved_right a.met b.met all));
        stops = λ x y. absurd (cc);
        goes = λ x y.
            let f = h.stops x refl in
            let g = j.goes x refl in
            subst (λ n. (some n l (labels t) ≡ true) × AtOne n l t
            × ((k : Registers) → Holds (else_takes (else_takes a.takes b.takes) (else_takes a.defaults b.defaults)) k → at vs n k l v (loop t c) ≡ plain vs j.reaction.residual))
            (sym (ap (λ n. union n b.marks) f.0))
            (g.0, g.1, λ k hk. g.2 k (holds_later a.takes b.takes a.defaults b.defaults k f.1 (j.bounded.rests (some_none l (labels t))) hk));
        stays = λ x. let g = h.stays x in let f = j.stays x in (ap₂ union g.0 f.0 ∙ union_none (kept_marks m st l (labels t)), ap₂ else_takes g.1 f.1);
        held = λ on k hk. ap (λ x. seq (part x (again t c))) (h.held on k (holds_first a.defaults b.defaults k hk)) ∙ sym (plain_again vs h.reaction.held t c fresh);
        bounded = bounds vs m l v (loop t c) (plus a (plus (raises fs) b))
            (range_both m l (labels t) v (registers vs t) a (plus (raises fs) b) (ranges vs m l v t a h.bounded)
            (j.bounded.marks, j.bounded.takes, j.bounded.defaults, λ f. j.bounded.rests (some_none l (labels t))));
      }

  loop_cases : (l v : ℕ) (t : Term) (c : Expr ℕ) (go k mv st ea eb : Bool) (a b : Trail) → is_instant t ≡ false → is_fresh t ≡ true → is_zero (value vs env c) ≡ not k
      → Runs vs env (at vs m now l v t) m now l v t go mv st ea a → Enters vs env now l v t (ea && k) mv eb b
      → Runs vs env (at vs m now l v (loop t c)) m now l v (loop t c) go mv st (ea && not k) (plus a (plus (raises (faults_if ea (faults vs env c))) b))
  loop_cases l v t c true true mv st true eb a b slow fresh z h i = body_again (at vs m now l v t) l v t c mv st eb a b slow fresh z h i
  loop_cases l v t c true false mv st true eb a b slow fresh z h i =
      told vs env m _ l v (loop t c) mv st true true _ _ refl (ap (λ x. plus a (plus (raises (faults vs env c)) x)) (sym (idle_free vs env no_marks now l v t false eb b (some_none l (labels t)) i)))
      (subst (Live vs env (at vs m now l v (loop t c)) m l v (loop t c) mv st true) (ap (plus a) (sym (plus_none (raises (faults vs env c))))) (body_ends vs env m (at vs m now l v t) l v t c mv st a fresh z h))
  loop_cases l v t c true k mv st false eb a b slow fresh z h i =
      told vs env m _ l v (loop t c) mv st false false a (plus a b) refl (sym (ap (plus a) (idle_free vs env no_marks now l v t false eb b (some_none l (labels t)) i) ∙ plus_none a))
      (body_stops vs env m (at vs m now l v t) l v t c mv st a fresh h)
  loop_cases l v t c false k mv st true eb a b slow fresh z h i = let f = h.ends in absurd (cc)
  loop_cases l v t c false k mv st false eb a b slow fresh z h i =
      subst (Idle vs m now l v (loop t c) st false) (sym (ap (plus a) (idle_free vs env no_marks now l v t false eb b (some_none l (labels t)) i) ∙ plus_none a))
      record {
        ends = refl;
        acts = h.acts;
        faults = h.faults;
        met = h.met;
        marks = h.marks;
        takes = h.takes;
        held = λ on k hk. ap (λ x. seq (part x (again t c))) (h.held on k hk)
            ∙ sym (ap (plain vs) (tick_again vs (at vs m now l v t) t c fresh) ∙ plain_again vs (tick vs (at vs m now l v t)) t c fresh);
        bounded = bounds vs m l v (loop t c) a (ranges vs m l v t a h.bounded);
      }

  -- a loop goes on: where its body ends and the condition holds, the body starts again in the same step
  pub resumes_loop : (l v : ℕ) (t : Term) (c : Expr ℕ) (res k mv st ea eb : Bool) (a b : Trail) → is_instant t ≡ false → is_fresh t ≡ true → is_zero (value vs env c) ≡ not k
      → Proceeds vs env m now l v t res mv st ea a → Enters vs env now l v t (ea && k) mv eb b
      → Proceeds vs env m now l v (loop t c) res mv st (ea && not k) (plus a (plus (raises (faults_if ea (faults vs env c))) b))
  resumes_loop l v t c res k mv st ea eb a b slow fresh z h i = loop_cases l v t c (some m l (labels t) && res) k mv st ea eb a b slow fresh z h i
