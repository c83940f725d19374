-- Runs of immediate suspensions: a wait label, and behind it those of the body.
use Rattle.std.proofs.Common.{◌≡◌, ℕ, suc, ◌+◌, ◌==◌, Bool, true, false, ◌&&◌, ◌||◌, ◌++◌, refl, sym, ap, ap₂, ◌∙◌, subst, arith}
use Rattle.std.specs.Prelude.{if◌then◌else◌}
use Rattle.std.proofs.lemmas.Bool.Decides.{nat_tests}
use Rattle.quartz_tree.specs.Tree.{Tree as Expr}
use Rattle.quartz_expr.specs.Values.{Values, is_zero}
use Rattle.quartz_expr.specs.Vars.{Vars}
use Rattle.quartz_expr.specs.Value.{value}
use Rattle.quartz_expr.specs.Faults.{faults}
use Rattle.quartz_expr.specs.Terms.{Term, suspend, is_fresh}
use Rattle.quartz_expr.specs.React.{unless_ended, after_faults, formed, React, of_spared_suspend}
use Rattle.quartz_expr.specs.Tick.{tick}
use Rattle.statement_cells.specs.Labels.{labels, registers}
use Rattle.statement_cells.specs.Stands.{Marks, Registers, some, at, plain, AtOne}
use Rattle.statement_cells.specs.Walk.{else_takes, Trail, no_marks, union, plus, no_trail, kept_marks, MarksIn, Holds, Live, Idle}
use Rattle.statement_cells.proofs.BoolLemmas.{and_false}
use Rattle.statement_cells.proofs.MarkLemmas.{some_free, marks_both, kept_split}
use Rattle.statement_cells.proofs.TrailLemmas.{mark}
use Rattle.statement_cells.proofs.ReactLemmas.{before_end, held_fresh}
use Rattle.statement_cells.proofs.PlainLemmas.{plain_fresh, plain_tick_fresh}
use Rattle.statement_cells.proofs.RunLemmas.{raises, InRange, bounds, ranges, second_true}
use Rattle.quartz_expr.proofs.TruthLemmas.{or_right}

-- the wait label alone
abbrev pub waits : (label : ℕ) → Bool → Trail
waits l b = record no_trail { marks = mark l b }

-- ---- the wait label and those of the body

pub some_next : (m : Marks) (l n : ℕ) → some m l (suc n) ≡ (m l || some m (l + 1) n)
unfolding some
some_next m l n = refl

own_label : (l : ℕ) → (l == l) ≡ true
own_label l = grind (arith, nat_tests)

other_label : (l i : ℕ) → (l ≡ i → ⊥) → (l == i) ≡ false
other_label l i h = by_test (l == i) refl
  where
    same : (l == i) ≡ true → l ≡ i
    same e = grind (arith, nat_tests, e)

    by_test : (b : Bool) → (l == i) ≡ b → b ≡ false
    by_test true e = absurd (h (same e))
    by_test false e = refl

pub mark_none : (l : ℕ) → mark l false ≡ no_marks
mark_none l = λ j i. and_false (l == i) j

pub mark_own : (l : ℕ) (b : Bool) → mark l b l ≡ b
mark_own l b = ap (λ x. x && b) (own_label l)

mark_in : (l n : ℕ) (b : Bool) → MarksIn l (suc n) (mark l b)
mark_in l n b = record {
  below = λ i h. ap (λ x. x && b) (other_label l i (λ e. omega (arith, e, h)));
  above = λ i h. ap (λ x. x && b) (other_label l i (λ e. omega (arith, e, h)));
}

pub mark_after : (l n : ℕ) (b : Bool) → some (mark l b) (l + 1) n ≡ false
mark_after l n b = some_free (mark l b) (l + 1) n (λ i p q. ap (λ x. x && b) (other_label l i (λ e. omega (arith, e, p))))

-- a trail of the body, behind the wait label
range_next : (m : Marks) (l n v r : ℕ) (o : Trail) → InRange m (l + 1) n v r o → InRange m l (suc n) v r o
range_next m l n v r o h = (
  record { below = λ i p. h.0.below i (omega (arith, p)); above = λ i p. h.0.above i (omega (arith, p)) },
  h.1,
  h.2,
  λ f. h.3 (or_right (m l) (some m (l + 1) n) (sym (some_next m l n) ∙ f)),
)

pub range_wait : (m : Marks) (l n v r : ℕ) (b : Bool) (o : Trail) → InRange m (l + 1) n v r o → InRange m l (suc n) v r (plus (waits l b) o)
range_wait m l n v r b o h = let g = range_next m l n v r o h in (marks_both l (suc n) (mark l b) o.marks (mark_in l n b) g.0, g.1, g.2, g.3)

-- the wait label stays with those of the body
pub all_stay : (m : Marks) (l n : ℕ) (st : Bool) (o : Marks) → o ≡ kept_marks m st (l + 1) n → union (mark l (m l && st)) o ≡ kept_marks m st l (suc n)
all_stay m l n st o e =
    let f : 1 + n ≡ suc n = omega arith in
    ap₂ union (λ j i. one i j) e ∙ sym (kept_split m st l 1 n) ∙ ap (kept_marks m st l) f
  where
    turned : (x y : Bool) → (x && y) ≡ (y && (x && true))
    turned true true = refl
    turned true false = refl
    turned false true = refl
    turned false false = refl

    at_label : (i : ℕ) (b : Bool) → (l == i) ≡ b → (b && (m l && st)) ≡ (st && (m i && (b || false)))
    at_label i true e = let f : l ≡ i = grind (arith, nat_tests, e) in ap (λ x. m x && st) f ∙ turned (m i) st
    at_label i false e = sym (ap (λ x. st && x) (and_false (m i)) ∙ and_false st)

    one : (i : ℕ) → mark l (m l && st) i ≡ kept_marks m st l 1 i
    one i = at_label i (l == i) refl

-- ---- the body of an immediate suspension

-- what is left of it: all of it behind the wait label
abbrev pub body_at : Vars → Marks → Registers → (l v : ℕ) → Term → Term
body_at vs m k l v t = if m l then t else at vs m k (l + 1) v t

-- labels and the next registers stand for what is held of it
abbrev pub BodyStands : Vars → Marks → (l v : ℕ) → Term → Trail → Term → Type 0
BodyStands vs m l v t o h = some m l (suc (labels t)) ≡ true → (k : Registers) → Holds o.defaults k → body_at vs m k l v t ≡ plain vs h

module _ (vs : Vars) (env : Values) (m : Marks) (now : Registers) where
  pub body_held : (u : Term) (l v : ℕ) (t : Term) (mv st e : Bool) (o : Trail) → is_fresh t ≡ true → (some m l (suc (labels t)) ≡ true → u ≡ body_at vs m now l v t)
      → (h : Live vs env u m (l + 1) v t mv st e o) → BodyStands vs m l v t o h.reaction.held
  body_held u l v t mv st e o fresh same h on k hk = by_wait (m l) refl
    where
      by_wait : (x : Bool) → m l ≡ x → body_at vs m k l v t ≡ plain vs h.reaction.held
      by_wait true x =
          let whole : u ≡ t = same on ∙ ap (λ y. if y then t else at vs m now (l + 1) v t) x in
          ap (λ y. if y then t else at vs m k (l + 1) v t) x
          ∙ sym (ap (plain vs) (held_fresh vs env t h.reaction fresh (subst (λ y. React vs env y h.reaction) whole h.reacts)) ∙ plain_fresh vs t fresh)
      by_wait false x =
          ap (λ y. if y then t else at vs m k (l + 1) v t) x ∙ h.held (second_true (m l) (some m (l + 1) (labels t)) x (sym (some_next m l (labels t)) ∙ on)) k hk

  pub body_ticked : (l v : ℕ) (t : Term) (st e : Bool) (o : Trail) → is_fresh t ≡ true → Idle vs m now (l + 1) v t st e o → BodyStands vs m l v t o (tick vs (body_at vs m now l v t))
  body_ticked l v t st e o fresh h on k hk = by_wait (m l) refl
    where
      by_wait : (x : Bool) → m l ≡ x → body_at vs m k l v t ≡ plain vs (tick vs (body_at vs m now l v t))
      by_wait true x =
          ap (λ y. if y then t else at vs m k (l + 1) v t) x ∙ sym (plain_tick_fresh vs t fresh) ∙ ap (λ y. plain vs (tick vs (if y then t else at vs m now (l + 1) v t))) (sym x)
      by_wait false x =
          ap (λ y. if y then t else at vs m k (l + 1) v t) x ∙ h.held (second_true (m l) (some m (l + 1) (labels t)) x (sym (some_next m l (labels t)) ∙ on)) k hk
          ∙ ap (λ y. plain vs (tick vs (if y then t else at vs m now (l + 1) v t))) (sym x)

  -- the body reacts
  pub awake_in : (u : Term) (l v : ℕ) (t : Term) (weak : Bool) (c : Expr ℕ) (mv st e : Bool) (o : Trail) → is_fresh t ≡ true → (some m l (suc (labels t)) ≡ true → u ≡ body_at vs m now l v t)
      → (mv && st) ≡ false → is_zero (value vs env c) ≡ true → Live vs env u m (l + 1) v t mv st e o
      → Live vs env (suspend weak true u c) m l v (suspend weak true t c) mv st e (plus (raises (faults vs env c)) (plus (waits l (m l && st)) o))
  awake_in u l v t weak c mv st e o fresh same excl z h =
      let fs = faults vs env c in
      let off : o.marks l ≡ false = h.bounded.marks.below l (omega arith) in
      record {
        reaction = after_faults fs (formed (λ x. suspend weak true x c) h.reaction);
        reacts = of_spared_suspend env weak u c h.reaction z h.reacts;
        ends = h.ends;
        acts = h.acts;
        met = h.met;
        faults = λ all. ap (λ x. fs ++ x) (h.faults all);
        stops = λ x y. let g = h.stops x y in (alone x ∙ g.0, g.1);
        goes = λ x y.
            let g = h.goes x y in
            subst (λ n. (some n l (suc (labels t)) ≡ true) × AtOne n l (suspend weak true t c)
            × ((k : Registers) → Holds (else_takes o.takes o.defaults) k → at vs n k l v (suspend weak true t c) ≡ plain vs (unless_ended h.reaction.ended (suspend weak true h.reaction.residual c)))) (sym (alone x)) (
              some_next o.marks l (labels t) ∙ ap₂ (λ a b. a || b) off g.0,
              (ap (λ a. a && some o.marks (l + 1) (labels t)) off, g.1),
              λ k hk. ap₂ (λ (a : Bool) b. suspend weak true (if a then t else b) c) off (g.2 k hk) ∙ sym (ap (plain vs) (before_end h.reaction.ended (suspend weak true h.reaction.residual c) (h.ends ∙ y))),
            );
        stays = λ x. let g = h.stays x in (all_stay m l (labels t) st o.marks g.0, g.1);
        held = λ on k hk. ap (λ x. suspend weak true x c) (body_held u l v t mv st e o fresh same h on k hk);
        bounded = bounds vs m l v (suspend weak true t c) (plus (raises fs) (plus (waits l (m l && st)) o)) (range_wait m l (labels t) v (registers vs t) (m l && st) o (ranges vs m (l + 1) v t o h.bounded));
      }
    where
      held_back : (x y : Bool) → (x && y) ≡ false → x ≡ true → y ≡ false
      held_back true y p q = p
      held_back false y p q = absurd (cc)

      alone : mv ≡ true → union (mark l (m l && st)) o.marks ≡ o.marks
      alone x = ap (λ y. union (mark l y) o.marks) (ap (λ y. m l && y) (held_back mv st excl x) ∙ and_false (m l)) ∙ ap (λ n. union n o.marks) (mark_none l)

  -- the body doesn't react
  pub idle_wait : (l v : ℕ) (t : Term) (weak : Bool) (c : Expr ℕ) (st e : Bool) (o : Trail) → is_fresh t ≡ true → Idle vs m now (l + 1) v t st e o
      → Idle vs m now l v (suspend weak true t c) st e (plus (waits l (m l && st)) o)
  idle_wait l v t weak c st e o fresh h = record {
    ends = h.ends;
    acts = h.acts;
    faults = h.faults;
    met = h.met;
    marks = all_stay m l (labels t) st o.marks h.marks;
    takes = h.takes;
    held = λ on k hk. ap (λ x. suspend weak true x c) (body_ticked l v t st e o fresh h on k hk);
    bounded = bounds vs m l v (suspend weak true t c) (plus (waits l (m l && st)) o) (range_wait m l (labels t) v (registers vs t) (m l && st) o (ranges vs m (l + 1) v t o h.bounded));
  }
