-- Runs of parallels.
use Rattle.std.proofs.Common.{◌≡◌, ℕ, ◌+◌, ◌≤◌, ◌<◌, ℤ, Bool, true, false, ◌&&◌, ◌||◌, nat_lt, [], ◌++◌, Option, Some, None, refl, sym, ap, ap₂, ◌∙◌, subst, arith}
use Rattle.std.specs.Prelude.{if◌then◌else◌}
use Rattle.std.proofs.lemmas.Bool.Decides.{nat_tests}
use Rattle.quartz_expr.specs.Values.{Values}
use Rattle.quartz_expr.specs.Vars.{Vars}
use Rattle.quartz_expr.specs.Terms.{Term, nothing, par, Terms, none, part}
use Rattle.quartz_expr.specs.React.{Reactions, ends, beside, together, ReactEach, AllResolved, of_nothing, of_par, of_nobody, of_beside}
use Rattle.quartz_expr.specs.Tick.{tick_all}
use Rattle.statement_cells.specs.Labels.{labels, labels_all, registers, registers_all}
use Rattle.statement_cells.specs.Stands.{Marks, Registers, some, at, at_each, plain, plain_all, AtOne, AtOneEach}
use Rattle.statement_cells.specs.Walk.{Takes, no_takes, or_else, else_takes, Trail, no_marks, union, plus, no_trail, kept_marks, TakesIn, Holds, Live, Idle}
use Rattle.statement_cells.proofs.BoolLemmas.{or_false, or_true}
use Rattle.statement_cells.proofs.MarkLemmas.{some_split, some_none, at_one_free, marks_none, takes_none, holds_first, holds_second, kept_free, kept_split, Agree, some_agree, at_agree, at_each_agree, at_one_agree, at_one_each_agree}
use Rattle.statement_cells.proofs.ReactLemmas.{leaves, before_end}
use Rattle.statement_cells.proofs.RunLemmas.{resolved_left, resolved_right, InRange, bounds, ranges, range_two}
use Rattle.quartz_expr.proofs.TruthLemmas.{and_parts}

-- ---- registers of two ranges

-- where the first of two ranges has a value the second has none, and the other way round
pub free_behind : (v r q : ℕ) (f g : Takes) → TakesIn v r f → TakesIn (v + r) q g → (i : ℕ) (z : ℤ) → f i ≡ Some z → g i ≡ None
free_behind v r q f g a b i z e = by_place (nat_lt i (v + r)) refl
  where
    less : nat_lt i (v + r) ≡ true → i < v + r
    less h = grind (arith, nat_tests, h)

    more : nat_lt i (v + r) ≡ false → v + r ≤ i
    more h = grind (arith, nat_tests, h)

    by_place : (x : Bool) → nat_lt i (v + r) ≡ x → g i ≡ None
    by_place true h = b.below i (less h)
    by_place false h = let n = a.above i (more h) in absurd (cc)

pub free_before : (v r q : ℕ) (f g : Takes) → TakesIn v r f → TakesIn (v + r) q g → (i : ℕ) (z : ℤ) → g i ≡ Some z → f i ≡ None
free_before v r q f g a b i z e = by_place (nat_lt i (v + r)) refl
  where
    less : nat_lt i (v + r) ≡ true → i < v + r
    less h = grind (arith, nat_tests, h)

    more : nat_lt i (v + r) ≡ false → v + r ≤ i
    more h = grind (arith, nat_tests, h)

    by_place : (x : Bool) → nat_lt i (v + r) ≡ x → f i ≡ None
    by_place true h = let n = b.below i (less h) in absurd (cc)
    by_place false h = a.above i (more h)

-- registers that hold what two parts take hold what each of them takes
holds_left : (v r q : ℕ) (f d g e : Takes) (k : Registers) → TakesIn v r f → TakesIn v r d → TakesIn (v + r) q g → TakesIn (v + r) q e
    → Holds (else_takes (else_takes f g) (else_takes d e)) k → Holds (else_takes f d) k
holds_left v r q f d g e k inf ind ing ine h i z eq = h i z (by_first (f i) refl eq)
  where
    by_first : (x : Option ℤ) → f i ≡ x → or_else (f i) (d i) ≡ Some z → or_else (or_else (f i) (g i)) (or_else (d i) (e i)) ≡ Some z
    by_first (Some y) p w = ap (λ o. or_else (or_else o (g i)) (or_else (d i) (e i))) p ∙ sym (ap (λ o. or_else o (d i)) p) ∙ w
    by_first None p w =
        let own : d i ≡ Some z = sym (ap (λ o. or_else o (d i)) p) ∙ w in
        ap (λ o. or_else (or_else o (g i)) (or_else (d i) (e i))) p
        ∙ ap (λ o. or_else o (or_else (d i) (e i))) (free_behind v r q d g ind ing i z own) ∙ ap (λ o. or_else o (e i)) own

holds_right : (v r q : ℕ) (f d g e : Takes) (k : Registers) → TakesIn v r f → TakesIn v r d → TakesIn (v + r) q g → TakesIn (v + r) q e
    → Holds (else_takes (else_takes f g) (else_takes d e)) k → Holds (else_takes g e) k
holds_right v r q f d g e k inf ind ing ine h i z eq = h i z (by_first (g i) refl eq)
  where
    by_first : (x : Option ℤ) → g i ≡ x → or_else (g i) (e i) ≡ Some z → or_else (or_else (f i) (g i)) (or_else (d i) (e i)) ≡ Some z
    by_first (Some y) p w =
        ap (λ o. or_else (or_else o (g i)) (or_else (d i) (e i))) (free_before v r q f g inf ing i y p)
        ∙ ap (λ o. or_else o (or_else (d i) (e i))) p ∙ sym (ap (λ o. or_else o (e i)) p) ∙ w
    by_first None p w =
        let own : e i ≡ Some z = sym (ap (λ o. or_else o (e i)) p) ∙ w in
        ap₂ (λ o y. or_else (or_else o y) (or_else (d i) (e i))) (free_before v r q f e inf ine i z own) p
        ∙ ap (λ o. or_else o (e i)) (free_before v r q d e ind ine i z own) ∙ own

-- ---- parts side by side

-- all parts react; where `deep`, labels and registers stand for what is held of them
pub record LiveEach (vs : Vars) (env : Values) (ts : Terms) (m : Marks) (l v : ℕ) (ss : Terms) (deep move stay ended : Bool) (o : Trail) : Type 0 where
  pub parts : Reactions
  pub reacts : ReactEach vs env ts parts
  pub ends : parts.ended ≡ ended
  pub acts : parts.acts ≡ o.acts
  pub met : parts.met ≡ o.met
  pub faults : AllResolved o.met → parts.faults ≡ o.faults
  pub stops : move ≡ true → ended ≡ true → (o.marks ≡ no_marks) × (o.takes ≡ no_takes)
  pub alive : move ≡ true → ended ≡ false → some o.marks l (labels_all ss) ≡ true
  pub goes : move ≡ true → AtOneEach o.marks l ss × ((k : Registers) → Holds (else_takes o.takes o.defaults) k → at_each vs o.marks k l v ss ≡ plain_all vs parts.residuals)
  pub stays : move ≡ false → (o.marks ≡ kept_marks m stay l (labels_all ss)) × (o.takes ≡ no_takes)
  pub held : deep ≡ true → (k : Registers) → Holds o.defaults k → at_each vs m k l v ss ≡ plain_all vs parts.helds
  pub bounded : InRange m l (labels_all ss) v (registers_all vs ss) o

-- no part reacts
pub record IdleEach (vs : Vars) (m : Marks) (now : Registers) (l v : ℕ) (ss : Terms) (stay : Bool) (o : Trail) : Type 0 where
  pub acts : o.acts ≡ []
  pub faults : o.faults ≡ []
  pub met : o.met ≡ []
  pub marks : o.marks ≡ kept_marks m stay l (labels_all ss)
  pub takes : o.takes ≡ no_takes
  pub held : (k : Registers) → Holds o.defaults k → at_each vs m k l v ss ≡ plain_all vs (tick_all vs (at_each vs m now l v ss))
  pub bounded : InRange m l (labels_all ss) v (registers_all vs ss) o

pub nothing_in : (m : Marks) (l n v r : ℕ) → InRange m l n v r no_trail
nothing_in m l n v r = (marks_none l n, takes_none v r, takes_none v r, λ f. refl)

module _ (vs : Vars) (env : Values) (m : Marks) where
  pub nobody_lives : (l v : ℕ) (deep mv st : Bool) → LiveEach vs env none m l v none deep mv st true no_trail
  unfolding some
  nobody_lives l v deep mv st = record {
    parts = _;
    reacts = of_nobody env;
    ends = refl;
    acts = refl;
    met = refl;
    faults = λ all. refl;
    stops = λ x y. (refl, refl);
    alive = λ x y. absurd (cc);
    goes = λ x. (tt, λ k hk. refl);
    stays = λ x. (sym (kept_free m st l 0 refl), refl);
    held = λ x k hk. refl;
    bounded = nothing_in m l 0 v 0;
  }

  -- one more part
  pub one_more : (t s : Term) (ts ss : Terms) (l v : ℕ) (deep mv st ea eb : Bool) (a b : Trail) (h : Live vs env t m l v s mv st ea a)
      → (deep ≡ true → (k : Registers) → Holds a.defaults k → (if some m l (labels s) then at vs m k l v s else nothing) ≡ plain vs h.reaction.held)
      → LiveEach vs env ts m (l + labels s) (v + registers vs s) ss deep mv st eb b → LiveEach vs env (part t ts) m l v (part s ss) deep mv st (ea && eb) (plus a b)
  one_more t s ts ss l v deep mv st ea eb a b h own_held i = record {
    parts = beside h.reaction i.parts;
    reacts = of_beside env t ts h.reaction i.parts h.reacts i.reacts;
    ends = ap₂ (λ x y. x && y) h.ends i.ends;
    acts = ap₂ (λ x y. x ++ y) h.acts i.acts;
    met = ap₂ (λ x y. x ++ y) h.met i.met;
    faults = λ all. ap₂ (λ x y. x ++ y) (h.faults (resolved_left a.met b.met all)) (i.faults (resolved_right a.met b.met all));
    stops = λ x y. let e = and_parts ea eb y in let f = h.stops x e.0 in let g = i.stops x e.1 in (ap₂ union f.0 g.0, ap₂ else_takes f.1 g.1);
    alive = λ x y. some_split (union a.marks b.marks) l (labels s) (labels_all ss) ∙ ap₂ (λ x y. x || y) near far ∙ one_lives ea eb y (λ p. (h.goes x p).0) (λ p. i.alive x p);
    goes = λ x.
        let own = lives ea refl x in
        let others = i.goes x in (
          (at_one_agree s both a.marks l left own.0, at_one_each_agree ss both b.marks (l + labels s) right others.0),
          λ k hk. ap₂ part
              (ap₂ (λ (y : Bool) z. if y then z else nothing) near (at_agree vs k s both a.marks l v left) ∙ own.1 k (holds_left v (registers vs s) (registers_all vs ss) a.takes a.defaults b.takes b.defaults k h.bounded.takes h.bounded.defaults i.bounded.1 i.bounded.2 hk))
              (at_each_agree vs k ss both b.marks (l + labels s) (v + registers vs s) right ∙ others.1 k (holds_right v (registers vs s) (registers_all vs ss) a.takes a.defaults b.takes b.defaults k h.bounded.takes h.bounded.defaults i.bounded.1 i.bounded.2 hk)),
        );
    stays = λ x. let f = h.stays x in let g = i.stays x in (ap₂ union f.0 g.0 ∙ sym (kept_split m st l (labels s) (labels_all ss)), ap₂ else_takes f.1 g.1);
    held = λ x k hk. ap₂ part (own_held x k (holds_first a.defaults b.defaults k hk))
        (i.held x k (holds_second a.defaults b.defaults k (free_before v (registers vs s) (registers_all vs ss) a.defaults b.defaults h.bounded.defaults i.bounded.2) hk));
    bounded = range_two m l (labels s) (labels_all ss) v (registers vs s) (registers_all vs ss) a b (ranges vs m l v s a h.bounded) i.bounded;
  }
    where
      both : Marks
      both = union a.marks b.marks

      left : Agree (union a.marks b.marks) a.marks l (labels s)
      left j p q = ap (λ x. a.marks j || x) (i.bounded.0.below j q) ∙ or_false (a.marks j)

      right : Agree (union a.marks b.marks) b.marks (l + labels s) (labels_all ss)
      right j p q = ap (λ x. x || b.marks j) (h.bounded.marks.above j p)

      near : some (union a.marks b.marks) l (labels s) ≡ some a.marks l (labels s)
      near = some_agree (union a.marks b.marks) a.marks l (labels s) left

      far : some (union a.marks b.marks) (l + labels s) (labels_all ss) ≡ some b.marks (l + labels s) (labels_all ss)
      far = some_agree (union a.marks b.marks) b.marks (l + labels s) (labels_all ss) right

      one_lives : (x y : Bool) → (x && y) ≡ false → (x ≡ false → some a.marks l (labels s) ≡ true) → (y ≡ false → some b.marks (l + labels s) (labels_all ss) ≡ true)
          → (some a.marks l (labels s) || some b.marks (l + labels s) (labels_all ss)) ≡ true
      one_lives true y q f g = ap (λ x. some a.marks l (labels s) || x) (g q) ∙ or_true (some a.marks l (labels s))
      one_lives false y q f g = ap (λ x. x || some b.marks (l + labels s) (labels_all ss)) (f refl)

      lives : (x : Bool) → ea ≡ x → mv ≡ true → AtOne a.marks l s × ((k : Registers) → Holds (else_takes a.takes a.defaults) k → (if some a.marks l (labels s) then at vs a.marks k l v s else nothing) ≡ plain vs h.reaction.residual)
      lives true e x =
          let off : some a.marks l (labels s) ≡ false = ap (λ n. some n l (labels s)) (h.stops x e).0 ∙ some_none l (labels s) in (
            at_one_free s a.marks l off,
            λ k hk. ap (λ y. if y then at vs a.marks k l v s else nothing) off ∙ sym (ap (plain vs) (leaves vs env t h.reaction h.reacts (h.ends ∙ e))),
          )
      lives false e x = let g = h.goes x e in (g.1, λ k hk. ap (λ y. if y then at vs a.marks k l v s else nothing) g.0 ∙ g.2 k hk)

  -- a parallel does what its parts do
  pub all_live : (ts ss : Terms) (l v : ℕ) (deep mv st e : Bool) (o : Trail) → (some m l (labels_all ss) ≡ true → deep ≡ true) → LiveEach vs env ts m l v ss deep mv st e o → Live vs env (par ts) m l v (par ss) mv st e o
  all_live ts ss l v deep mv st e o on h = record {
    reaction = together h.parts;
    reacts = of_par env ts h.parts h.reacts;
    ends = h.ends;
    acts = h.acts;
    met = h.met;
    faults = h.faults;
    stops = h.stops;
    goes = λ x y. let g = h.goes x in
        (h.alive x y, g.0, λ k hk. ap par (g.1 k hk) ∙ sym (ap (plain vs) (before_end h.parts.ended (par h.parts.residuals) (h.ends ∙ y))));
    stays = h.stays;
    held = λ x k hk. ap par (h.held (on x) k hk);
    bounded = bounds vs m l v (par ss) o h.bounded;
  }

  -- a part without a label that is 1 is Nothing
  pub rested : (l v : ℕ) (s : Term) (mv st : Bool) → some m l (labels s) ≡ false → Live vs env nothing m l v s mv st true no_trail
  rested l v s mv st off = record {
    reaction = ends [] [] nothing;
    reacts = of_nothing env;
    ends = refl;
    acts = refl;
    met = refl;
    faults = λ all. refl;
    stops = λ x y. (refl, refl);
    goes = λ x y. absurd (cc);
    stays = λ x. (sym (kept_free m st l (labels s) off), refl);
    held = λ on. absurd (cc);
    bounded = bounds vs m l v s no_trail (nothing_in m l (labels s) v (registers vs s));
  }

  -- no part of a parallel reacts
  pub nothing_lives : (now : Registers) (l v : ℕ) (ss : Terms) (st : Bool) (o : Trail) → some m l (labels_all ss) ≡ false → o ≡ no_trail → Idle vs m now l v (par ss) st false o
  nothing_lives now l v ss st o off nil = subst (Idle vs m now l v (par ss) st false) (sym nil) record {
    ends = refl;
    acts = refl;
    faults = refl;
    met = refl;
    marks = sym (kept_free m st l (labels_all ss) off);
    takes = refl;
    held = λ on. absurd (cc);
    bounded = bounds vs m l v (par ss) no_trail (nothing_in m l (labels_all ss) v (registers_all vs ss));
  }
