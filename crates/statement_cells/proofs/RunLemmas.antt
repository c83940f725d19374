-- Runs told in other words, ranges of trails, and runs of choices.
use Rattle.std.proofs.Common.{◌≡◌, ℕ, ◌+◌, Bool, true, false, ◌&&◌, ◌||◌, not, List, [], ◌∷◌, ◌++◌, refl, sym, ap, ap₂, ◌∙◌, subst}
use Rattle.std.specs.Prelude.{if◌then◌else◌}
use Rattle.quartz_tree.specs.declared.fault.Fault.{Fault}
use Rattle.quartz_tree.specs.Tree.{Tree as Expr}
use Rattle.quartz_expr.specs.Values.{Values, is_zero}
use Rattle.quartz_expr.specs.Vars.{Vars}
use Rattle.quartz_expr.specs.Value.{value}
use Rattle.quartz_expr.specs.Faults.{faults}
use Rattle.quartz_expr.specs.Terms.{Term, choose}
use Rattle.quartz_expr.specs.React.{Met, Reaction, after_faults, React, AllResolved, of_yes, of_no}
use Rattle.quartz_expr.specs.Tick.{tick}
use Rattle.statement_cells.specs.Labels.{labels, registers}
use Rattle.statement_cells.specs.Stands.{Marks, Registers, some, at, plain, AtOne}
use Rattle.statement_cells.specs.Walk.{Takes, no_takes, else_takes, Trail, no_marks, union, plus, no_trail, kept_marks, MarksIn, TakesIn, Holds, Bounded, Live, Idle, Runs}
use Rattle.statement_cells.proofs.BoolLemmas.{and_false, or_false, or_true}
use Rattle.statement_cells.proofs.MarkLemmas.{some_split, some_none, some_after, some_before, free_left, free_right, at_one_free, marks_left, marks_right, marks_both, takes_left, takes_right, takes_both, holds_first, union_none, else_none, kept_free, kept_split}
use Rattle.statement_cells.proofs.TrailLemmas.{plus_none}

-- ---- trails

-- faults alone
abbrev pub raises : List Fault → Trail
raises fs = record no_trail { faults = fs }

-- the faults of what is evaluated
abbrev pub faults_if : Bool → List Fault → List Fault
faults_if true fs = fs
faults_if false fs = []

-- each part of what is resolved is resolved
pub resolved_left : (a b : List Met) → AllResolved (a ++ b) → AllResolved a
resolved_left [] b h = tt
resolved_left (x ∷ a) b h = (h.0, resolved_left a b h.1)

pub resolved_right : (a b : List Met) → AllResolved (a ++ b) → AllResolved b
resolved_right [] b h = h
resolved_right (x ∷ a) b h = resolved_right a b h.1

-- where the first took nothing, and the second has no defaults, registers hold what the second takes
pub holds_later : (f g d e : Takes) (k : Registers) → f ≡ no_takes → e ≡ no_takes → Holds (else_takes (else_takes f g) (else_takes d e)) k → Holds (else_takes g e) k
holds_later f g d e k p q h =
    let own : Holds (else_takes f g) k = holds_first (else_takes f g) (else_takes d e) k h in
    let last : Holds g k = subst (λ z. Holds (else_takes z g) k) p own in
    subst (λ z. Holds z k) (sym (ap (else_takes g) q ∙ else_none g)) last

-- ---- ranges

-- the labels and registers of a range, and no defaults where no label of it is 1
abbrev pub InRange : Marks → (l n v r : ℕ) → Trail → Type 0
InRange m l n v r o = MarksIn l n o.marks × TakesIn v r o.takes × TakesIn v r o.defaults × (some m l n ≡ false → o.defaults ≡ no_takes)

pub bounds : (vs : Vars) (m : Marks) (l v : ℕ) (s : Term) (o : Trail) → InRange m l (labels s) v (registers vs s) o → Bounded vs m l v s o
bounds vs m l v s o h = record { marks = h.0; takes = h.1; defaults = h.2; rests = h.3 }

pub ranges : (vs : Vars) (m : Marks) (l v : ℕ) (s : Term) (o : Trail) → Bounded vs m l v s o → InRange m l (labels s) v (registers vs s) o
ranges vs m l v s o h = (h.marks, h.takes, h.defaults, h.rests)

-- a trail in the first of two ranges, and in the second
pub range_left : (m : Marks) (l a b v r q : ℕ) (o : Trail) → InRange m l a v r o → InRange m l (a + b) v (r + q) o
range_left m l a b v r q o h = (marks_left l a b o.marks h.0, takes_left v r q o.takes h.1, takes_left v r q o.defaults h.2, λ f. h.3 (free_left m l a b f))

pub range_right : (m : Marks) (l a b v r q : ℕ) (o : Trail) → InRange m (l + a) b (v + r) q o → InRange m l (a + b) v (r + q) o
range_right m l a b v r q o h = (marks_right l a b o.marks h.0, takes_right v r q o.takes h.1, takes_right v r q o.defaults h.2, λ f. h.3 (free_right m l a b f))

-- two trails in one range
pub range_both : (m : Marks) (l n v r : ℕ) (x y : Trail) → InRange m l n v r x → InRange m l n v r y → InRange m l n v r (plus x y)
range_both m l n v r x y g h =
    (marks_both l n x.marks y.marks g.0 h.0, takes_both v r x.takes y.takes g.1 h.1, takes_both v r x.defaults y.defaults g.2 h.2, λ f. ap₂ else_takes (g.3 f) (h.3 f))

-- one trail in each of two ranges
pub range_two : (m : Marks) (l a b v r q : ℕ) (x y : Trail) → InRange m l a v r x → InRange m (l + a) b (v + r) q y → InRange m l (a + b) v (r + q) (plus x y)
range_two m l a b v r q x y g h = range_both m l (a + b) v (r + q) x y (range_left m l a b v r q x g) (range_right m l a b v r q y h)

-- ---- what runs say of a statement

-- it starts, under `go`
abbrev pub Enters : Vars → Values → Registers → (l v : ℕ) → Term → (go move ended : Bool) → Trail → Type 0
Enters vs env now l v s go move ended o = Runs vs env s no_marks now l v s go move false ended o

-- it goes on from its labels, under `res`
abbrev pub Proceeds : Vars → Values → Marks → Registers → (l v : ℕ) → Term → (res move stay ended : Bool) → Trail → Type 0
Proceeds vs env m now l v s res move stay ended o = Runs vs env (at vs m now l v s) m now l v s (some m l (labels s) && res) move stay ended o

pub second_true : (a b : Bool) → a ≡ false → (a || b) ≡ true → b ≡ true
second_true true b e h = absurd (cc)
second_true false b e h = h

pub first_true : (a b : Bool) → b ≡ false → (a || b) ≡ true → a ≡ true
first_true true b e h = refl
first_true false b e h = absurd (cc)

module _ (vs : Vars) (env : Values) (m : Marks) where
  -- the same run, told in other words
  pub told : (t : Term) (l v : ℕ) (s : Term) (mv st e e' : Bool) (o o' : Trail) → e ≡ e' → o ≡ o' → Live vs env t m l v s mv st e o → Live vs env t m l v s mv st e' o'
  told t l v s mv st e e' o o' f g h = subst (λ x. Live vs env t m l v s mv st x o') f (subst (Live vs env t m l v s mv st e) g h)

  -- another term that does the same, behind some faults; what it holds may differ where no label is 1
  pub reworded : (t u : Term) (l v : ℕ) (s : Term) (mv st e : Bool) (o : Trail) (fs : List Fault) (form : Term → Term) → (some m l (labels s) ≡ true → (x : Term) → form x ≡ x)
      → ((r : Reaction) → React vs env t r → React vs env u (after_faults fs (record r { held = form r.held })))
      → Live vs env t m l v s mv st e o → Live vs env u m l v s mv st e (plus (raises fs) o)
  reworded t u l v s mv st e o fs form same f h = record {
    reaction = after_faults fs (record (h.reaction) { held = form h.reaction.held });
    reacts = f h.reaction h.reacts;
    ends = h.ends;
    acts = h.acts;
    met = h.met;
    faults = λ a. ap (λ x. fs ++ x) (h.faults a);
    stops = h.stops;
    goes = h.goes;
    stays = h.stays;
    held = λ on k hk. h.held on k hk ∙ ap (plain vs) (sym (same on h.reaction.held));
    bounded = bounds vs m l v s (plus (raises fs) o) (ranges vs m l v s o h.bounded);
  }

  -- where none of its labels is 1, a statement that doesn't react adds nothing
  pub idle_free : (now : Registers) (l v : ℕ) (s : Term) (st e : Bool) (o : Trail) → some m l (labels s) ≡ false → Idle vs m now l v s st e o → o ≡ no_trail
  idle_free now l v s st e o f h = λ i. record {
    acts = h.acts i;
    faults = h.faults i;
    met = h.met i;
    marks = (h.marks ∙ kept_free m st l (labels s) f) i;
    takes = h.takes i;
    defaults = h.bounded.rests f i;
  }

  -- one of two that run
  pub first_only : (t : Term) (l v : ℕ) (s : Term) (mv st ea eb : Bool) (a b : Trail) → eb ≡ false → b ≡ no_trail → Live vs env t m l v s mv st ea a → Live vs env t m l v s mv st (ea || eb) (plus a b)
  first_only t l v s mv st ea eb a b f g h = told t l v s mv st ea (ea || eb) a (plus a b) (sym (ap (λ x. ea || x) f ∙ or_false ea)) (sym (ap (plus a) g ∙ plus_none a)) h

  pub second_only : (t : Term) (l v : ℕ) (s : Term) (mv st ea eb : Bool) (a b : Trail) → ea ≡ false → a ≡ no_trail → Live vs env t m l v s mv st eb b → Live vs env t m l v s mv st (ea || eb) (plus a b)
  second_only t l v s mv st ea eb a b f g h = told t l v s mv st eb (ea || eb) b (plus a b) (sym (ap (λ x. x || eb) f)) (sym (ap (λ x. plus x b) g)) h

  -- what starts where none of its labels is 1
  pub begun : (t : Term) (l v : ℕ) (s : Term) (mv st e : Bool) (o : Trail) → some m l (labels s) ≡ false → Live vs env t no_marks l v s mv false e o → Live vs env t m l v s mv st e o
  begun t l v s mv st e o f h = record {
    reaction = h.reaction;
    reacts = h.reacts;
    ends = h.ends;
    acts = h.acts;
    met = h.met;
    faults = h.faults;
    stops = h.stops;
    goes = h.goes;
    stays = λ x. let g = h.stays x in (g.0 ∙ sym (kept_free m st l (labels s) f), g.1);
    held = λ on. absurd (cc);
    bounded = record { marks = h.bounded.marks; takes = h.bounded.takes; defaults = h.bounded.defaults; rests = λ x. h.bounded.rests (some_none l (labels s)) };
  }

  -- ---- choices

  -- one branch of a choice reacts
  pub in_first : (t : Term) (l v : ℕ) (c : Expr ℕ) (a b : Term) (mv st e : Bool) (o : Trail) → some m (l + labels a) (labels b) ≡ false → Live vs env t m l v a mv st e o
      → Live vs env t m l v (choose c a b) mv st e o
  in_first t l v c a b mv st e o off h =
      let n = o.marks in
      let free = some_after n l (labels a) (labels b) h.bounded.marks in
      record {
        reaction = h.reaction;
        reacts = h.reacts;
        ends = h.ends;
        acts = h.acts;
        met = h.met;
        faults = h.faults;
        stops = h.stops;
        goes = λ x y. let g = h.goes x y in (
          some_split n l (labels a) (labels b) ∙ ap (λ x. x || some n (l + labels a) (labels b)) g.0,
          (ap (λ x. some n l (labels a) && x) free ∙ and_false (some n l (labels a)), g.1, at_one_free b n (l + labels a) free),
          λ k hk. ap (λ x. if x then at vs n k l v a else at vs n k (l + labels a) (v + registers vs a) b) g.0 ∙ g.2 k hk,
        );
        stays = λ x. let g = h.stays x in
            (g.0 ∙ sym (kept_split m st l (labels a) (labels b) ∙ ap (union (kept_marks m st l (labels a))) (kept_free m st (l + labels a) (labels b) off) ∙ union_none (kept_marks m st l (labels a))), g.1);
        held = λ on k hk.
            let own : some m l (labels a) ≡ true = first_true (some m l (labels a)) (some m (l + labels a) (labels b)) off (sym (some_split m l (labels a) (labels b)) ∙ on) in
            ap (λ x. if x then at vs m k l v a else at vs m k (l + labels a) (v + registers vs a) b) own ∙ h.held own k hk;
        bounded = bounds vs m l v (choose c a b) o (range_left m l (labels a) (labels b) v (registers vs a) (registers vs b) o (ranges vs m l v a o h.bounded));
      }

  pub in_second : (t : Term) (l v : ℕ) (c : Expr ℕ) (a b : Term) (mv st e : Bool) (o : Trail) → some m l (labels a) ≡ false → Live vs env t m (l + labels a) (v + registers vs a) b mv st e o
      → Live vs env t m l v (choose c a b) mv st e o
  in_second t l v c a b mv st e o off h =
      let n = o.marks in
      let free = some_before n l (labels a) (labels b) h.bounded.marks in
      record {
        reaction = h.reaction;
        reacts = h.reacts;
        ends = h.ends;
        acts = h.acts;
        met = h.met;
        faults = h.faults;
        stops = h.stops;
        goes = λ x y. let g = h.goes x y in (
          some_split n l (labels a) (labels b) ∙ ap (λ x. some n l (labels a) || x) g.0 ∙ or_true (some n l (labels a)),
          (ap (λ x. x && some n (l + labels a) (labels b)) free, at_one_free a n l free, g.1),
          λ k hk. ap (λ x. if x then at vs n k l v a else at vs n k (l + labels a) (v + registers vs a) b) free ∙ g.2 k hk,
        );
        stays = λ x. let g = h.stays x in
            (g.0 ∙ sym (kept_split m st l (labels a) (labels b) ∙ ap (λ x. union x (kept_marks m st (l + labels a) (labels b))) (kept_free m st l (labels a) off)), g.1);
        held = λ on k hk.
            let own : some m (l + labels a) (labels b) ≡ true = second_true (some m l (labels a)) (some m (l + labels a) (labels b)) off (sym (some_split m l (labels a) (labels b)) ∙ on) in
            ap (λ x. if x then at vs m k l v a else at vs m k (l + labels a) (v + registers vs a) b) off ∙ h.held own k hk;
        bounded = bounds vs m l v (choose c a b) o (range_right m l (labels a) (labels b) v (registers vs a) (registers vs b) o (ranges vs m (l + labels a) (v + registers vs a) b o h.bounded));
      }

  -- neither branch of a choice reacts
  pub idle_choose : (now : Registers) (l v : ℕ) (c : Expr ℕ) (a b : Term) (st ea eb : Bool) (oa ob : Trail) → Idle vs m now l v a st ea oa → Idle vs m now (l + labels a) (v + registers vs a) b st eb ob
      → Idle vs m now l v (choose c a b) st (ea || eb) (plus oa ob)
  idle_choose now l v c a b st ea eb oa ob g h = record {
    ends = ap₂ (λ x y. x || y) g.ends h.ends;
    acts = ap₂ (λ x y. x ++ y) g.acts h.acts;
    faults = ap₂ (λ x y. x ++ y) g.faults h.faults;
    met = ap₂ (λ x y. x ++ y) g.met h.met;
    marks = ap₂ union g.marks h.marks ∙ sym (kept_split m st l (labels a) (labels b));
    takes = ap₂ else_takes g.takes h.takes;
    held = λ on k hk. by_first (some m l (labels a)) refl (sym (some_split m l (labels a) (labels b)) ∙ on) k hk;
    bounded = bounds vs m l v (choose c a b) (plus oa ob)
        (range_two m l (labels a) (labels b) v (registers vs a) (registers vs b) oa ob (ranges vs m l v a oa g.bounded) (ranges vs m (l + labels a) (v + registers vs a) b ob h.bounded));
  }
    where
      either : Registers → Bool → Term
      either k x = if x then at vs m k l v a else at vs m k (l + labels a) (v + registers vs a) b

      by_first : (x : Bool) → some m l (labels a) ≡ x → (some m l (labels a) || some m (l + labels a) (labels b)) ≡ true → (k : Registers) → Holds (else_takes oa.defaults ob.defaults) k
          → either k (some m l (labels a)) ≡ plain vs (tick vs (either now (some m l (labels a))))
      by_first true x on k hk = ap (either k) x ∙ g.held x k (holds_first oa.defaults ob.defaults k hk) ∙ ap (λ y. plain vs (tick vs (either now y))) (sym x)
      by_first false x on k hk =
          ap (either k) x
          ∙ h.held (second_true (some m l (labels a)) (some m (l + labels a) (labels b)) x on) k (subst (λ z. Holds (else_takes z ob.defaults) k) (g.bounded.rests x) hk)
          ∙ ap (λ y. plain vs (tick vs (either now y))) (sym x)

module _ (vs : Vars) (env : Values) (now : Registers) where
  -- a choice starts
  pub starts_choose : (c : Expr ℕ) (a b : Term) (l v : ℕ) (go k mv ea eb : Bool) (oa ob : Trail) → is_zero (value vs env c) ≡ not k
      → Enters vs env now l v a (go && k) mv ea oa → Enters vs env now (l + labels a) (v + registers vs a) b (go && not k) mv eb ob
      → Enters vs env now l v (choose c a b) go mv (ea || eb) (plus (raises (faults_if go (faults vs env c))) (plus oa ob))
  starts_choose c a b l v true true mv ea eb oa ob z h i =
      reworded vs env no_marks a (choose c a b) l v (choose c a b) mv false (ea || eb) (plus oa ob) (faults vs env c) (λ x. choose c a b)
      (λ on. let off : some no_marks l (labels a + labels b) ≡ false = some_none l (labels a + labels b) in absurd (cc)) (λ r q. of_yes env c a b r z q)
      (first_only vs env no_marks a l v (choose c a b) mv false ea eb oa ob i.ends (idle_free vs env no_marks now _ _ b false eb ob (some_none (l + labels a) (labels b)) i)
      (in_first vs env no_marks a l v c a b mv false ea oa (some_none (l + labels a) (labels b)) h))
  starts_choose c a b l v true false mv ea eb oa ob z h i =
      reworded vs env no_marks b (choose c a b) l v (choose c a b) mv false (ea || eb) (plus oa ob) (faults vs env c) (λ x. choose c a b)
      (λ on. let off : some no_marks l (labels a + labels b) ≡ false = some_none l (labels a + labels b) in absurd (cc)) (λ r q. of_no env c a b r z q)
      (second_only vs env no_marks b l v (choose c a b) mv false ea eb oa ob h.ends (idle_free vs env no_marks now l v a false ea oa (some_none l (labels a)) h)
      (in_second vs env no_marks b l v c a b mv false eb ob (some_none l (labels a)) i))
  starts_choose c a b l v false k mv ea eb oa ob z h i = idle_choose vs env no_marks now l v c a b false ea eb oa ob h i

module _ (vs : Vars) (env : Values) (m : Marks) (now : Registers) where
  choose_goes_on : (c : Expr ℕ) (a b : Term) (l v : ℕ) (sa sb res mv st ea eb : Bool) (oa ob : Trail) → some m l (labels a) ≡ sa → some m (l + labels a) (labels b) ≡ sb → (sa && sb) ≡ false
      → Runs vs env (at vs m now l v a) m now l v a (sa && res) mv st ea oa
      → Runs vs env (at vs m now (l + labels a) (v + registers vs a) b) m now (l + labels a) (v + registers vs a) b (sb && res) mv st eb ob
      → Runs vs env (if sa then at vs m now l v a else at vs m now (l + labels a) (v + registers vs a) b) m now l v (choose c a b) ((sa || sb) && res) mv st (ea || eb) (plus oa ob)
  choose_goes_on c a b l v true true res mv st ea eb oa ob x y e h i = absurd (cc)
  choose_goes_on c a b l v true false true mv st ea eb oa ob x y e h i =
      first_only vs env m _ l v (choose c a b) mv st ea eb oa ob i.ends (idle_free vs env m now _ _ b st eb ob y i) (in_first vs env m _ l v c a b mv st ea oa y h)
  choose_goes_on c a b l v true false false mv st ea eb oa ob x y e h i = idle_choose vs env m now l v c a b st ea eb oa ob h i
  choose_goes_on c a b l v false true true mv st ea eb oa ob x y e h i =
      second_only vs env m _ l v (choose c a b) mv st ea eb oa ob h.ends (idle_free vs env m now l v a st ea oa x h) (in_second vs env m _ l v c a b mv st eb ob x i)
  choose_goes_on c a b l v false true false mv st ea eb oa ob x y e h i = idle_choose vs env m now l v c a b st ea eb oa ob h i
  choose_goes_on c a b l v false false res mv st ea eb oa ob x y e h i = idle_choose vs env m now l v c a b st ea eb oa ob h i

  -- a choice goes on, in the branch with a label that is 1
  pub resumes_choose : (c : Expr ℕ) (a b : Term) (l v : ℕ) (res mv st ea eb : Bool) (oa ob : Trail) → AtOne m l (choose c a b)
      → Proceeds vs env m now l v a res mv st ea oa → Proceeds vs env m now (l + labels a) (v + registers vs a) b res mv st eb ob
      → Proceeds vs env m now l v (choose c a b) res mv st (ea || eb) (plus oa ob)
  resumes_choose c a b l v res mv st ea eb oa ob one h i =
      subst (λ x. Runs vs env (at vs m now l v (choose c a b)) m now l v (choose c a b) (x && res) mv st (ea || eb) (plus oa ob)) (sym (some_split m l (labels a) (labels b)))
      (choose_goes_on c a b l v (some m l (labels a)) (some m (l + labels a) (labels b)) res mv st ea eb oa ob refl refl one.0 h i)
