-- Parallels start and go on, part by part.
use Rattle.std.proofs.Common.{◌≡◌, ℕ, zero, suc, ◌+◌, Bool, true, false, ◌&&◌, ◌||◌, not, List, [], ◌∷◌, ◌++◌, refl, sym, ap, ap₂, ◌∙◌, subst, subst₂}
use Rattle.std.specs.Prelude.{if◌then◌else◌}
use Rattle.quartz_expr.specs.Values.{Values}
use Rattle.quartz_expr.specs.Vars.{Vars}
use Rattle.quartz_expr.specs.Terms.{Term, nothing, par, Terms, none, part}
use Rattle.quartz_expr.specs.Tick.{tick}
use Rattle.statement_cells.specs.Labels.{labels, labels_all, registers, registers_all}
use Rattle.statement_cells.specs.Stands.{Marks, Registers, some, at, at_each, plain}
use Rattle.statement_cells.specs.Walk.{else_takes, Trail, no_marks, union, plus, no_trail, Holds, Live, Idle, Runs}
use Rattle.statement_cells.proofs.BoolLemmas.{or_false, or_true}
use Rattle.statement_cells.proofs.MarkLemmas.{some_none, free_left, free_right, holds_first, holds_second, kept_free, kept_split}
use Rattle.statement_cells.proofs.ReactLemmas.{held_fresh}
use Rattle.statement_cells.proofs.RunLemmas.{bounds, ranges, range_two, Enters, Proceeds, idle_free}
use Rattle.statement_cells.proofs.AbortLemmas.{nowhere_on}
use Rattle.statement_cells.proofs.ParLemmas.{free_before, LiveEach, IdleEach, nothing_in, nobody_lives, one_more, all_live, rested, nothing_lives}
use Rattle.quartz_expr.proofs.TruthLemmas.{and_assoc}

-- ---- where all parts end

-- the value and all of these hold, joined from left to right
abbrev pub more_hold : Bool → List Bool → Bool
more_hold e [] = e
more_hold e (r ∷ rs) = more_hold (e && r) rs

-- all of these hold; of none, it is the given value
abbrev pub all_hold : Bool → List Bool → Bool
all_hold e [] = e
all_hold e (r ∷ rs) = more_hold r rs

abbrev pub all_true : List Bool → Bool
all_true [] = true
all_true (r ∷ rs) = r && all_true rs

abbrev pub AllFalse : List Bool → Type 0
AllFalse [] = Unit {0}
AllFalse (r ∷ rs) = (r ≡ false) × AllFalse rs

and_true : (a : Bool) → (a && true) ≡ a
and_true true = refl
and_true false = refl

pub more_is : (e : Bool) (rs : List Bool) → more_hold e rs ≡ (e && all_true rs)
more_is e [] = sym (and_true e)
more_is e (r ∷ rs) = more_is (e && r) rs ∙ and_assoc e r (all_true rs)

all_is : (rs : List Bool) → all_hold true rs ≡ all_true rs
all_is [] = refl
all_is (r ∷ rs) = more_is r rs

none_holds : (rs : List Bool) → AllFalse rs → all_hold false rs ≡ false
none_holds [] h = refl
none_holds (r ∷ rs) h = more_is r rs ∙ ap (λ x. x && all_true rs) h.0

-- without labels a part is left out
abbrev pub skip_if : (labels : ℕ) → (without those : List Bool) → List Bool
skip_if zero m n = m
skip_if (suc _) m n = n

-- for each part with labels: it ended, or it is at rest
abbrev pub ends_of : Marks → (l : ℕ) → Terms → List Bool → List Bool
ends_of m l none rs = []
ends_of m l (part t ts) [] = []
ends_of m l (part t ts) (r ∷ rs) = skip_if (labels t) (ends_of m (l + labels t) ts rs) ((r || not (some m l (labels t))) ∷ ends_of m (l + labels t) ts rs)

-- a part that is left out is at rest
ends_part : (m : Marks) (l n : ℕ) (r : Bool) (rs : List Bool) → all_true (skip_if n rs ((r || not (some m l n)) ∷ rs)) ≡ ((r || not (some m l n)) && all_true rs)
unfolding some
ends_part m l zero true rs = refl
ends_part m l zero false rs = refl
ends_part m l (suc n) r rs = refl

-- ---- start

-- all parts start under `go`
abbrev pub EachEnters : Vars → Values → Registers → (l v : ℕ) → Terms → (go move : Bool) → (ended : List Bool) → Trail → Type 0
EachEnters vs env now l v ss true mv es o = LiveEach vs env ss no_marks l v ss false mv false (all_true es) o
EachEnters vs env now l v ss false mv es o = AllFalse es × (o ≡ no_trail)

module _ (vs : Vars) (env : Values) (now : Registers) where
  pub starts_nobody : (l v : ℕ) (go mv : Bool) → EachEnters vs env now l v none go mv [] no_trail
  starts_nobody l v true mv = nobody_lives vs env no_marks l v false mv false
  starts_nobody l v false mv = (tt, refl)

  -- one part starts beside others
  pub starts_beside : (l v : ℕ) (s : Term) (ss : Terms) (go mv e : Bool) (es : List Bool) (a b : Trail) → Enters vs env now l v s go mv e a → EachEnters vs env now (l + labels s) (v + registers vs s) ss go mv es b
      → EachEnters vs env now l v (part s ss) go mv (e ∷ es) (plus a b)
  starts_beside l v s ss true mv e es a b h i = one_more vs env no_marks s s ss ss l v false mv false e (all_true es) a b h (λ x. absurd (cc)) i
  starts_beside l v s ss false mv e es a b h i = ((h.ends, i.0), ap₂ plus (idle_free vs env no_marks now l v s false e a (some_none l (labels s)) h) i.1)

  -- a parallel starts
  pub starts_par : (l v : ℕ) (ss : Terms) (go mv : Bool) (es : List Bool) (o : Trail) → EachEnters vs env now l v ss go mv es o → Enters vs env now l v (par ss) go mv (all_hold go es) o
  starts_par l v ss true mv es o h =
      subst (λ x. Live vs env (par ss) no_marks l v (par ss) mv false x o) (sym (all_is es)) (all_live vs env no_marks ss ss l v false mv false (all_true es) o (λ on. nowhere_on l (labels_all ss) _ on) h)
  starts_par l v ss false mv es o h =
      subst (λ x. Idle vs no_marks now l v (par ss) false x o) (sym (none_holds es h.0)) (nothing_lives vs env no_marks now l v ss false o (some_none l (labels_all ss)) h.1)

-- ---- depth

-- all parts go on under `res`, each from its labels
abbrev pub EachProceeds : Vars → Values → Marks → Registers → (l v : ℕ) → Terms → (res move stay : Bool) → (ended : List Bool) → Trail → Type 0
EachProceeds vs env m now l v ss true mv st rs o =
    LiveEach vs env (at_each vs m now l v ss) m l v ss true mv st (all_true (ends_of m l ss rs)) o × (some m l (labels_all ss) ≡ false → o ≡ no_trail)
EachProceeds vs env m now l v ss false mv st rs o = IdleEach vs m now l v ss st o

module _ (vs : Vars) (env : Values) (m : Marks) (now : Registers) where
  pub resumes_nobody : (l v : ℕ) (res mv st : Bool) → EachProceeds vs env m now l v none res mv st [] no_trail
  unfolding some
  resumes_nobody l v true mv st = (nobody_lives vs env m l v true mv st, λ f. refl)
  resumes_nobody l v false mv st = record {
    acts = refl;
    faults = refl;
    met = refl;
    marks = sym (kept_free m st l 0 refl);
    takes = refl;
    held = λ k hk. refl;
    bounded = nothing_in m l 0 v 0;
  }

  -- one part that reacts, or is at rest, beside others
  lives_beside : (l v : ℕ) (s : Term) (ss : Terms) (x mv st r eb : Bool) (a b : Trail) → some m l (labels s) ≡ x → Runs vs env (at vs m now l v s) m now l v s (x && true) mv st r a
      → LiveEach vs env (at_each vs m now (l + labels s) (v + registers vs s) ss) m (l + labels s) (v + registers vs s) ss true mv st eb b
      → LiveEach vs env (part (if x then at vs m now l v s else nothing) (at_each vs m now (l + labels s) (v + registers vs s) ss)) m l v (part s ss) true mv st ((r || not x) && eb) (plus a b)
  lives_beside l v s ss true mv st r eb a b x h i =
      subst (λ y. LiveEach vs env (part (at vs m now l v s) (at_each vs m now (l + labels s) (v + registers vs s) ss)) m l v (part s ss) true mv st (y && eb) (plus a b)) (sym (or_false r))
      (one_more vs env m (at vs m now l v s) s _ ss l v true mv st r eb a b h (λ deep k hk. ap (λ y. if y then at vs m k l v s else nothing) x ∙ h.held x k hk) i)
  lives_beside l v s ss false mv st r eb a b x h i =
      let nil : a ≡ no_trail = idle_free vs env m now l v s st r a x h in
      let quiet = rested vs env m l v s mv st x in
      subst₂ (λ y z. LiveEach vs env (part nothing (at_each vs m now (l + labels s) (v + registers vs s) ss)) m l v (part s ss) true mv st (y && eb) (plus z b)) (sym (or_true r)) (sym nil)
      (one_more vs env m nothing s _ ss l v true mv st true eb no_trail b quiet (λ deep k hk. ap (λ y. if y then at vs m k l v s else nothing) x ∙ sym (ap (plain vs) (held_fresh vs env nothing quiet.reaction refl quiet.reacts))) i)

  idle_beside : (l v : ℕ) (s : Term) (ss : Terms) (st r : Bool) (a b : Trail) → Idle vs m now l v s st r a → IdleEach vs m now (l + labels s) (v + registers vs s) ss st b → IdleEach vs m now l v (part s ss) st (plus a b)
  idle_beside l v s ss st r a b h i = record {
    acts = ap₂ (λ x y. x ++ y) h.acts i.acts;
    faults = ap₂ (λ x y. x ++ y) h.faults i.faults;
    met = ap₂ (λ x y. x ++ y) h.met i.met;
    marks = ap₂ union h.marks i.marks ∙ sym (kept_split m st l (labels s) (labels_all ss));
    takes = ap₂ else_takes h.takes i.takes;
    held = λ k hk. ap₂ part (own k (holds_first a.defaults b.defaults k hk) (some m l (labels s)) refl)
        (i.held k (holds_second a.defaults b.defaults k (free_before v (registers vs s) (registers_all vs ss) a.defaults b.defaults h.bounded.defaults i.bounded.2) hk));
    bounded = range_two m l (labels s) (labels_all ss) v (registers vs s) (registers_all vs ss) a b (ranges vs m l v s a h.bounded) i.bounded;
  }
    where
      either : Registers → Bool → Term
      either k x = if x then at vs m k l v s else nothing

      own : (k : Registers) → Holds a.defaults k → (x : Bool) → some m l (labels s) ≡ x → either k (some m l (labels s)) ≡ plain vs (tick vs (either now (some m l (labels s))))
      own k hk true x = ap (either k) x ∙ h.held x k hk ∙ ap (λ y. plain vs (tick vs (either now y))) (sym x)
      own k hk false x = ap (either k) x ∙ ap (λ y. plain vs (tick vs (either now y))) (sym x)

  never_on : (s : Term) (l v : ℕ) (x mv st r : Bool) (a : Trail) → Runs vs env (at vs m now l v s) m now l v s (x && false) mv st r a → Idle vs m now l v s st r a
  never_on s l v true mv st r a h = h
  never_on s l v false mv st r a h = h

  -- one part goes on beside others
  pub resumes_beside : (l v : ℕ) (s : Term) (ss : Terms) (res mv st r : Bool) (rs : List Bool) (a b : Trail) → Proceeds vs env m now l v s res mv st r a → EachProceeds vs env m now (l + labels s) (v + registers vs s) ss res mv st rs b
      → EachProceeds vs env m now l v (part s ss) res mv st (r ∷ rs) (plus a b)
  resumes_beside l v s ss true mv st r rs a b h i = (
    subst (λ x. LiveEach vs env (at_each vs m now l v (part s ss)) m l v (part s ss) true mv st x (plus a b)) (sym (ends_part m l (labels s) r (ends_of m (l + labels s) ss rs)))
        (lives_beside l v s ss (some m l (labels s)) mv st r (all_true (ends_of m (l + labels s) ss rs)) a b refl h i.0),
    λ f. ap₂ plus (own (some m l (labels s)) (free_left m l (labels s) (labels_all ss) f) h) (i.1 (free_right m l (labels s) (labels_all ss) f)),
  )
    where
      own : (x : Bool) → some m l (labels s) ≡ false → Runs vs env (at vs m now l v s) m now l v s (some m l (labels s) && true) mv st r a → a ≡ no_trail
      own x f h = idle_free vs env m now l v s st r a f (subst (λ y. Runs vs env (at vs m now l v s) m now l v s (y && true) mv st r a) f h)
  resumes_beside l v s ss false mv st r rs a b h i = idle_beside l v s ss st r a b (never_on s l v (some m l (labels s)) mv st r a h) i

  resting : (l v : ℕ) (ss : Terms) (st : Bool) (o : Trail) → IdleEach vs m now l v ss st o → Idle vs m now l v (par ss) st false o
  resting l v ss st o h = record {
    ends = refl;
    acts = h.acts;
    faults = h.faults;
    met = h.met;
    marks = h.marks;
    takes = h.takes;
    held = λ on k hk. ap par (h.held k hk);
    bounded = bounds vs m l v (par ss) o h.bounded;
  }

  par_cases : (l v : ℕ) (ss : Terms) (x res mv st : Bool) (rs : List Bool) (o : Trail) → some m l (labels_all ss) ≡ x → EachProceeds vs env m now l v ss res mv st rs o
      → Runs vs env (par (at_each vs m now l v ss)) m now l v (par ss) (x && res) mv st (more_hold (x && res) (ends_of m l ss rs)) o
  par_cases l v ss true true mv st rs o x h =
      subst (λ y. Live vs env (par (at_each vs m now l v ss)) m l v (par ss) mv st y o) (sym (more_is true (ends_of m l ss rs)))
      (all_live vs env m (at_each vs m now l v ss) ss l v true mv st (all_true (ends_of m l ss rs)) o (λ on. refl) h.0)
  par_cases l v ss false true mv st rs o x h =
      subst (λ y. Idle vs m now l v (par ss) st y o) (sym (more_is false (ends_of m l ss rs))) (nothing_lives vs env m now l v ss st o x (h.1 x))
  par_cases l v ss true false mv st rs o x h = subst (λ y. Idle vs m now l v (par ss) st y o) (sym (more_is false (ends_of m l ss rs))) (resting l v ss st o h)
  par_cases l v ss false false mv st rs o x h = subst (λ y. Idle vs m now l v (par ss) st y o) (sym (more_is false (ends_of m l ss rs))) (resting l v ss st o h)

  -- a parallel goes on
  pub resumes_par : (l v : ℕ) (ss : Terms) (res mv st : Bool) (rs : List Bool) (o : Trail) → EachProceeds vs env m now l v ss res mv st rs o
      → Proceeds vs env m now l v (par ss) res mv st (more_hold (some m l (labels_all ss) && res) (ends_of m l ss rs)) o
  resumes_par l v ss res mv st rs o h = par_cases l v ss (some m l (labels_all ss)) res mv st rs o refl h
