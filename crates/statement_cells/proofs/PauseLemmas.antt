-- Runs of a pause.
use Rattle.std.proofs.Common.{◌≡◌, ℕ, ◌+◌, ◌≤◌, ◌<◌, ◌==◌, Bool, true, false, ◌&&◌, ◌||◌, [], refl, sym, ap, ◌∙◌, arith}
use Rattle.std.proofs.lemmas.Bool.Decides.{nat_tests}
use Rattle.quartz_expr.specs.Values.{Values}
use Rattle.quartz_expr.specs.Vars.{Vars}
use Rattle.quartz_expr.specs.Terms.{nothing, pause}
use Rattle.quartz_expr.specs.React.{ends, of_nothing, of_pause}
use Rattle.statement_cells.specs.Stands.{Marks, Registers, some}
use Rattle.statement_cells.specs.Walk.{no_marks, kept_marks, MarksIn, Live, Idle, Runs}
use Rattle.statement_cells.proofs.BoolLemmas.{and_false}
use Rattle.statement_cells.proofs.MarkLemmas.{some_none, takes_none}
use Rattle.statement_cells.proofs.TrailLemmas.{mark}
use Rattle.statement_cells.proofs.RunLemmas.{Enters, Proceeds}
use Rattle.statement_cells.proofs.WaitLemmas.{waits, mark_none}

same_number : (i : ℕ) → (i == i) ≡ true
same_number i = grind (arith, nat_tests)

-- one label that stays
pub kept_one : (p : Marks) (st : Bool) (l : ℕ) → mark l (p l && st) ≡ kept_marks p st l 1
kept_one p st l = λ j i. one i (l == i) refl j
  where
    same : (i : ℕ) → (l == i) ≡ true → l ≡ i
    same i h = grind (arith, nat_tests)

    turn : (a b : Bool) → (a && b) ≡ (b && (a && true))
    turn true true = refl
    turn true false = refl
    turn false true = refl
    turn false false = refl

    off : (a b : Bool) → false ≡ (b && (a && false))
    off true true = refl
    off true false = refl
    off false true = refl
    off false false = refl

    one : (i : ℕ) (b : Bool) → (l == i) ≡ b → ((l == i) && (p l && st)) ≡ (st && (p i && ((l == i) || false)))
    one i true e = ap (λ x. x && (p l && st)) e ∙ turn (p l) st ∙ ap (λ x. st && (p x && true)) (same i e) ∙ ap (λ x. st && (p i && (x || false))) (sym e)
    one i false e = ap (λ x. x && (p l && st)) e ∙ off (p i) st ∙ ap (λ x. st && (p i && (x || false))) (sym e)

mark_in : (l : ℕ) (b : Bool) → MarksIn l 1 (mark l b)
mark_in l b = record { below = λ i h. ap (λ x. x && b) (under i h); above = λ i h. ap (λ x. x && b) (over i h) }
  where
    under : (i : ℕ) → i < l → (l == i) ≡ false
    under i h = grind (arith, nat_tests, h)

    over : (i : ℕ) → l + 1 ≤ i → (l == i) ≡ false
    over i h = grind (arith, nat_tests, h)

module _ (vs : Vars) (env : Values) (now : Registers) where
  paused : (l v : ℕ) (mv : Bool) → Live vs env pause no_marks l v pause mv false false (waits l mv)
  unfolding some
  paused l v true = record {
    reaction = record { residual = nothing; held = pause; acts = []; faults = []; met = []; ended = false };
    reacts = of_pause env;
    ends = refl;
    acts = refl;
    met = refl;
    faults = λ a. refl;
    stops = λ x y. absurd (cc);
    goes = λ x y. (ap (λ b. (b && true) || false) (same_number l), tt, λ k h. refl);
    stays = λ x. absurd (cc);
    held = λ on. absurd (cc);
    bounded = record { marks = mark_in l true; takes = takes_none v 0; defaults = takes_none v 0; rests = λ f. refl };
  }
  paused l v false = record {
    reaction = record { residual = nothing; held = pause; acts = []; faults = []; met = []; ended = false };
    reacts = of_pause env;
    ends = refl;
    acts = refl;
    met = refl;
    faults = λ a. refl;
    stops = λ x y. absurd (cc);
    goes = λ x y. absurd (cc);
    stays = λ x. (mark_none l, refl);
    held = λ on. absurd (cc);
    bounded = record { marks = mark_in l false; takes = takes_none v 0; defaults = takes_none v 0; rests = λ f. refl };
  }

  -- a pause starts, and its label is entered where control moves
  pub starts_pause : (l v : ℕ) (go mv : Bool) → Enters vs env now l v pause go mv false (waits l (go && mv))
  starts_pause l v true mv = paused l v mv
  starts_pause l v false mv = record {
    ends = refl;
    acts = refl;
    faults = refl;
    met = refl;
    marks = mark_none l;
    takes = refl;
    held = λ on. let off = some_none l 1 in absurd (cc);
    bounded = record { marks = mark_in l false; takes = takes_none v 0; defaults = takes_none v 0; rests = λ f. refl };
  }

module _ (vs : Vars) (env : Values) (m : Marks) (now : Registers) where
  goes_past : (l v : ℕ) (x res mv st : Bool) → m l ≡ x → (x && res) ≡ true → (mv && st) ≡ false → Live vs env nothing m l v pause mv st true (waits l (m l && st))
  goes_past l v x res true true e on excl = absurd (cc)
  goes_past l v x res true false e on excl = record {
    reaction = ends [] [] nothing;
    reacts = of_nothing env;
    ends = refl;
    acts = refl;
    met = refl;
    faults = λ a. refl;
    stops = λ y z. (ap (mark l) (and_false (m l)) ∙ mark_none l, refl);
    goes = λ y z. absurd (cc);
    stays = λ y. absurd (cc);
    held = λ y k h. refl;
    bounded = record { marks = mark_in l (m l && false); takes = takes_none v 0; defaults = takes_none v 0; rests = λ f. refl };
  }
  goes_past l v x res false st e on excl = record {
    reaction = ends [] [] nothing;
    reacts = of_nothing env;
    ends = refl;
    acts = refl;
    met = refl;
    faults = λ a. refl;
    stops = λ y z. absurd (cc);
    goes = λ y z. absurd (cc);
    stays = λ y. (kept_one m st l, refl);
    held = λ y k h. refl;
    bounded = record { marks = mark_in l (m l && st); takes = takes_none v 0; defaults = takes_none v 0; rests = λ f. refl };
  }

  by_label : (l v : ℕ) (x res mv st : Bool) → m l ≡ x → (res && (mv && st)) ≡ false → Runs vs env nothing m now l v pause ((x || false) && res) mv st (x && res) (waits l (m l && st))
  by_label l v true true mv st e excl = goes_past l v true true mv st e refl excl
  by_label l v true false mv st e excl = at_rest l v (m l && st) (kept_one m st l)
    where
      at_rest : (l v : ℕ) (b : Bool) → mark l b ≡ kept_marks m st l 1 → Idle vs m now l v pause st false (waits l b)
      at_rest l v b f = record {
        ends = refl;
        acts = refl;
        faults = refl;
        met = refl;
        marks = f;
        takes = refl;
        held = λ on k h. refl;
        bounded = record { marks = mark_in l b; takes = takes_none v 0; defaults = takes_none v 0; rests = λ g. refl };
      }
  by_label l v false res mv st e excl = at_rest l v (m l && st) (kept_one m st l)
    where
      at_rest : (l v : ℕ) (b : Bool) → mark l b ≡ kept_marks m st l 1 → Idle vs m now l v pause st false (waits l b)
      at_rest l v b f = record {
        ends = refl;
        acts = refl;
        faults = refl;
        met = refl;
        marks = f;
        takes = refl;
        held = λ on k h. refl;
        bounded = record { marks = mark_in l b; takes = takes_none v 0; defaults = takes_none v 0; rests = λ g. refl };
      }

  -- a pause goes on, and ends where its label is 1
  pub resumes_pause : (l v : ℕ) (res mv st : Bool) → (res && (mv && st)) ≡ false → Proceeds vs env m now l v pause res mv st (m l && res) (waits l (m l && st))
  unfolding some
  resumes_pause l v res mv st excl = by_label l v (m l) res mv st refl excl
