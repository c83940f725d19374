-- Runs of sequences.
use Rattle.std.proofs.Common.{◌≡◌, ℕ, ◌+◌, Bool, true, false, ◌&&◌, ◌||◌, [], ◌++◌, refl, sym, ap, ap₂, ◌∙◌, subst}
use Rattle.std.specs.Prelude.{if◌then◌else◌}
use Rattle.quartz_expr.specs.Values.{Values}
use Rattle.quartz_expr.specs.Vars.{Vars}
use Rattle.quartz_expr.specs.Terms.{Term, seq, Terms, none, part, are_fresh}
use Rattle.quartz_expr.specs.React.{Reaction, sequence, ends, goes_on, React, of_none, of_turn, of_stop}
use Rattle.quartz_expr.specs.Tick.{tick}
use Rattle.statement_cells.specs.Labels.{labels, labels_all, registers, registers_all}
use Rattle.statement_cells.specs.Stands.{Marks, Registers, some, at, at_in_turn, plain, AtOneInTurn}
use Rattle.statement_cells.specs.Walk.{else_takes, Trail, no_marks, union, plus, no_trail, kept_marks, Holds, Live, Idle, Runs}
use Rattle.statement_cells.proofs.BoolLemmas.{and_false, or_true}
use Rattle.statement_cells.proofs.MarkLemmas.{some_split, some_none, some_after, some_before, at_one_free, at_one_in_turn_free, marks_none, takes_none, holds_first, union_none, kept_free, kept_split}
use Rattle.statement_cells.proofs.TrailLemmas.{plus_none}
use Rattle.statement_cells.proofs.ReactLemmas.{sequence_turn, sequence_stop}
use Rattle.statement_cells.proofs.PlainLemmas.{plain_sequence, tick_sequence}
use Rattle.statement_cells.proofs.RunLemmas.{resolved_left, resolved_right, holds_later, bounds, ranges, range_left, range_right, range_two, Enters, Proceeds, second_true, first_true, told, idle_free, first_only, second_only, begun}

module _ (vs : Vars) (env : Values) (m : Marks) where
  -- u reacts as the sequence of t and ss does, and holds t in that form
  pub record InSequence (t u : Term) (ss : Terms) (form : Term → Term) : Type 0 where
    pub turn : (q p : Reaction) → React vs env t q → q.ended ≡ true → React vs env (seq ss) p → React vs env u (record (goes_on ss q p) { held = form q.held })
    pub stop : (q : Reaction) → React vs env t q → q.ended ≡ false → React vs env u (record q { residual = sequence q.residual ss; held = form q.held })

  -- a part that doesn't end
  turn_stops : (t u : Term) (l v : ℕ) (s : Term) (ss : Terms) (mv st : Bool) (o : Trail) (form : Term → Term) → are_fresh ss ≡ true → some m (l + labels s) (labels_all ss) ≡ false
      → (some m l (labels s) ≡ true → (x : Term) → form x ≡ sequence x ss) → InSequence t u ss form
      → Live vs env t m l v s mv st false o → Live vs env u m l v (seq (part s ss)) mv st false o
  turn_stops t u l v s ss mv st o form fresh off same rules h =
      let n = o.marks in
      let free = some_after n l (labels s) (labels_all ss) h.bounded.marks in
      record {
        reaction = record (h.reaction) { residual = sequence h.reaction.residual ss; held = form h.reaction.held };
        reacts = rules.stop h.reaction h.reacts h.ends;
        ends = h.ends;
        acts = h.acts;
        met = h.met;
        faults = h.faults;
        stops = λ x y. absurd (cc);
        goes = λ x y. let g = h.goes x y in (
          some_split n l (labels s) (labels_all ss) ∙ ap (λ x. x || some n (l + labels s) (labels_all ss)) g.0,
          (ap (λ x. some n l (labels s) && x) free ∙ and_false (some n l (labels s)), g.1, at_one_in_turn_free ss n (l + labels s) free),
          λ k hk. ap (λ x. if x then sequence (at vs n k l v s) ss else at_in_turn vs n k (l + labels s) (v + registers vs s) ss) g.0
              ∙ ap (λ x. sequence x ss) (g.2 k hk) ∙ sym (plain_sequence vs h.reaction.residual ss fresh),
        );
        stays = λ x. let g = h.stays x in
            (g.0 ∙ sym (kept_split m st l (labels s) (labels_all ss) ∙ ap (union (kept_marks m st l (labels s))) (kept_free m st (l + labels s) (labels_all ss) off) ∙ union_none (kept_marks m st l (labels s))), g.1);
        held = λ on k hk.
            let own : some m l (labels s) ≡ true = first_true (some m l (labels s)) (some m (l + labels s) (labels_all ss)) off (sym (some_split m l (labels s) (labels_all ss)) ∙ on) in
            ap (λ x. if x then sequence (at vs m k l v s) ss else at_in_turn vs m k (l + labels s) (v + registers vs s) ss) own
            ∙ ap (λ x. sequence x ss) (h.held own k hk) ∙ sym (plain_sequence vs h.reaction.held ss fresh) ∙ ap (plain vs) (sym (same own h.reaction.held));
        bounded = bounds vs m l v (seq (part s ss)) o (range_left m l (labels s) (labels_all ss) v (registers vs s) (registers_all vs ss) o (ranges vs m l v s o h.bounded));
      }

  -- a part that ends, and the parts behind it
  turn_goes_on : (t u : Term) (l v : ℕ) (s : Term) (ss : Terms) (mv st e : Bool) (a b : Trail) (form : Term → Term) → are_fresh ss ≡ true → some m (l + labels s) (labels_all ss) ≡ false
      → (some m l (labels s) ≡ true → (x : Term) → form x ≡ sequence x ss) → InSequence t u ss form
      → Live vs env t m l v s mv st true a → Live vs env (seq ss) m (l + labels s) (v + registers vs s) (seq ss) mv st e b → Live vs env u m l v (seq (part s ss)) mv st e (plus a b)
  turn_goes_on t u l v s ss mv st e a b form fresh off same rules h i =
      let free = some_before b.marks l (labels s) (labels_all ss) i.bounded.marks in
      record {
        reaction = record (goes_on ss h.reaction i.reaction) { held = form h.reaction.held };
        reacts = rules.turn h.reaction i.reaction h.reacts h.ends i.reacts;
        ends = i.ends;
        acts = ap₂ (λ x y. x ++ y) h.acts i.acts;
        met = ap₂ (λ x y. x ++ y) h.met i.met;
        faults = λ all. ap₂ (λ x y. x ++ y) (h.faults (resolved_left a.met b.met all)) (i.faults (resolved_right a.met b.met all));
        stops = λ x y. let g = h.stops x refl in let f = i.stops x y in (ap₂ union g.0 f.0, ap₂ else_takes g.1 f.1);
        goes = λ x y.
            let f = h.stops x refl in
            let g = i.goes x y in
            subst (λ n. (some n l (labels s + labels_all ss) ≡ true) × AtOneInTurn n l (part s ss)
            × ((k : Registers) → Holds (else_takes (else_takes a.takes b.takes) (else_takes a.defaults b.defaults)) k → at_in_turn vs n k l v (part s ss) ≡ plain vs i.reaction.residual))
            (sym (ap (λ n. union n b.marks) f.0)) (
              some_split b.marks l (labels s) (labels_all ss) ∙ ap (λ x. some b.marks l (labels s) || x) g.0 ∙ or_true (some b.marks l (labels s)),
              (ap (λ x. x && some b.marks (l + labels s) (labels_all ss)) free, at_one_free s b.marks l free, g.1),
              λ k hk. ap (λ x. if x then sequence (at vs b.marks k l v s) ss else at_in_turn vs b.marks k (l + labels s) (v + registers vs s) ss) free
                  ∙ g.2 k (holds_later a.takes b.takes a.defaults b.defaults k f.1 (i.bounded.rests off) hk),
            );
        stays = λ x. let g = h.stays x in let f = i.stays x in (ap₂ union g.0 f.0 ∙ sym (kept_split m st l (labels s) (labels_all ss)), ap₂ else_takes g.1 f.1);
        held = λ on k hk.
            let own : some m l (labels s) ≡ true = first_true (some m l (labels s)) (some m (l + labels s) (labels_all ss)) off (sym (some_split m l (labels s) (labels_all ss)) ∙ on) in
            ap (λ x. if x then sequence (at vs m k l v s) ss else at_in_turn vs m k (l + labels s) (v + registers vs s) ss) own
            ∙ ap (λ x. sequence x ss) (h.held own k (holds_first a.defaults b.defaults k hk)) ∙ sym (plain_sequence vs h.reaction.held ss fresh) ∙ ap (plain vs) (sym (same own h.reaction.held));
        bounded = bounds vs m l v (seq (part s ss)) (plus a b)
            (range_two m l (labels s) (labels_all ss) v (registers vs s) (registers_all vs ss) a b (ranges vs m l v s a h.bounded) (ranges vs m (l + labels s) (v + registers vs s) (seq ss) b i.bounded));
      }

  -- the first part has no label that is 1, and the parts behind it run
  passed : (t : Term) (l v : ℕ) (s : Term) (ss : Terms) (mv st e : Bool) (o : Trail) → some m l (labels s) ≡ false
      → Live vs env t m (l + labels s) (v + registers vs s) (seq ss) mv st e o → Live vs env t m l v (seq (part s ss)) mv st e o
  passed t l v s ss mv st e o off h =
      let n = o.marks in
      let free = some_before n l (labels s) (labels_all ss) h.bounded.marks in
      record {
        reaction = h.reaction;
        reacts = h.reacts;
        ends = h.ends;
        acts = h.acts;
        met = h.met;
        faults = h.faults;
        stops = h.stops;
        goes = λ x y. let g = h.goes x y in (
          some_split n l (labels s) (labels_all ss) ∙ ap (λ x. some n l (labels s) || x) g.0 ∙ or_true (some n l (labels s)),
          (ap (λ x. x && some n (l + labels s) (labels_all ss)) free, at_one_free s n l free, g.1),
          λ k hk. ap (λ x. if x then sequence (at vs n k l v s) ss else at_in_turn vs n k (l + labels s) (v + registers vs s) ss) free ∙ g.2 k hk,
        );
        stays = λ x. let g = h.stays x in
            (g.0 ∙ sym (kept_split m st l (labels s) (labels_all ss) ∙ ap (λ x. union x (kept_marks m st (l + labels s) (labels_all ss))) (kept_free m st l (labels s) off)), g.1);
        held = λ on k hk.
            let own : some m (l + labels s) (labels_all ss) ≡ true = second_true (some m l (labels s)) (some m (l + labels s) (labels_all ss)) off (sym (some_split m l (labels s) (labels_all ss)) ∙ on) in
            ap (λ x. if x then sequence (at vs m k l v s) ss else at_in_turn vs m k (l + labels s) (v + registers vs s) ss) off ∙ h.held own k hk;
        bounded = bounds vs m l v (seq (part s ss)) o (range_right m l (labels s) (labels_all ss) v (registers vs s) (registers_all vs ss) o (ranges vs m (l + labels s) (v + registers vs s) (seq ss) o h.bounded));
      }

  -- no part of a sequence reacts
  idle_turn : (now : Registers) (l v : ℕ) (s : Term) (ss : Terms) (st ea e : Bool) (a b : Trail) → are_fresh ss ≡ true
      → Idle vs m now l v s st ea a → Idle vs m now (l + labels s) (v + registers vs s) (seq ss) st e b → Idle vs m now l v (seq (part s ss)) st e (plus a b)
  idle_turn now l v s ss st ea e a b fresh g h = record {
    ends = h.ends;
    acts = ap₂ (λ x y. x ++ y) g.acts h.acts;
    faults = ap₂ (λ x y. x ++ y) g.faults h.faults;
    met = ap₂ (λ x y. x ++ y) g.met h.met;
    marks = ap₂ union g.marks h.marks ∙ sym (kept_split m st l (labels s) (labels_all ss));
    takes = ap₂ else_takes g.takes h.takes;
    held = λ on k hk. by_first (some m l (labels s)) refl (sym (some_split m l (labels s) (labels_all ss)) ∙ on) k hk;
    bounded = bounds vs m l v (seq (part s ss)) (plus a b)
        (range_two m l (labels s) (labels_all ss) v (registers vs s) (registers_all vs ss) a b (ranges vs m l v s a g.bounded) (ranges vs m (l + labels s) (v + registers vs s) (seq ss) b h.bounded));
  }
    where
      either : Registers → Bool → Term
      either k x = if x then sequence (at vs m k l v s) ss else at_in_turn vs m k (l + labels s) (v + registers vs s) ss

      by_first : (x : Bool) → some m l (labels s) ≡ x → (some m l (labels s) || some m (l + labels s) (labels_all ss)) ≡ true → (k : Registers) → Holds (else_takes a.defaults b.defaults) k
          → either k (some m l (labels s)) ≡ plain vs (tick vs (either now (some m l (labels s))))
      by_first true x on k hk =
          ap (either k) x ∙ ap (λ u. sequence u ss) (g.held x k (holds_first a.defaults b.defaults k hk))
          ∙ sym (ap (plain vs) (tick_sequence vs (at vs m now l v s) ss fresh) ∙ plain_sequence vs (tick vs (at vs m now l v s)) ss fresh)
          ∙ ap (λ y. plain vs (tick vs (either now y))) (sym x)
      by_first false x on k hk =
          ap (either k) x
          ∙ h.held (second_true (some m l (labels s)) (some m (l + labels s) (labels_all ss)) x on) k (subst (λ z. Holds (else_takes z b.defaults) k) (g.bounded.rests x) hk)
          ∙ ap (λ y. plain vs (tick vs (either now y))) (sym x)

  -- a part that reacts, and the parts behind it, which start where it ends
  turn : (t u w : Term) (now : Registers) (l v : ℕ) (s : Term) (ss : Terms) (mv st x e : Bool) (a b : Trail) (form : Term → Term) → are_fresh ss ≡ true → some m (l + labels s) (labels_all ss) ≡ false
      → (some m l (labels s) ≡ true → (y : Term) → form y ≡ sequence y ss) → InSequence t u ss form
      → Live vs env t m l v s mv st x a → Runs vs env (if x then seq ss else w) m now (l + labels s) (v + registers vs s) (seq ss) (x || false) mv st e b
      → Live vs env u m l v (seq (part s ss)) mv st e (plus a b)
  turn t u w now l v s ss mv st true e a b form fresh off same rules h i = turn_goes_on t u l v s ss mv st e a b form fresh off same rules h i
  turn t u w now l v s ss mv st false e a b form fresh off same rules h i =
      told vs env m u l v (seq (part s ss)) mv st false e a (plus a b) (sym i.ends) (sym (ap (plus a) (idle_free vs env m now _ _ (seq ss) st e b off i) ∙ plus_none a))
      (turn_stops t u l v s ss mv st a form fresh off same rules h)

  -- a part that doesn't react and has no label that is 1, and the parts behind it
  passes : (w : Term) (now : Registers) (l v : ℕ) (s : Term) (ss : Terms) (go mv st x e : Bool) (a b : Trail) → are_fresh ss ≡ true → some m l (labels s) ≡ false
      → x ≡ false → a ≡ no_trail → Runs vs env (if x then seq ss else w) m now (l + labels s) (v + registers vs s) (seq ss) (x || go) mv st e b
      → Runs vs env w m now l v (seq (part s ss)) go mv st e (plus a b)
  passes w now l v s ss go mv st true e a b fresh off ended nil h = absurd (cc)
  passes w now l v s ss true mv st false e a b fresh off ended nil h = told vs env m w l v (seq (part s ss)) mv st e e b (plus a b) refl (sym (ap (λ z. plus z b) nil)) (passed w l v s ss mv st e b off h)
  passes w now l v s ss false mv st false e a b fresh off ended nil h =
      subst (λ z. Idle vs m now l v (seq (part s ss)) st e (plus z b)) (sym nil) (idle_turn now l v s ss st false e no_trail b fresh (nobody now l v s st off) h)
    where
      nobody : (now : Registers) (l v : ℕ) (s : Term) (st : Bool) → some m l (labels s) ≡ false → Idle vs m now l v s st false no_trail
      nobody now l v s st off = record {
        ends = refl;
        acts = refl;
        faults = refl;
        met = refl;
        marks = sym (kept_free m st l (labels s) off);
        takes = refl;
        held = λ on. absurd (cc);
        bounded = record { marks = marks_none l (labels s); takes = takes_none v (registers vs s); defaults = takes_none v (registers vs s); rests = λ f. refl };
      }

  -- a part with a label that is 1 doesn't react, nor do those behind it
  rests_turn : (w : Term) (now : Registers) (l v : ℕ) (s : Term) (ss : Terms) (mv st x e : Bool) (a b : Trail) → are_fresh ss ≡ true → Idle vs m now l v s st x a
      → Runs vs env (if x then seq ss else w) m now (l + labels s) (v + registers vs s) (seq ss) (x || false) mv st e b → Idle vs m now l v (seq (part s ss)) st e (plus a b)
  rests_turn w now l v s ss mv st true e a b fresh h i = let f = h.ends in absurd (cc)
  rests_turn w now l v s ss mv st false e a b fresh h i = idle_turn now l v s ss st false e a b fresh h i

-- a sequence's parts run: from the first one on where `before` holds, else from their labels
abbrev pub InTurn : Vars → Values → Marks → Registers → (l v : ℕ) → Terms → (before res move stay ended : Bool) → Trail → Type 0
InTurn vs env m now l v ss before res move stay ended o =
    Runs vs env (if before then seq ss else at_in_turn vs m now l v ss) m now l v (seq ss) (before || (some m l (labels_all ss) && res)) move stay ended o

module _ (vs : Vars) (env : Values) (now : Registers) where
  raw : (m : Marks) (s : Term) (ss : Terms) → InSequence vs env m s (seq (part s ss)) ss (λ x. seq (part x ss))
  raw m s ss = record { turn = of_turn env s ss; stop = of_stop env s ss }

  formed : (m : Marks) (t : Term) (ss : Terms) → InSequence vs env m t (sequence t ss) ss (λ x. sequence x ss)
  formed m t ss = record { turn = sequence_turn vs env t ss; stop = sequence_stop vs env t ss }

  -- no part is left
  pub starts_none : (l v : ℕ) (go mv : Bool) → Enters vs env now l v (seq none) go mv go no_trail
  starts_none l v true mv = record {
    reaction = ends [] [] (seq none);
    reacts = of_none env;
    ends = refl;
    acts = refl;
    met = refl;
    faults = λ a. refl;
    stops = λ x y. (refl, refl);
    goes = λ x y. absurd (cc);
    stays = λ x. (refl, refl);
    held = λ on. let off : some no_marks l 0 ≡ false = some_none l 0 in absurd (cc);
    bounded = record { marks = marks_none l 0; takes = takes_none v 0; defaults = takes_none v 0; rests = λ f. refl };
  }
  starts_none l v false mv = record {
    ends = refl;
    acts = refl;
    faults = refl;
    met = refl;
    marks = refl;
    takes = refl;
    held = λ on. let off : some no_marks l 0 ≡ false = some_none l 0 in absurd (cc);
    bounded = record { marks = marks_none l 0; takes = takes_none v 0; defaults = takes_none v 0; rests = λ f. refl };
  }

  -- the first part of a sequence starts, and the others where it ends
  pub starts_turn : (l v : ℕ) (s : Term) (ss : Terms) (go mv ea e : Bool) (a b : Trail) → are_fresh ss ≡ true
      → Enters vs env now l v s go mv ea a → Enters vs env now (l + labels s) (v + registers vs s) (seq ss) ea mv e b
      → Enters vs env now l v (seq (part s ss)) go mv e (plus a b)
  starts_turn l v s ss true mv true e a b fresh h i =
      turn_goes_on vs env no_marks s _ l v s ss mv false e a b (λ x. seq (part x ss)) fresh (some_none _ _) (λ on. let off : some no_marks l (labels s) ≡ false = some_none l (labels s) in absurd (cc)) (raw no_marks s ss) h i
  starts_turn l v s ss true mv false e a b fresh h i =
      turn vs env no_marks s _ (seq ss) now l v s ss mv false false e a b (λ x. seq (part x ss)) fresh (some_none _ _) (λ on. let off : some no_marks l (labels s) ≡ false = some_none l (labels s) in absurd (cc)) (raw no_marks s ss) h i
  starts_turn l v s ss false mv true e a b fresh h i = let f = h.ends in absurd (cc)
  starts_turn l v s ss false mv false e a b fresh h i = idle_turn vs env no_marks now l v s ss false false e a b fresh h i

module _ (vs : Vars) (env : Values) (m : Marks) (now : Registers) where
  pub resumes_none : (l v : ℕ) (before res mv st : Bool) → InTurn vs env m now l v none before res mv st before no_trail
  unfolding some
  resumes_none l v true res mv st = begun vs env m (seq none) l v (seq none) mv st true no_trail refl (starts_none vs env now l v true mv)
  resumes_none l v false res mv st = record {
    ends = refl;
    acts = refl;
    faults = refl;
    met = refl;
    marks = sym (kept_free m st l 0 refl);
    takes = refl;
    held = λ on. absurd (cc);
    bounded = record { marks = marks_none l 0; takes = takes_none v 0; defaults = takes_none v 0; rests = λ f. refl };
  }

  turn_cases : (l v : ℕ) (s : Term) (ss : Terms) (g sa sb res mv st ea eb e : Bool) (a b o : Trail) → are_fresh ss ≡ true → some m l (labels s) ≡ sa → some m (l + labels s) (labels_all ss) ≡ sb
      → (g && (sa || sb)) ≡ false → (sa && sb) ≡ false
      → Enters vs env now l v s g mv ea a → Runs vs env (at vs m now l v s) m now l v s (sa && res) mv st eb b
      → Runs vs env (if ea || eb then seq ss else at_in_turn vs m now (l + labels s) (v + registers vs s) ss) m now (l + labels s) (v + registers vs s) (seq ss) ((ea || eb) || (sb && res)) mv st e o
      → Runs vs env (if g then seq (part s ss) else (if sa then sequence (at vs m now l v s) ss else at_in_turn vs m now (l + labels s) (v + registers vs s) ss)) m now l v (seq (part s ss)) (g || ((sa || sb) && res)) mv st e (plus (plus a b) o)
  turn_cases l v s ss true true sb res mv st ea eb e a b o fresh x y p q h i k = absurd (cc)
  turn_cases l v s ss true false true res mv st ea eb e a b o fresh x y p q h i k = absurd (cc)
  turn_cases l v s ss true false false res mv st ea eb e a b o fresh x y p q h i k =
      turn vs env m s _ (at_in_turn vs m now (l + labels s) (v + registers vs s) ss) now l v s ss mv st (ea || eb) e (plus a b) o (λ z. seq (part z ss)) fresh y (λ on. absurd (cc)) (raw vs env now m s ss)
      (first_only vs env m s l v s mv st ea eb a b i.ends (idle_free vs env m now l v s st eb b x i) (begun vs env m s l v s mv st ea a x h)) k
  turn_cases l v s ss false true true res mv st ea eb e a b o fresh x y p q h i k = absurd (cc)
  turn_cases l v s ss false true false true mv st ea eb e a b o fresh x y p q h i k =
      turn vs env m (at vs m now l v s) _ (at_in_turn vs m now (l + labels s) (v + registers vs s) ss) now l v s ss mv st (ea || eb) e (plus a b) o (λ z. sequence z ss) fresh y (λ on z. refl) (formed vs env now m (at vs m now l v s) ss)
      (second_only vs env m _ l v s mv st ea eb a b h.ends (idle_free vs env no_marks now l v s false ea a (some_none l (labels s)) h) i) k
  turn_cases l v s ss false true false false mv st ea eb e a b o fresh x y p q h i k =
      let nil : a ≡ no_trail = idle_free vs env no_marks now l v s false ea a (some_none l (labels s)) h in
      rests_turn vs env m (at_in_turn vs m now (l + labels s) (v + registers vs s) ss) now l v s ss mv st (ea || eb) e (plus a b) o fresh
      (subst (λ z. Idle vs m now l v s st (ea || eb) (plus z b)) (sym nil) (subst (λ z. Idle vs m now l v s st (z || eb) b) (sym h.ends) i)) k
  turn_cases l v s ss false false sb res mv st ea eb e a b o fresh x y p q h i k =
      passes vs env m (at_in_turn vs m now (l + labels s) (v + registers vs s) ss) now l v s ss (sb && res) mv st (ea || eb) e (plus a b) o fresh x (ap₂ (λ z w. z || w) h.ends i.ends)
      (ap₂ plus (idle_free vs env no_marks now l v s false ea a (some_none l (labels s)) h) (idle_free vs env m now l v s st eb b x i)) k

  -- a part starts, or goes on from its labels; where it ends, the parts behind it start, or they go on from theirs
  pub resumes_turn : (l v : ℕ) (s : Term) (ss : Terms) (before res mv st ea eb e : Bool) (a b o : Trail) → are_fresh ss ≡ true → AtOneInTurn m l (part s ss) → (before && some m l (labels s + labels_all ss)) ≡ false
      → Enters vs env now l v s before mv ea a → Proceeds vs env m now l v s res mv st eb b → InTurn vs env m now (l + labels s) (v + registers vs s) ss (ea || eb) res mv st e o
      → InTurn vs env m now l v (part s ss) before res mv st e (plus (plus a b) o)
  resumes_turn l v s ss before res mv st ea eb e a b o fresh one apart h i k =
      subst (λ x. Runs vs env (if before then seq (part s ss) else at_in_turn vs m now l v (part s ss)) m now l v (seq (part s ss)) (before || (x && res)) mv st e (plus (plus a b) o)) (sym (some_split m l (labels s) (labels_all ss)))
      (turn_cases l v s ss before (some m l (labels s)) (some m (l + labels s) (labels_all ss)) res mv st ea eb e a b o fresh refl refl (ap (λ x. before && x) (sym (some_split m l (labels s) (labels_all ss))) ∙ apart) one.0 h i k)

  -- a sequence goes on
  pub resumes_seq : (l v : ℕ) (ss : Terms) (res mv st e : Bool) (o : Trail) → InTurn vs env m now l v ss false res mv st e o → Proceeds vs env m now l v (seq ss) res mv st e o
  resumes_seq l v ss res mv st e o h = h

  -- what ended had started
  pub ended_ran : (t : Term) (n : Marks) (l v : ℕ) (s : Term) (go mv st e : Bool) (o : Trail) → Runs vs env t n now l v s go mv st e o → e ≡ true → go ≡ true
  ended_ran t n l v s true mv st e o h x = refl
  ended_ran t n l v s false mv st e o h x = let f = h.ends in absurd (cc)

  -- where a part ended, no label behind it is 1
  pub apart_next : (l v : ℕ) (s : Term) (ss : Terms) (before res mv st ea eb : Bool) (a b : Trail) → AtOneInTurn m l (part s ss) → (before && some m l (labels s + labels_all ss)) ≡ false
      → Enters vs env now l v s before mv ea a → Proceeds vs env m now l v s res mv st eb b → ((ea || eb) && some m (l + labels s) (labels_all ss)) ≡ false
  apart_next l v s ss before res mv st ea eb a b one apart h i =
      by_end ea eb before (some m l (labels s)) (some m (l + labels s) (labels_all ss)) (ended_ran s no_marks l v s before mv false ea a h) (ended_ran (at vs m now l v s) m l v s (some m l (labels s) && res) mv st eb b i)
      (ap (λ x. before && x) (sym (some_split m l (labels s) (labels_all ss))) ∙ apart) one.0
    where
      by_end : (x y g sa sb : Bool) → (x ≡ true → g ≡ true) → (y ≡ true → (sa && res) ≡ true) → (g && (sa || sb)) ≡ false → (sa && sb) ≡ false → ((x || y) && sb) ≡ false
      by_end x y g sa false p q f k = and_false (x || y)
      by_end true y true true true p q f k = absurd (cc)
      by_end true y true false true p q f k = absurd (cc)
      by_end true y false sa true p q f k = let z = p refl in absurd (cc)
      by_end false true g true true p q f k = absurd (cc)
      by_end false true g false true p q f k = let z = q refl in absurd (cc)
      by_end false false g sa true p q f k = refl
