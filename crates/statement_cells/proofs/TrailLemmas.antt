-- What builders say, piece by piece.
use Rattle.std.proofs.Common.{◌≡◌, ℕ, ℤ, Bool, true, false, ◌==◌, ◌&&◌, ◌||◌, List, [], ◌∷◌, ◌++◌, Option, Some, None, refl, sym, ap, ◌∙◌, append_assoc, append-nil, arith}
use Rattle.std.proofs.lemmas.Bool.Decides.{nat_tests}
use Rattle.quartz_expr.specs.declared.act.Act.{Act}
use Rattle.quartz_expr.specs.Vars.{Vars, count_of}
use Rattle.quartz_expr.specs.React.{Met, meetings}
use Rattle.aif_cells.specs.declared.reference.Ref.{Ref}
use Rattle.aif_cells.specs.declared.cells.Action.{Action}
use Rattle.aif_cells.specs.declared.cells.Monitor.{Monitor}
use Rattle.aif_cells.specs.Worth.{Assignment, truth, holds}
use Rattle.absence_reaction.specs.Meaning.{act_of, raised}
use Rattle.quartz_expr.specs.Faults.{fault_if}
use Rattle.statement_cells.specs.Builder.{Builder, Entry, Scoped, EnteredCopy, DepthCopy, enter, stay_at, act}
use Rattle.statement_cells.specs.Stands.{Marks, some}
use Rattle.statement_cells.specs.Walk.{acted, marked, met_by, met_if, is_active, cell_values, worths_of, takes_copy, Takes, no_takes, or_else, else_takes, takes_if, entered_takes, depth_takes, Trail, trail, now, next_marks, plus, no_trail, no_marks, union, Settles}
use Rattle.statement_cells.proofs.BoolLemmas.{or_false, or_assoc}
use Rattle.statement_cells.proofs.MarkLemmas.{or_else_assoc}

-- ---- trails one behind the other

pub else_none : (a : Option ℤ) → or_else a None ≡ a
else_none (Some z) = refl
else_none None = refl

pub takes_none : (f : Takes) → else_takes f no_takes ≡ f
takes_none f = λ i r. else_none (f r) i

pub takes_assoc : (f g h : Takes) → else_takes (else_takes f g) h ≡ else_takes f (else_takes g h)
takes_assoc f g h = λ i r. or_else_assoc (f r) (g r) (h r) i

pub union_none : (m : Marks) → union m no_marks ≡ m
union_none m = λ i l. or_false (m l) i

pub union_assoc : (m n o : Marks) → union (union m n) o ≡ union m (union n o)
union_assoc m n o = λ i l. or_assoc (m l) (n l) (o l) i

pub plus_none : (t : Trail) → plus t no_trail ≡ t
plus_none t = λ i. record {
  acts = append-nil t.acts i;
  faults = append-nil t.faults i;
  met = append-nil t.met i;
  marks = union_none t.marks i;
  takes = takes_none t.takes i;
  defaults = takes_none t.defaults i;
}

pub none_plus : (t : Trail) → plus no_trail t ≡ t
none_plus t = refl

pub plus_assoc : (a b c : Trail) → plus (plus a b) c ≡ plus a (plus b c)
plus_assoc a b c = λ i. record {
  acts = append_assoc a.acts b.acts c.acts i;
  faults = append_assoc a.faults b.faults c.faults i;
  met = append_assoc a.met b.met c.met i;
  marks = union_assoc a.marks b.marks c.marks i;
  takes = takes_assoc a.takes b.takes c.takes i;
  defaults = takes_assoc a.defaults b.defaults c.defaults i;
}

-- one label
abbrev pub mark : ℕ → Bool → Marks
mark l b i = (l == i) && b

-- ---- more of each list

pub raised_both : (σ : Assignment) (ms ns : List Monitor) → raised σ (ms ++ ns) ≡ raised σ ms ++ raised σ ns
raised_both σ [] ns = refl
raised_both σ (m ∷ ms) ns = ap (λ l. fault_if (holds (σ.cells m.cell)) m.kind m.place ++ l) (raised_both σ ms ns)
    ∙ sym (append_assoc (fault_if (holds (σ.cells m.cell)) m.kind m.place) (raised σ ms) (raised σ ns))

pub marked_both : (σ : Assignment) (es fs : List Entry) (i : ℕ) → marked σ (es ++ fs) i ≡ (marked σ es i || marked σ fs i)
unfolding marked
marked_both σ [] fs i = refl
marked_both σ (e ∷ es) fs i = ap (λ b. ((e.label == i) && truth σ e.under) || b) (marked_both σ es fs i)
    ∙ sym (or_assoc ((e.label == i) && truth σ e.under) (marked σ es i) (marked σ fs i))

pub met_both : (σ : Assignment) (ss us : List Scoped) → met_by σ (ss ++ us) ≡ met_by σ ss ++ met_by σ us
unfolding met_by
met_both σ [] us = refl
met_both σ (s ∷ ss) us =
    let own : List Met = met_if (is_active σ s.active) (meetings s.var (cell_values σ s.cells) (worths_of σ s.trees)) in
    ap (λ l. own ++ l) (met_both σ ss us) ∙ sym (append_assoc own (met_by σ ss) (met_by σ us))

module _ (vs : Vars) (σ : Assignment) where
  pub acted_both : (ws us : List Action) → acted vs σ (ws ++ us) ≡ acted vs σ ws ++ acted vs σ us
  unfolding acted
  acted_both [] us = refl
  acted_both (a ∷ ws) us =
      let own : List Act = act_of σ (count_of vs a.var) a in
      ap (λ l. own ++ l) (acted_both ws us) ∙ sym (append_assoc own (acted vs σ ws) (acted vs σ us))

  pub entered_both : (es fs : List EnteredCopy) → entered_takes vs σ (es ++ fs) ≡ else_takes (entered_takes vs σ es) (entered_takes vs σ fs)
  unfolding entered_takes
  entered_both [] fs = refl
  entered_both (e ∷ es) fs =
      let own : Takes = takes_if (truth σ e.entered.enter) (takes_copy vs σ e.var e.first e.entered.closed) in
      ap (λ f. else_takes own f) (entered_both es fs) ∙ sym (takes_assoc own (entered_takes vs σ es) (entered_takes vs σ fs))

  pub depth_both : (ds es : List DepthCopy) → depth_takes vs σ (ds ++ es) ≡ else_takes (depth_takes vs σ ds) (depth_takes vs σ es)
  unfolding depth_takes
  depth_both [] es = refl
  depth_both (d ∷ ds) es =
      let own : Takes = takes_if (some (now σ) d.label d.labels) (takes_copy vs σ d.var d.first d.closed) in
      ap (λ f. else_takes own f) (depth_both ds es) ∙ sym (takes_assoc own (depth_takes vs σ ds) (depth_takes vs σ es))

  -- ---- what one step adds

  pub acted_one : (a : Action) → acted vs σ (a ∷ []) ≡ act_of σ (count_of vs a.var) a
  unfolding acted
  acted_one a = append-nil (act_of σ (count_of vs a.var) a)

  pub trail_act : (a : Action) (β : Builder) → trail vs σ (act a β) ≡ plus (trail vs σ β) (record no_trail { acts = act_of σ (count_of vs a.var) a })
  unfolding act trail
  trail_act a β = λ i. record {
    acts = (acted_both β.writes (a ∷ []) ∙ ap (λ l. acted vs σ β.writes ++ l) (acted_one a)) i;
    faults = sym (append-nil (raised σ β.monitors)) i;
    met = sym (append-nil (met_by σ β.scopes)) i;
    marks = sym (union_none (next_marks σ β)) i;
    takes = sym (takes_none (entered_takes vs σ β.entered)) i;
    defaults = sym (takes_none (depth_takes vs σ β.depths)) i;
  }

  marked_one : (es : List Entry) (l : ℕ) (r : Ref) (i : ℕ) → marked σ (es ++ record { label = l; under = r } ∷ []) i ≡ (marked σ es i || ((l == i) && truth σ r))
  unfolding marked
  marked_one es l r i = marked_both σ es (record { label = l; under = r } ∷ []) i ∙ ap (λ b. marked σ es i || b) (or_false ((l == i) && truth σ r))

  swap_last : (a b c : Bool) → ((a || b) || c) ≡ ((a || c) || b)
  swap_last true b c = refl
  swap_last false true true = refl
  swap_last false true false = refl
  swap_last false false true = refl
  swap_last false false false = refl

  pub trail_enter : (l : ℕ) (r : Ref) (β : Builder) → trail vs σ (enter l r β) ≡ plus (trail vs σ β) (record no_trail { marks = mark l (truth σ r) })
  unfolding enter trail
  trail_enter l r β = λ i. record {
    acts = sym (append-nil (acted vs σ β.writes)) i;
    faults = sym (append-nil (raised σ β.monitors)) i;
    met = sym (append-nil (met_by σ β.scopes)) i;
    marks = λ j. (ap (λ x. x || (now σ j && marked σ β.stays j)) (marked_one β.entries l r j) ∙ swap_last (marked σ β.entries j) ((l == j) && truth σ r) (now σ j && marked σ β.stays j)) i;
    takes = sym (takes_none (entered_takes vs σ β.entered)) i;
    defaults = sym (takes_none (depth_takes vs σ β.depths)) i;
  }

  -- a label of now is one that stays
  stays_at : (m : Marks) (l j : ℕ) (a b : Bool) → (m j && (a || ((l == j) && b))) ≡ ((m j && a) || ((l == j) && (m l && b)))
  stays_at m l j a b = at (l == j) refl
    where
      same : (x y : Bool) → (x && (a || y)) ≡ ((x && a) || (x && y))
      same true y = refl
      same false y = refl

      at : (e : Bool) → (l == j) ≡ e → (m j && (a || (e && b))) ≡ ((m j && a) || (e && (m l && b)))
      at true e = let f : l ≡ j = grind (arith, nat_tests, e) in same (m j) b ∙ ap (λ x. (m j && a) || (m x && b)) (sym f)
      at false e = ap (λ x. m j && x) (or_false a) ∙ sym (or_false (m j && a))

  pub trail_stay : (l : ℕ) (r : Ref) (β : Builder) → trail vs σ (stay_at l r β) ≡ plus (trail vs σ β) (record no_trail { marks = mark l (now σ l && truth σ r) })
  unfolding stay_at trail
  trail_stay l r β = λ i. record {
    acts = sym (append-nil (acted vs σ β.writes)) i;
    faults = sym (append-nil (raised σ β.monitors)) i;
    met = sym (append-nil (met_by σ β.scopes)) i;
    marks = λ j. (ap (λ x. marked σ β.entries j || (now σ j && x)) (marked_one β.stays l r j)
        ∙ ap (λ x. marked σ β.entries j || x) (stays_at (now σ) l j (marked σ β.stays j) (truth σ r))
        ∙ sym (or_assoc (marked σ β.entries j) (now σ j && marked σ β.stays j) ((l == j) && (now σ l && truth σ r)))) i;
    takes = sym (takes_none (entered_takes vs σ β.entered)) i;
    defaults = sym (takes_none (depth_takes vs σ β.depths)) i;
  }

-- ---- what leaves the copies of scopes as they are

pub enter_settled : (vs : Vars) (σ : Assignment) (l : ℕ) (r : Ref) (β : Builder) → Settles vs σ β (enter l r β)
unfolding enter
enter_settled vs σ l r β q = q

pub stay_settled : (vs : Vars) (σ : Assignment) (l : ℕ) (r : Ref) (β : Builder) → Settles vs σ β (stay_at l r β)
unfolding stay_at
stay_settled vs σ l r β q = q

pub act_settled : (vs : Vars) (σ : Assignment) (a : Action) (β : Builder) → Settles vs σ β (act a β)
unfolding act
act_settled vs σ a β q = q
