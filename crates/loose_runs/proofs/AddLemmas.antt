-- What a statement adds to a builder: actions on current copies, and monitors on conflicts of copies that are closed.
use Rattle.std.proofs.Common.{◌≡◌, ◌⊎◌, inl, inr, ℕ, zero, suc, ◌+◌, ◌≤◌, ◌<◌, ◌==◌, Bool, true, false, List, [], ◌∷◌, ◌++◌, length, Option, Some, refl, sym, ap, ◌∙◌, subst, arith, append-nil, append_assoc}
use Rattle.std.specs.Prelude.{slice_get, if◌then◌else◌}
use Rattle.quartz_tree.specs.declared.place.Place.{Place}
use Rattle.quartz_tree.specs.declared.fault.Kind.TheVariants.{Conflict}
use Rattle.quartz_tree.specs.Tree.{Tree as Expr}
use Rattle.quartz_expr.specs.Vars.{Vars, count_of}
use Rattle.quartz_expr.specs.Terms.{Term}
use Rattle.quartz_expr.specs.Steps.{outputs_of}
use Rattle.aif_cells.specs.declared.reference.Ref.{Ref}
use Rattle.aif_cells.specs.declared.cells.Action.{Action}
use Rattle.aif_cells.specs.declared.cells.Made.{Made as MadeCopy}
use Rattle.aif_cells.specs.declared.cells.Monitor.{Monitor}
use Rattle.aif_cells.specs.Tree.{Tree, value}
use Rattle.aif_cells.specs.Built.{Defined}
use Rattle.absence_reaction.specs.declared.copy.VarCopy.{VarCopy}
use Rattle.reincarnation.specs.declared.copy.ClosedRefs.{ClosedRefs}
use Rattle.statement_cells.specs.Labels.{is_delayed, shape_in}
use Rattle.statement_cells.specs.Expressions.{Copies, copy_of, element_tests, range_tests, target_tests, tests_of, fitted_tree}
use Rattle.statement_cells.specs.Builder.{Builder, DepthCopy, EnteredCopy, act, cell_of, watch, zero_ref}
use Rattle.statement_cells.specs.Surface.{index_of, written}
use Rattle.statement_cells.specs.Walk.{ref_at}
use Rattle.statement_cells.specs.Whole.{ClosedOutput, first_output, variable_registers}
use Rattle.statement_cells.proofs.GrowLemmas.{HasTree}
use Rattle.write_conflicts.specs.Loose.{is_stored}
use Rattle.loose_runs.proofs.CopyLemmas.{CopySite, of_now, of_next, AllOf}
use Rattle.loose_runs.proofs.ListLemmas.{AreOf, Drawn, IsQuiet, drawn_all, drawn_both, drawn_front, no_more, quiet_first, quiet_second}
use Rattle.loose_runs.proofs.StillLemmas.{NoConflicts, Still, cell_still, index_still, other_both, other_element, other_range, other_target, other_tests, still, then_still, watch_still}

-- ---- copies with registers

-- a copy with store of that variable, whose registers begin there
abbrev pub Among : (var first : ℕ) → List DepthCopy → Type 0
Among x v [] = ⊥
Among x v (d ∷ ds) = ((d.var ≡ x) × (d.first ≡ v)) ⊎ Among x v ds

pub among_front : (x v : ℕ) (ds es : List DepthCopy) → Among x v ds → Among x v (ds ++ es)
among_front x v [] es h = absurd h
among_front x v (d ∷ ds) es (inl h) = inl h
among_front x v (d ∷ ds) es (inr h) = inr (among_front x v ds es h)

pub among_last : (x v : ℕ) (ds : List DepthCopy) (d : DepthCopy) → d.var ≡ x → d.first ≡ v → Among x v (ds ++ d ∷ [])
among_last x v [] d e f = inl (e, f)
among_last x v (b ∷ ds) d e f = inr (among_last x v ds d e f)

-- an output of that variable, whose registers begin there
abbrev pub OutAt : Vars → List ℕ → (first : ℕ) → (x' v' : ℕ) → Type 0
OutAt vs [] v x' v' = ⊥
OutAt vs (x ∷ xs) v x' v' = ((x' ≡ x) × (v' ≡ v)) ⊎ OutAt vs xs (v + variable_registers vs x) x' v'

-- an output of the module is that variable, and its registers begin there
abbrev pub OutputHere : Vars → Term → (x' v' : ℕ) → Type 0
OutputHere vs t = OutAt vs (outputs_of vs) (first_output t)

-- no flag is written
abbrev pub NoFlags : ClosedRefs → Type 0
NoFlags c = (j : ℕ) → ref_at c.flags j ≡ zero_ref

-- so in all copies of a variable
abbrev pub EnteredFree : (var : ℕ) → List EnteredCopy → Type 0
EnteredFree x [] = Unit {0}
EnteredFree x (e ∷ es) = (e.var ≡ x → NoFlags e.entered.closed) × EnteredFree x es

abbrev pub DepthsFree : (var : ℕ) → List DepthCopy → Type 0
DepthsFree x [] = Unit {0}
DepthsFree x (d ∷ ds) = (d.var ≡ x → NoFlags d.closed) × DepthsFree x ds

abbrev pub OutputsFree : (var : ℕ) → List ClosedOutput → Type 0
OutputsFree x [] = Unit {0}
OutputsFree x (o ∷ os) = (o.var ≡ x → NoFlags o.closed) × OutputsFree x os

pub entered_free : (x : ℕ) (es fs : List EnteredCopy) → EnteredFree x es → EnteredFree x fs → EnteredFree x (es ++ fs)
entered_free x [] fs g h = h
entered_free x (e ∷ es) fs g h = (g.0, entered_free x es fs g.1 h)

pub depths_free : (x : ℕ) (ds fs : List DepthCopy) → DepthsFree x ds → DepthsFree x fs → DepthsFree x (ds ++ fs)
depths_free x [] fs g h = h
depths_free x (d ∷ ds) fs g h = (g.0, depths_free x ds fs g.1 h)

-- ---- copies that were made

pub stored_front : (x c : ℕ) (ms ns : List MadeCopy) → is_stored ms x c ≡ true → is_stored (ms ++ ns) x c ≡ true
stored_front x c [] ns e = absurd (cc)
stored_front x zero (m ∷ ms) ns e = by (m.var == x) e (stored_front x zero ms ns)
  where
    by : (b : Bool) → (if b then m.stored else is_stored ms x zero) ≡ true → (is_stored ms x zero ≡ true → is_stored (ms ++ ns) x zero ≡ true) → (if b then m.stored else is_stored (ms ++ ns) x zero) ≡ true
    by true e f = e
    by false e f = f e
stored_front x (suc c) (m ∷ ms) ns e = by (m.var == x) e (stored_front x c ms ns) (stored_front x (suc c) ms ns)
  where
    by : (b : Bool) → (if b then is_stored ms x c else is_stored ms x (suc c)) ≡ true → (is_stored ms x c ≡ true → is_stored (ms ++ ns) x c ≡ true) → (is_stored ms x (suc c) ≡ true → is_stored (ms ++ ns) x (suc c) ≡ true) → (if b then is_stored (ms ++ ns) x c else is_stored (ms ++ ns) x (suc c)) ≡ true
    by true e f g = f e
    by false e f g = g e

-- ---- what is added

-- each action writes the current copy of its variable
abbrev pub AreCurrent : Copies → List Action → Type 0
AreCurrent κ [] = Unit {0}
AreCurrent κ (a ∷ l) = (a.copy ≡ copy_of κ a.var) × AreCurrent κ l

pub current_both : (κ : Copies) (l m : List Action) → AreCurrent κ l → AreCurrent κ m → AreCurrent κ (l ++ m)
current_both κ [] m g h = h
current_both κ (a ∷ l) m g h = (g.0, current_both κ l m g.1 h)

module _ (vs : Vars) (O : ℕ → ℕ → Type 0) where
  -- what a builder says of a copy: its actions, whether it has a store, and that its registers begin at those of an output or of
  -- a scope's copy
  pub record Known (γ : Builder) (x : ℕ) (c : VarCopy) : Type 0 where
    pub known : x < length vs
    pub count : length c.values ≡ count_of vs x
    pub now : Drawn c.now γ.actions
    pub next : Drawn c.next γ.actions
    pub nows : AreOf x c.copy false c.now
    pub nexts : AreOf x c.copy true c.next
    pub stored : c.stored ≡ true → is_stored γ.made x c.copy ≡ true
    pub placed : c.stored ≡ true → is_delayed vs x ≡ true → 0 < count_of vs x → O x c.first ⊎ Among x c.first γ.depths

  -- a monitor on a conflict of a copy
  pub record Site (B : ℕ → Type 0) (γ : Builder) (m : Monitor) : Type 0 where
    pub var : ℕ
    pub copy : VarCopy
    pub here : CopySite (shape_in vs var) copy B γ.cells m
    pub known : Known γ var copy

  -- each monitor on a conflict is one
  abbrev pub Sited : (ℕ → Type 0) → Builder → Monitor → Type 0
  Sited B γ m = m.kind ≡ Conflict → Site B γ m

  abbrev pub AllSited : (ℕ → Type 0) → Builder → List Monitor → Type 0
  AllSited B γ ms = AllOf (Sited B γ) ms

  pub sited_both : (B : ℕ → Type 0) (γ : Builder) (ms ns : List Monitor) → AllSited B γ ms → AllSited B γ ns → AllSited B γ (ms ++ ns)
  sited_both B γ [] ns g h = h
  sited_both B γ (m ∷ ms) ns g h = (g.0, sited_both B γ ms ns g.1 h)

  pub sited_fine : (B : ℕ → Type 0) (γ : Builder) (ms : List Monitor) → NoConflicts ms → AllSited B γ ms
  sited_fine B γ [] h = tt
  sited_fine B γ (m ∷ ms) h = (λ e. absurd (h.0 e), sited_fine B γ ms h.1)

  -- a later builder keeps the cells in question, and has the actions and copies
  pub record Later (B : ℕ → Type 0) (γ δ : Builder) : Type 0 where
    pub kept : (k : ℕ) (c : Defined) → B k → slice_get γ.cells k ≡ Some c → slice_get δ.cells k ≡ Some c
    pub more_actions : List Action
    pub actions : δ.actions ≡ γ.actions ++ more_actions
    pub more_made : List MadeCopy
    pub made : δ.made ≡ γ.made ++ more_made
    pub depths : (x v : ℕ) → Among x v γ.depths → Among x v δ.depths

  module _ (B D : ℕ → Type 0) (wider : (k : ℕ) → B k → D k) (γ δ : Builder) (l : Later B γ δ) where
    tree_later : (k : ℕ) (t : Tree) → B k → HasTree γ.cells k t → HasTree δ.cells k t
    tree_later k t b h = record { place = h.place; is = l.kept k (record { tree = t; place = h.place }) b h.is }

    here_later : (x : ℕ) (c : VarCopy) (m : Monitor) → CopySite (shape_in vs x) c B γ.cells m → CopySite (shape_in vs x) c D δ.cells m
    here_later x c m (of_now j k p less bk bm t u) = of_now j k p less (wider k bk) (wider m.cell bm) (tree_later k _ bk t) (tree_later m.cell _ bm u)
    here_later x c m (of_next j k p less bk bm t u) = of_next j k p less (wider k bk) (wider m.cell bm) (tree_later k _ bk t) (tree_later m.cell _ bm u)

    known_later : (x : ℕ) (c : VarCopy) → Known γ x c → Known δ x c
    known_later x c h = record {
      known = h.known;
      count = h.count;
      now = subst (Drawn c.now) (sym l.actions) (drawn_front c.now γ.actions l.more_actions h.now);
      next = subst (Drawn c.next) (sym l.actions) (drawn_front c.next γ.actions l.more_actions h.next);
      nows = h.nows;
      nexts = h.nexts;
      stored = λ e. ap (λ ms. is_stored ms x c.copy) l.made ∙ stored_front x c.copy γ.made l.more_made (h.stored e);
      placed = λ e f n. by (h.placed e f n);
    }
      where
        by : O x c.first ⊎ Among x c.first γ.depths → O x c.first ⊎ Among x c.first δ.depths
        by (inl o) = inl o
        by (inr a) = inr (l.depths x c.first a)

    pub sited_later : (ms : List Monitor) → AllSited B γ ms → AllSited D δ ms
    sited_later [] h = tt
    sited_later (m ∷ ms) h = (λ e. let s = h.0 e in record { var = s.var; copy = s.copy; here = here_later s.var s.copy m s.here; known = known_later s.var s.copy s.known }, sited_later ms h.1)

  -- cells from a number on
  abbrev pub From : (n : ℕ) → ℕ → Type 0
  From n k = n ≤ k

  -- what is added for a statement with these current copies
  pub record Adds (κ : Copies) (before after : Builder) : Type 0 where
    pub longer : length before.cells ≤ length after.cells
    pub kept : (k : ℕ) (c : Defined) → slice_get before.cells k ≡ Some c → slice_get after.cells k ≡ Some c
    pub actions : List Action
    pub actions_are : after.actions ≡ before.actions ++ actions
    pub made : List MadeCopy
    pub made_are : after.made ≡ before.made ++ made
    pub writes : List Action
    pub writes_are : after.writes ≡ before.writes ++ writes
    pub drawn : Drawn writes actions
    pub current : AreCurrent κ writes
    pub monitors : List Monitor
    pub monitors_are : after.monitors ≡ before.monitors ++ monitors
    pub sited : AllSited (From (length before.cells)) after monitors
    pub entered : (x : ℕ) → IsQuiet x actions → EnteredFree x before.entered → EnteredFree x after.entered
    pub depths : (x : ℕ) → IsQuiet x actions → DepthsFree x before.depths → DepthsFree x after.depths
    pub among : (x v : ℕ) → Among x v before.depths → Among x v after.depths

  abbrev pub of_still : (κ : Copies) {β γ : Builder} → Still β γ → Adds κ β γ
  of_still κ {β = β} {γ = γ} g = record {
    longer = g.longer;
    kept = g.kept;
    actions = [];
    actions_are = g.actions ∙ sym (append-nil β.actions);
    made = [];
    made_are = g.made ∙ sym (append-nil β.made);
    writes = [];
    writes_are = g.writes ∙ sym (append-nil β.writes);
    drawn = no_more;
    current = tt;
    monitors = g.more;
    monitors_are = g.monitors;
    sited = sited_fine (From (length β.cells)) γ g.more g.fine;
    entered = λ x q h. subst (EnteredFree x) (sym g.entered) h;
    depths = λ x q h. subst (DepthsFree x) (sym g.depths) h;
    among = λ x v h. subst (Among x v) (sym g.depths) h;
  }

  pub unchanged : (κ : Copies) (β : Builder) → Adds κ β β
  unchanged κ β = of_still κ (still β)

  abbrev pub follow : (κ : Copies) {a b c : Builder} → Adds κ a b → Adds κ b c → Adds κ a c
  follow κ {a = a} {b = b} {c = c} g h =
      let l : Later (From (length a.cells)) b c = record { kept = λ k d _ e. h.kept k d e; more_actions = h.actions; actions = h.actions_are; more_made = h.made; made = h.made_are; depths = h.among } in
      let same : Later (From (length b.cells)) c c = record { kept = λ k d _ e. e; more_actions = []; actions = sym (append-nil c.actions); more_made = []; made = sym (append-nil c.made); depths = λ x v w. w } in
      let le = g.longer in
      record {
        longer = omega (arith, g.longer, h.longer);
        kept = λ k d e. h.kept k d (g.kept k d e);
        actions = g.actions ++ h.actions;
        actions_are = h.actions_are ∙ ap (λ l. l ++ h.actions) g.actions_are ∙ append_assoc a.actions g.actions h.actions;
        made = g.made ++ h.made;
        made_are = h.made_are ∙ ap (λ l. l ++ h.made) g.made_are ∙ append_assoc a.made g.made h.made;
        writes = g.writes ++ h.writes;
        writes_are = h.writes_are ∙ ap (λ l. l ++ h.writes) g.writes_are ∙ append_assoc a.writes g.writes h.writes;
        drawn = drawn_both g.writes h.writes g.actions h.actions g.drawn h.drawn;
        current = current_both κ g.writes h.writes g.current h.current;
        monitors = g.monitors ++ h.monitors;
        monitors_are = h.monitors_are ∙ ap (λ l. l ++ h.monitors) g.monitors_are ∙ append_assoc a.monitors g.monitors h.monitors;
        sited = sited_both (From (length a.cells)) c g.monitors h.monitors
            (sited_later (From (length a.cells)) (From (length a.cells)) (λ k e. e) b c l g.monitors g.sited)
            (sited_later (From (length b.cells)) (From (length a.cells)) (λ k e. omega (arith, e, le)) c c same h.monitors h.sited);
        entered = λ x q w. h.entered x (quiet_second x g.actions h.actions q) (g.entered x (quiet_first x g.actions h.actions q) w);
        depths = λ x q w. h.depths x (quiet_second x g.actions h.actions q) (g.depths x (quiet_first x g.actions h.actions q) w);
        among = λ x v w. h.among x v (g.among x v w);
      }

  -- ---- writes

  act_adds : (κ : Copies) (a : Action) (β : Builder) → a.copy ≡ copy_of κ a.var → Adds κ β (act a β)
  unfolding act
  act_adds κ a β e = record {
    longer = omega arith;
    kept = λ k c h. h;
    actions = a ∷ [];
    actions_are = refl;
    made = [];
    made_are = sym (append-nil β.made);
    writes = a ∷ [];
    writes_are = refl;
    drawn = drawn_all (a ∷ []);
    current = (e, tt);
    monitors = [];
    monitors_are = sym (append-nil β.monitors);
    sited = tt;
    entered = λ x q h. h;
    depths = λ x q h. h;
    among = λ x v h. h;
  }

  pub written_adds : (κ : Copies) (x : ℕ) (i : Option (Expr ℕ)) (e : Expr ℕ) (d : Bool) (p q : Place) (go : Ref) (β : Builder) → Adds κ β (written vs κ x i e d p q go β)
  unfolding written
  written_adds κ x i e d p q go β =
      let g = value go in
      let tests = target_tests vs κ g i ++ tests_of vs κ g e in
      let b1 = watch tests β in
      let index = index_of vs κ i b1 in
      let more = element_tests vs κ g x i q ++ range_tests vs κ g x e p in
      let b2 = watch more index.built in
      let v = cell_of (fitted_tree vs κ x e) b2 in
      follow κ (of_still κ (then_still (watch_still tests β (other_both (target_tests vs κ g i) (tests_of vs κ g e) (other_target vs κ g i) (other_tests vs κ e g)))
      (then_still (index_still vs κ i b1) (then_still (watch_still more index.built (other_both (element_tests vs κ g x i q) (range_tests vs κ g x e p) (other_element vs κ g x i q) (other_range vs κ g x e p)))
      (cell_still (fitted_tree vs κ x e) b2)))))
      (act_adds κ (record { guard = go; var = x; copy = copy_of κ x; index = index.ref; value = v.ref; delayed = d; place = p }) v.built refl)
