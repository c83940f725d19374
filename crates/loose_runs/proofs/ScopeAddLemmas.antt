-- What a scope adds: its copy is closed.
use Rattle.std.proofs.Common.{◌≡◌, ◌⊎◌, inr, ℕ, zero, suc, ◌+◌, ◌*◌, ◌≤◌, ◌<◌, ◌==◌, ◌&&◌, Bool, true, false, cond, List, [], ◌∷◌, ◌++◌, length, map, Some, refl, sym, ap, ◌∙◌, subst, arith, append-nil, append_assoc}
use Rattle.std.specs.Prelude.{slice_get, slice_set, replicate, if◌then◌else◌}
use Rattle.std.proofs.lemmas.Bool.Decides.{nat_tests}
use Rattle.std.proofs.lemmas.List.Sums.{sum_by-cons}
use Rattle.std.proofs.Math.Nat.{mul-le-mul_right}
use Rattle.quartz_expr.specs.Vars.{Vars, count_of, declared_at}
use Rattle.quartz_expr.specs.Resolve.{same_bool}
use Rattle.aif_cells.specs.declared.reference.Ref.{Ref}
use Rattle.aif_cells.specs.declared.reference.Ref.TheVariants as ref
use Rattle.aif_cells.specs.declared.cells.Action.{Action}
use Rattle.aif_cells.specs.declared.cells.Made.{Made as MadeCopy}
use Rattle.aif_cells.specs.declared.cells.Monitor.{Monitor}
use Rattle.aif_cells.specs.Built.{Defined}
use Rattle.aif_cells.proofs.SolutionLemmas.{there}
use Rattle.absence_reaction.specs.declared.copy.VarCopy.{VarCopy}
use Rattle.absence_reaction.specs.declared.copy.Shape.{Shape}
use Rattle.absence_reaction.specs.Closing.{Built, Copy, arms_for, closed_copy, closed_element, closed_from, flag_made, one_if, registers_each}
use Rattle.absence_reaction.specs.Meaning.{AreDistinctBelow, Keeps, is_among}
use Rattle.absence_reaction.proofs.CopyMeaning.{closing_keeps, valued}
use Rattle.reincarnation.specs.declared.copy.ClosedRefs.{ClosedRefs}
use Rattle.reincarnation.specs.Entering.{copies_of, numbers_from, reserved}
use Rattle.statement_cells.specs.Labels.{is_delayed, scope_registers, shape_in}
use Rattle.statement_cells.specs.Expressions.{Copies, copy_of}
use Rattle.statement_cells.specs.declared.current.Current.{Current}
use Rattle.statement_cells.specs.Builder.{Activity, Builder, Closed, Made, action_if, and_of, built_of, close_scope, closed_refs, copy_at, entering, keep_depth, keep_entered, new_cells, not_of, reserve, resumed, started, writes_to, writes_to_others, zero_ref}
use Rattle.statement_cells.specs.Surface.{scope_resumed, scope_started}
use Rattle.statement_cells.specs.Walk.{ref_at}
use Rattle.statement_cells.proofs.GrowLemmas.{get_front}
use Rattle.statement_cells.proofs.ScopeEndLemmas.{started_is, started_with}
use Rattle.statement_cells.proofs.ScopeGrowLemmas.{among_numbers, below_numbers, is_not, length_numbers, reserve_longer}
use Rattle.write_conflicts.specs.Loose.{is_stored}
use Rattle.loose_runs.proofs.AddLemmas.{Adds, AllSited, Among, AreCurrent, DepthsFree, EnteredFree, From, Known, Later, NoFlags, among_front, among_last, depths_free, entered_free, follow, of_still, sited_both, sited_later, stored_front}
use Rattle.loose_runs.proofs.CopyLemmas.{AddedAll, AllOf, CopySite, copy_sites}
use Rattle.loose_runs.proofs.ListLemmas.{AreOf, Drawn, IsQuiet, drawn_back, drawn_others, drawn_to, drawn_twice, quiet_drawn, quiet_first, quiet_next}
use Rattle.loose_runs.proofs.StillLemmas.{Still, and_still, not_still, then_still}
use Rattle.statement_cells.proofs.ScopeEnvLemmas.{length_set}

-- ---- current copies

copy_there : (κ : Copies) (x : ℕ) (d : Current) → x < length κ → copy_of (slice_set κ x d) x ≡ d.copy
copy_there [] x d l = absurd (omega (arith, l))
copy_there (c ∷ κ) zero d l = refl
copy_there (c ∷ κ) (suc x) d l = copy_there κ x d (omega (arith, l))

copy_other : (κ : Copies) (x y : ℕ) (d : Current) → (y == x) ≡ false → copy_of (slice_set κ x d) y ≡ copy_of κ y
copy_other [] x y d e = refl
copy_other (c ∷ κ) zero zero d e = absurd (cc)
copy_other (c ∷ κ) zero (suc y) d e = refl
copy_other (c ∷ κ) (suc x) zero d e = refl
copy_other (c ∷ κ) (suc x) (suc y) d e = copy_other κ x y d (below x y e)
  where
    below : (x y : ℕ) → (suc y == suc x) ≡ false → (y == x) ≡ false
    below x y e = grind (arith, nat_tests, e)

same_number : (a b : ℕ) → (a == b) ≡ true → a ≡ b
same_number a b e = grind (arith, nat_tests, e)

pub self_number : (a : ℕ) → (a == a) ≡ true
self_number a = grind (arith, nat_tests)

same_sign : (a b : Bool) → same_bool a b ≡ true → a ≡ b
same_sign true true e = refl
same_sign true false e = absurd (cc)
same_sign false true e = absurd (cc)
same_sign false false e = refl

-- the writes of a variable are of its current copy
pub writes_are : (κ : Copies) (x n : ℕ) (d : Bool) (ws : List Action) → AreCurrent κ ws → copy_of κ x ≡ n → AreOf x n d (writes_to x d ws)
writes_are κ x n d [] h e = tt
writes_are κ x n d (a ∷ ws) h e = by (a.var == x) refl (same_bool a.delayed d) refl (writes_are κ x n d ws h.1 e)
  where
    by : (b : Bool) → (a.var == x) ≡ b → (q : Bool) → same_bool a.delayed d ≡ q → AreOf x n d (writes_to x d ws) → AreOf x n d (action_if (b && q) a (writes_to x d ws))
    by true f true g r = (same_number a.var x f, h.0 ∙ ap (copy_of κ) (same_number a.var x f) ∙ e, same_sign a.delayed d g, r)
    by true f false g r = r
    by false f q g r = r

others_current : (κ κ' : Copies) (x : ℕ) (ws : List Action) → ((y : ℕ) → (y == x) ≡ false → copy_of κ' y ≡ copy_of κ y) → AreCurrent κ' ws → AreCurrent κ (writes_to_others x ws)
others_current κ κ' x [] f h = tt
others_current κ κ' x (a ∷ ws) f h = by (a.var == x) refl (others_current κ κ' x ws f h.1)
  where
    by : (b : Bool) → (a.var == x) ≡ b → AreCurrent κ (writes_to_others x ws) → AreCurrent κ (if b then writes_to_others x ws else a ∷ writes_to_others x ws)
    by true e r = r
    by false e r = (h.0 ∙ f a.var e, r)

-- ---- the copy that is made next

skipped : (m : MadeCopy) (ms : List MadeCopy) (x c : ℕ) → (m.var == x) ≡ false → is_stored (m ∷ ms) x c ≡ is_stored ms x c
skipped m ms x zero e = ap (λ b. if b then m.stored else is_stored ms x zero) e
skipped m ms x (suc c) e = ap (λ b. if b then is_stored ms x c else is_stored ms x (suc c)) e

last_stored : (ms : List MadeCopy) (x : ℕ) (b : Bool) → is_stored (ms ++ record { var = x; stored = b } ∷ []) x (copies_of x ms) ≡ b
last_stored [] x b = ap (λ t. if t then b else false) (self_number x)
last_stored (m ∷ ms) x b = by (m.var == x) refl (last_stored ms x b)
  where
    all : List MadeCopy
    all = ms ++ record { var = x; stored = b } ∷ []

    by : (t : Bool) → (m.var == x) ≡ t → is_stored all x (copies_of x ms) ≡ b → is_stored (m ∷ all) x (copies_of x (m ∷ ms)) ≡ b
    by true e f =
        let more : 1 + copies_of x ms ≡ suc (copies_of x ms) = omega arith in
        let count : copies_of x (m ∷ ms) ≡ suc (copies_of x ms) = sum_by-cons (λ (k : MadeCopy). cond (k.var == x) 1 0) m ms ∙ ap (λ t. cond t 1 0 + copies_of x ms) e ∙ more in
        ap (is_stored (m ∷ all) x) count ∙ ap (λ t. if t then is_stored all x (copies_of x ms) else is_stored all x (suc (copies_of x ms))) e ∙ f
    by false e f =
        let same : 0 + copies_of x ms ≡ copies_of x ms = omega arith in
        let count : copies_of x (m ∷ ms) ≡ copies_of x ms = sum_by-cons (λ (k : MadeCopy). cond (k.var == x) 1 0) m ms ∙ ap (λ t. cond t 1 0 + copies_of x ms) e ∙ same in
        ap (is_stored (m ∷ all) x) count ∙ skipped m all x (copies_of x ms) e ∙ f

-- ---- the flags of a copy that no delayed action writes

flag_none : (s : Shape) (c : VarCopy) (j : ℕ) (cs : List Defined) → c.next ≡ [] → (flag_made s.place (arms_for j c.next) cs).ref ≡ zero_ref
flag_none s c j cs e = ap (λ l. (flag_made s.place (arms_for j l) cs).ref) e

flags_none : (s : Shape) (c : VarCopy) (j : ℕ) (ks : List ℕ) (β : Built) → c.next ≡ [] → (i : ℕ) → ref_at (closed_from s c j ks β).flags i ≡ zero_ref
flags_none s c j [] β e i = refl
flags_none s c j (k ∷ ks) β e zero = flag_none s c j (valued s c j k β) e
flags_none s c j (k ∷ ks) β e (suc i) = flags_none s c (j + 1) ks (closed_element s c j k β).built e i

pub copy_quiet : (s : Shape) (c : VarCopy) (β : Built) → c.next ≡ [] → NoFlags (closed_refs (closed_copy s c β))
copy_quiet s c β e i = flags_none s c 0 c.values β e i

pub distinct_numbers : (m f n : ℕ) → f + n ≤ m → AreDistinctBelow m (numbers_from f n)
distinct_numbers m f zero h = tt
distinct_numbers m f (suc n) h = (omega (arith, h), below_numbers (f + 1) n f (omega arith), distinct_numbers m (f + 1) n (omega (arith, h)))

-- ---- closing

module _ (vs : Vars) (O : ℕ → ℕ → Type 0) where
  -- monitors of a copy are sites
  pub copies_sited : (B : ℕ → Type 0) (γ : Builder) (x : ℕ) (c : VarCopy) (ms : List Monitor) → Known vs O γ x c → AllOf (CopySite (shape_in vs x) c B γ.cells) ms → AllSited vs O B γ ms
  copies_sited B γ x c [] k h = tt
  copies_sited B γ x c (m ∷ ms) k h = (λ e. record { var = x; copy = c; here = h.0; known = k }, copies_sited B γ x c ms k h.1)

  -- reserving
  record Reserved (x : ℕ) (stored : Bool) (β : Builder) : Type 0 where
    actions : (reserve vs x stored β).actions ≡ β.actions
    made : (reserve vs x stored β).made ≡ β.made ++ record { var = x; stored = stored } ∷ []
    writes : (reserve vs x stored β).writes ≡ []
    monitors : (reserve vs x stored β).monitors ≡ β.monitors
    entered : (reserve vs x stored β).entered ≡ β.entered
    depths : (reserve vs x stored β).depths ≡ β.depths
    kept : (k : ℕ) (d : Defined) → slice_get β.cells k ≡ Some d → slice_get (reserve vs x stored β).cells k ≡ Some d

  reserving : (x : ℕ) (stored : Bool) (β : Builder) → Reserved x stored β
  unfolding reserve
  reserving x stored β = record {
    actions = refl;
    made = refl;
    writes = refl;
    monitors = refl;
    entered = refl;
    depths = refl;
    kept = λ k d e. get_front β.cells (replicate (count_of vs x) (reserved (declared_at vs x))) k d e;
  }

  -- what a scope adds, and that without delayed actions its copy has no flags
  pub record Starting (κ : Copies) (β γ : Builder) (x : ℕ) (c : ClosedRefs) : Type 0 where
    pub adds : Adds vs O κ β γ
    pub quiet : IsQuiet x adds.actions → NoFlags c

  -- a builder that closed the copy, with more copies with registers
  pub record IsClosing (x : ℕ) (stored : Bool) (v : ℕ) (β inner γ : Builder) : Type 0 where
    pub cells : γ.cells ≡ (closed_copy (shape_in vs x) (copy_at vs x stored v β inner) (built_of inner)).built.cells
    pub monitors : γ.monitors ≡ (closed_copy (shape_in vs x) (copy_at vs x stored v β inner) (built_of inner)).built.monitors
    pub actions : γ.actions ≡ inner.actions
    pub made : γ.made ≡ inner.made
    pub writes : γ.writes ≡ β.writes ++ writes_to_others x inner.writes
    pub placed : stored ≡ true → is_delayed vs x ≡ true → 0 < count_of vs x → O x v ⊎ Among x v γ.depths
    pub entered : (y : ℕ) → EnteredFree y inner.entered → EnteredFree y γ.entered
    pub depths : (y : ℕ) → (x ≡ y → NoFlags (closed_refs (closed_copy (shape_in vs x) (copy_at vs x stored v β inner) (built_of inner)))) → DepthsFree y inner.depths → DepthsFree y γ.depths
    pub among : (y u : ℕ) → Among y u inner.depths → Among y u γ.depths

  module _ (κ : Copies) (size : length κ ≡ length vs) (x : ℕ) (less : x < length vs) (stored : Bool) (v : ℕ) (β inner γ : Builder) (g : Adds vs O (entering vs x κ β) (reserve vs x stored β) inner) (is : IsClosing x stored v β inner γ) where
    abbrev its : VarCopy
    its = copy_at vs x stored v β inner

    abbrev closed : Copy
    closed = closed_copy (shape_in vs x) its (built_of inner)

    abbrev given : Current
    given = record { copy = copies_of x β.made; values = map ref.Cell (new_cells vs x β) }

    r : Reserved x stored β
    r = reserving x stored β

    keeps : Keeps its (built_of inner) closed.built
    keeps = closing_keeps (shape_in vs x) its (built_of inner)

    same_writes : inner.writes ≡ g.writes
    same_writes = g.writes_are ∙ ap (λ l. l ++ g.writes) r.writes

    its_current : AreCurrent (entering vs x κ β) inner.writes
    its_current = subst (AreCurrent (entering vs x κ β)) (sym same_writes) g.current

    its_drawn : Drawn inner.writes g.actions
    its_drawn = subst (λ l. Drawn l g.actions) (sym same_writes) g.drawn

    actions_here : γ.actions ≡ β.actions ++ g.actions
    actions_here = is.actions ∙ g.actions_are ∙ ap (λ l. l ++ g.actions) r.actions

    made_here : γ.made ≡ (β.made ++ record { var = x; stored = stored } ∷ []) ++ g.made
    made_here = is.made ∙ g.made_are ∙ ap (λ l. l ++ g.made) r.made

    drawn_here : (d : Bool) → Drawn (writes_to x d inner.writes) γ.actions
    drawn_here d = subst (Drawn (writes_to x d inner.writes)) (sym actions_here) (drawn_back (writes_to x d inner.writes) β.actions g.actions (drawn_twice (writes_to x d inner.writes) inner.writes g.actions (drawn_to x d inner.writes) its_drawn))

    of_it : (d : Bool) → AreOf x (copies_of x β.made) d (writes_to x d inner.writes)
    of_it d = writes_are (entering vs x κ β) x (copies_of x β.made) d inner.writes its_current (copy_there κ x given (omega (arith, less, size)))

    known_here : Known vs O γ x its
    known_here = record {
      known = less;
      count = length_numbers (length β.cells) (count_of vs x);
      now = drawn_here false;
      next = drawn_here true;
      nows = of_it false;
      nexts = of_it true;
      stored = λ e. ap (λ ms. is_stored ms x (copies_of x β.made)) made_here ∙ stored_front x (copies_of x β.made) (β.made ++ record { var = x; stored = stored } ∷ []) g.made (last_stored β.made x stored ∙ e);
      placed = is.placed;
    }

    wide_inner : length β.cells + count_of vs x ≤ length inner.cells
    wide_inner = omega (arith, g.longer, reserve_longer vs x stored β)

    closed_kept : (k : ℕ) (d : Defined) → is_among k its.values ≡ false → slice_get inner.cells k ≡ Some d → slice_get γ.cells k ≡ Some d
    closed_kept k d e h = ap (λ cs. slice_get cs k) is.cells ∙ keeps.cells.kept k (there inner.cells k d h) e ∙ h

    beyond : (k : ℕ) → length (reserve vs x stored β).cells ≤ k → is_among k its.values ≡ false
    beyond k m = is_not (is_among k its.values) (λ e. out (among_numbers (length β.cells) (count_of vs x) k e))
      where
        out : (length β.cells ≤ k) × (k < length β.cells + count_of vs x) → ⊥
        out h = omega (arith, m, h.1, reserve_longer vs x stored β)

    new : AddedAll (CopySite (shape_in vs x) its (From vs O (length β.cells)) closed.built.cells) inner.monitors closed.built.monitors
    new = copy_sites (shape_in vs x) its (From vs O (length β.cells)) (built_of inner) (distinct_numbers (length inner.cells) (length β.cells) (count_of vs x) wide_inner)
        (λ q l. omega (arith, l, wide_inner)) (λ q e. (among_numbers (length β.cells) (count_of vs x) q e).0)

    inner_later : Later vs O (From vs O (length (reserve vs x stored β).cells)) inner γ
    inner_later = record {
      kept = λ k d b e. closed_kept k d (beyond k b) e;
      more_actions = [];
      actions = is.actions ∙ sym (append-nil inner.actions);
      more_made = [];
      made = is.made ∙ sym (append-nil inner.made);
      depths = is.among;
    }

    quiet_copy : IsQuiet x g.actions → NoFlags (closed_refs closed)
    quiet_copy q = copy_quiet (shape_in vs x) its (built_of inner) (quiet_next x inner.writes (quiet_drawn x inner.writes g.actions its_drawn q))

    -- without delayed actions the copy has no flags
    pub closing : Starting κ β γ x (closed_refs closed)
    closing =
        let wider : length β.cells ≤ length (reserve vs x stored β).cells = omega (arith, reserve_longer vs x stored β) in
        let total : length γ.cells ≡ length closed.built.cells = ap length is.cells in
        record {
          quiet = quiet_copy;
          adds = record {
            longer = omega (arith, wide_inner, keeps.cells.longer, total);
            kept = λ k d e. closed_kept k d (below_numbers (length β.cells) (count_of vs x) k (there β.cells k d e)) (g.kept k d (r.kept k d e));
            actions = g.actions;
            actions_are = actions_here;
            made = record { var = x; stored = stored } ∷ g.made;
            made_are = made_here ∙ append_assoc β.made (record { var = x; stored = stored } ∷ []) g.made;
            writes = writes_to_others x inner.writes;
            writes_are = is.writes;
            drawn = drawn_twice (writes_to_others x inner.writes) inner.writes g.actions (drawn_others x inner.writes) its_drawn;
            current = others_current κ (entering vs x κ β) x inner.writes (λ y e. copy_other κ x y given e) its_current;
            monitors = g.monitors ++ new.more;
            monitors_are = is.monitors ∙ new.are ∙ ap (λ l. l ++ new.more) (g.monitors_are ∙ ap (λ l. l ++ g.monitors) r.monitors) ∙ append_assoc β.monitors g.monitors new.more;
            sited = sited_both vs O (From vs O (length β.cells)) γ g.monitors new.more
                (sited_later vs O (From vs O (length (reserve vs x stored β).cells)) (From vs O (length β.cells)) (λ k h. omega (arith, h, wider)) inner γ inner_later g.monitors g.sited)
                (copies_sited (From vs O (length β.cells)) γ x its new.more known_here (subst (λ cs. AllOf (CopySite (shape_in vs x) its (From vs O (length β.cells)) cs) new.more) (sym is.cells) new.all));
            entered = λ y q h. is.entered y (g.entered y q (subst (EnteredFree y) (sym r.entered) h));
            depths = λ y q h. is.depths y (λ e. quiet_copy (subst (λ z. IsQuiet z g.actions) (sym e) q)) (g.depths y q (subst (DepthsFree y) (sym r.depths) h));
            among = λ y u h. is.among y u (g.among y u (subst (Among y u) (sym r.depths) h));
          };
        }

  -- ---- a scope that starts

  close_is : (x v : ℕ) (a : Activity) (β inner : Builder) → IsClosing x false v β inner (close_scope vs x false v a β inner).built
  unfolding close_scope
  close_is x v a β inner = record {
    cells = refl;
    monitors = refl;
    actions = refl;
    made = refl;
    writes = refl;
    placed = λ e. absurd (cc);
    entered = λ y h. h;
    depths = λ y f h. h;
    among = λ y u h. h;
  }

  close_refs : (x : ℕ) (stored : Bool) (v : ℕ) (a : Activity) (β inner : Builder) → (close_scope vs x stored v a β inner).refs ≡ closed_refs (closed_copy (shape_in vs x) (copy_at vs x stored v β inner) (built_of inner))
  unfolding close_scope
  close_refs x stored v a β inner = refl

  still_starting : (κ : Copies) (β γ δ : Builder) (x : ℕ) (c : ClosedRefs) → Starting κ β γ x c → Still γ δ → Starting κ β δ x c
  still_starting κ β γ δ x c s g = record { adds = follow vs O κ s.adds (of_still vs O κ g); quiet = λ q. s.quiet (quiet_first x s.adds.actions [] q) }

  kept_starting : (κ : Copies) (β γ : Builder) (x : ℕ) (c : ClosedRefs) (r v : ℕ) (e : Ref) → Starting κ β γ x c → Adds vs O κ β (keep_entered (suc r) x v e c γ)
  unfolding keep_entered
  kept_starting κ β γ x c r v e s =
      let a = s.adds in
      record {
        longer = a.longer;
        kept = a.kept;
        actions = a.actions;
        actions_are = a.actions_are;
        made = a.made;
        made_are = a.made_are;
        writes = a.writes;
        writes_are = a.writes_are;
        drawn = a.drawn;
        current = a.current;
        monitors = a.monitors;
        monitors_are = a.monitors_are;
        sited = sited_later vs O (From vs O (length β.cells)) (From vs O (length β.cells)) (λ k h. h) γ _ (record { kept = λ k d b h. h; more_actions = []; actions = sym (append-nil γ.actions); more_made = []; made = sym (append-nil γ.made); depths = λ y u h. h }) a.monitors a.sited;
        entered = λ y q h. entered_free y γ.entered _ (a.entered y q h) (λ f. s.quiet (subst (λ z. IsQuiet z a.actions) (sym f) q), tt);
        depths = a.depths;
        among = a.among;
      }

  module _ (κ : Copies) (size : length κ ≡ length vs) (x : ℕ) (less : x < length vs) where
    starting : (v : ℕ) (a : Activity) (β inner : Builder) → Adds vs O (entering vs x κ β) (reserve vs x false β) inner → Starting κ β (close_scope vs x false v a β inner).built x (close_scope vs x false v a β inner).refs
    starting v a β inner g =
        subst (Starting κ β (close_scope vs x false v a β inner).built x) (sym (close_refs x false v a β inner)) (closing κ size x less false v β inner (close_scope vs x false v a β inner).built g (close_is x v a β inner))

    started_adds : (v r : ℕ) (go move : Ref) (β : Builder) (c : Closed) (a : Ref) → Starting κ β c.built x c.refs → Adds vs O κ β (started_with vs x v r go move c a).built
    started_adds v zero go move β c a s = s.adds
    started_adds v (suc r) go move β c a s =
        let m = and_of go move c.built in
        let e = not_of a m.built in
        let n = and_of m.ref e.ref e.built in
        kept_starting κ β n.built x c.refs r v n.ref (still_starting κ β c.built n.built x c.refs s (then_still (and_still go move c.built) (then_still (not_still a m.built) (and_still m.ref e.ref e.built))))

    pub scope_started_adds : (n v : ℕ) (go move : Ref) (β : Builder) (inner : Made) → Adds vs O (entering vs x κ β) (reserve vs x false β) inner.built → Adds vs O κ β (scope_started vs x n v go move β inner).built
    scope_started_adds n v go move β inner g =
        subst (λ (m : Made). Adds vs O κ β m.built) (sym (started_is vs x n v go move β inner))
        (started_adds v (scope_registers vs n x) go move β (close_scope vs x false v (started go) β inner.built) inner.ref (starting v (started go) β inner.built g))

  -- ---- and one that goes on

  no_registers : (n x : ℕ) → 0 < n → is_delayed vs x ≡ true → 0 < count_of vs x → scope_registers vs n x ≡ 0 → ⊥
  no_registers zero x some d c e = omega (arith, some)
  no_registers (suc n) x some d c e =
      let m : ℕ = registers_each (shape_in vs x) in
      let one : one_if (is_delayed vs x) ≡ 1 = ap one_if d in
      let le : 1 * m ≤ count_of vs x * m = mul-le-mul_right m (omega (arith, c)) in
      let same : 1 * m ≡ m = omega arith in
      omega (arith, one, le, same, e)

  depth_is : (x l n v r : ℕ) (a : Activity) (β inner : Builder) → 0 < n → scope_registers vs n x ≡ r
      → IsClosing x true v β inner (keep_depth r (record { var = x; label = l; labels = n; first = v; closed = (close_scope vs x true v a β inner).refs }) (close_scope vs x true v a β inner).built)
  unfolding close_scope keep_depth
  depth_is x l n v zero a β inner some e = record {
    cells = refl;
    monitors = refl;
    actions = refl;
    made = refl;
    writes = refl;
    placed = λ _ d c. absurd (no_registers n x some d c e);
    entered = λ y h. h;
    depths = λ y f h. h;
    among = λ y u h. h;
  }
  depth_is x l n v (suc r) a β inner some e = record {
    cells = refl;
    monitors = refl;
    actions = refl;
    made = refl;
    writes = refl;
    placed = λ _ d c. inr (among_last x v inner.depths _ refl refl);
    entered = λ y h. h;
    depths = λ y f h. depths_free y inner.depths _ h (f, tt);
    among = λ y u h. among_front y u inner.depths _ h;
  }

  pub scope_resumed_adds : (κ : Copies) → length κ ≡ length vs → (x : ℕ) → x < length vs → (l n v : ℕ) → 0 < n → (res : Ref) (β : Builder) (inner : Made) → Adds vs O (entering vs x κ β) (reserve vs x true β) inner.built
      → Adds vs O κ β (scope_resumed vs x l n v res β inner).built
  unfolding scope_resumed
  scope_resumed_adds κ size x less l n v some res β inner g =
      (closing κ size x less true v β inner.built _ g (depth_is x l n v (scope_registers vs n x) (resumed l n res) β inner.built some refl)).adds

  pub entering_size : (x : ℕ) (κ : Copies) (β : Builder) → length κ ≡ length vs → length (entering vs x κ β) ≡ length vs
  entering_size x κ β e = length_set κ x (record { copy = copies_of x β.made; values = map ref.Cell (new_cells vs x β) }) ∙ e
