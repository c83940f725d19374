-- What a write adds: its act and its faults.
use Rattle.std.proofs.Common.{◌≡◌, ℕ, ℤ, pos, Bool, true, false, not, ◌&&◌, ◌||◌, List, [], ◌++◌, Option, Some, None, refl, sym, ap, ap₂, ◌∙◌, append_assoc, append-nil, arith}
use Rattle.std.specs.Prelude.{int_lt, if◌then◌else◌}
use Rattle.std.proofs.lemmas.Int.{ints}
use Rattle.quartz_tree.specs.declared.place.Place.{Place}
use Rattle.quartz_tree.specs.declared.fault.Fault.{Fault}
use Rattle.quartz_tree.specs.declared.fault.Kind.TheVariants.{Range, Index}
use Rattle.quartz_tree.specs.Tree.{Tree as Expr}
use Rattle.quartz_expr.specs.declared.act.Act.{Act}
use Rattle.quartz_expr.specs.Vars.{Vars, count_of}
use Rattle.quartz_expr.specs.Value as expr_value
use Rattle.quartz_expr.specs.Faults.{fault_if, is_index_below, index_faults, faults}
use Rattle.quartz_expr.specs.Intervals.{Interval, is_in, interval, range_of}
use Rattle.quartz_expr.specs.Typed.{AreSound as AreSoundVars, IsTyped}
use Rattle.quartz_expr.specs.Terms.{write}
use Rattle.quartz_expr.specs.Writes.{act_if, in_range, target_index, target_faults, write_acts, write_faults}
use Rattle.quartz_expr.proofs.TypingLemmas.{typed_of}
use Rattle.quartz_expr.proofs.WithinLemmas.{within}
use Rattle.aif_cells.specs.declared.reference.Ref.{Ref}
use Rattle.aif_cells.specs.declared.cells.Action.{Action}
use Rattle.aif_cells.specs.declared.tree.TreeTwo.TheVariants as tree_two
use Rattle.aif_cells.specs.Tree.{Tree, value, two, fit}
use Rattle.aif_cells.specs.Worth.{Assignment, fitted, holds, truth, worth}
use Rattle.aif_cells.proofs.WorthLemmas.{holds_of_bool}
use Rattle.absence_reaction.specs.Meaning.{act_of, index_read}
use Rattle.statement_cells.specs.Expressions.{Copies, Test, copy_of, element_tests, env_of, fitted_tree, literal, may_leave_range, range_tests, target_tests, tests_of, tree_of}
use Rattle.statement_cells.specs.Builder.{Builder, Made, act, cell_of, watch}
use Rattle.statement_cells.specs.Surface.{MadeIndex, index_of, written}
use Rattle.statement_cells.specs.Sound.{IsSound, IsTypedIndex}
use Rattle.statement_cells.specs.Walk.{Good, IsBuilt, IsCurrent, Trail, no_trail, plus, trail, Settles}
use Rattle.statement_cells.proofs.TrailLemmas.{act_settled, plus_assoc, trail_act}
use Rattle.statement_cells.proofs.GrowLemmas.{Grows, stays, then_grows, act_grows, cell_grows, watch_grows}
use Rattle.statement_cells.proofs.CellLemmas.{cell_done}
use Rattle.statement_cells.proofs.TreeValueLemmas.{tree_value}
use Rattle.statement_cells.proofs.TestLemmas.{guarded_test, index_raises, inside_is_in, raised_by, raised_by_both, tests_raise, where_both, where_none, where_true}
use Rattle.statement_cells.proofs.WatchLemmas.{Added, faulty, watch_adds}

-- acts and faults alone
abbrev pub acting : List Act → List Fault → Trail
acting ws fs = record no_trail { acts = ws; faults = fs }

-- ---- ranges

-- below the low end, or above the high one
leaves_is : (i : Interval) (z : ℤ) → (int_lt z i.low || int_lt i.high z) ≡ not (is_in i z)
leaves_is i z = grind (arith, ints)

-- ---- the action

where_act : (g b : Bool) (x : ℕ) (i z : ℤ) (d : Bool) → act_if (g && b) x i z d ≡ where_true g (act_if b x i z d)
where_act true b x i z d = refl
where_act false b x i z d = refl

module _ (vs : Vars) (σ : Assignment) (κ : Copies) (s : AreSoundVars vs) (c : IsCurrent vs σ κ) where
  abbrev val : Expr ℕ → ℤ
  val e = expr_value.value vs (env_of σ κ) e

  -- the value lies in the target's range where no test is needed
  stays_in : (x : ℕ) (e : Expr ℕ) → IsTyped vs e → may_leave_range vs x e ≡ false → is_in (range_of vs x) (val e) ≡ true
  stays_in x e t n = inside_is_in (interval vs e) (range_of vs x) (val e) n (within vs (env_of σ κ) e s t c.fits)

  range_raises : (g : Tree) (x : ℕ) (e : Expr ℕ) (p : Place) → IsTyped vs e
      → raised_by σ (range_tests vs κ g x e p) ≡ where_true (holds (worth σ g)) (fault_if (not (is_in (range_of vs x) (val e))) Range p)
  range_raises g x e p t =
      let i : Interval = range_of vs x in
      let u : Tree = tree_of vs κ e in
      guarded_test σ (may_leave_range vs x e) g (two tree_two.Or (two tree_two.Lt u (literal i.low)) (two tree_two.Gt u (literal i.high))) (not (is_in i (val e))) Range p
      (λ _. holds_of_bool _ ∙ ap₂ (λ a b. a || b) (holds_of_bool (int_lt (worth σ u) i.low)) (holds_of_bool (int_lt i.high (worth σ u)))
      ∙ ap (λ z. int_lt z i.low || int_lt i.high z) (tree_value vs σ κ s c e t) ∙ leaves_is i (val e))
      (λ n. ap not (stays_in x e t n))

  fitted_is : (x : ℕ) (e : Expr ℕ) → IsTyped vs e → worth σ (fitted_tree vs κ x e) ≡ in_range vs x (val e)
  fitted_is x e t = at (may_leave_range vs x e) refl
    where
      at : (b : Bool) → may_leave_range vs x e ≡ b → worth σ (if b then fit (tree_of vs κ e) (range_of vs x).low (range_of vs x).high else tree_of vs κ e) ≡ in_range vs x (val e)
      at true n = ap (fitted (range_of vs x).low (range_of vs x).high) (tree_value vs σ κ s c e t)
      at false n = tree_value vs σ κ s c e t ∙ sym (ap (λ b. if b then val e else pos 0) (stays_in x e t n))

  -- ---- the target

  target_raises : (g : Tree) (x : ℕ) (i : Option (Expr ℕ)) → IsTypedIndex vs x i → raised_by σ (target_tests vs κ g i) ≡ where_true (holds (worth σ g)) (target_faults vs (env_of σ κ) i)
  unfolding raised_by
  target_raises g x None h = sym (where_none (holds (worth σ g)))
  target_raises g x (Some i) h = tests_raise vs σ κ s c i h g

  element_raises : (g : Tree) (x : ℕ) (i : Option (Expr ℕ)) (p : Place) → IsTypedIndex vs x i
      → raised_by σ (element_tests vs κ g x i p) ≡ where_true (holds (worth σ g)) (index_faults vs x (target_index vs (env_of σ κ) i) p)
  unfolding raised_by
  element_raises g x None p h = sym (ap (λ n. where_true (holds (worth σ g)) (fault_if (not (is_index_below n (pos 0))) Index p)) h ∙ where_none (holds (worth σ g)))
  element_raises g x (Some i) p h = let d = typed_of vs i h.over h.written h.kinds h.bounds in index_raises vs σ κ s c x i d.0 p g d.2

  -- the index has its value; nothing else is said
  pub record Indexed (β : Builder) (m : MadeIndex) (z : ℤ) : Type 0 where
    pub good : Good vs σ β
    pub index : index_read σ m.ref ≡ z
    pub quiet : trail vs σ m.built ≡ trail vs σ β
    pub settled : Settles vs σ β m.built

  index_done : (x : ℕ) (i : Option (Expr ℕ)) (β : Builder) → IsTypedIndex vs x i → IsBuilt vs β → Good vs σ (index_of vs κ i β).built → Indexed β (index_of vs κ i β) (target_index vs (env_of σ κ) i)
  index_done x None β t w h = record { good = h; index = refl; quiet = refl; settled = λ q. q }
  index_done x (Some i) β t w h =
      let m = cell_done vs σ (tree_of vs κ i) β w h in
      record { good = m.good; index = m.value ∙ tree_value vs σ κ s c i t; quiet = m.quiet; settled = λ q. m.settled q }

-- ---- the whole write

module _ (vs : Vars) (κ : Copies) where
  index_grows : (i : Option (Expr ℕ)) (β : Builder) → Grows vs β (index_of vs κ i β).built
  index_grows None β = stays vs β
  index_grows (Some i) β = cell_grows vs (tree_of vs κ i) β

  -- an action lacks an index only where its target has one element
  index_given : (x : ℕ) (i : Option (Expr ℕ)) (β : Builder) → IsTypedIndex vs x i → (index_of vs κ i β).ref ≡ None → count_of vs x ≡ 1
  index_given x None β t e = t
  index_given x (Some i) β t e = absurd (cc)

  -- the monitors of the parts' faults, the index behind them, and the monitors of the write's own faults behind it
  abbrev parts_watched : Option (Expr ℕ) → Expr ℕ → Ref → Builder → Builder
  parts_watched i e go β = watch (target_tests vs κ (value go) i ++ tests_of vs κ (value go) e) β

  abbrev own_tests : ℕ → Option (Expr ℕ) → Expr ℕ → (place target_place : Place) → Ref → List Test
  own_tests x i e p q go = element_tests vs κ (value go) x i q ++ range_tests vs κ (value go) x e p

  abbrev index_behind : Option (Expr ℕ) → Expr ℕ → Ref → Builder → MadeIndex
  index_behind i e go β = index_of vs κ i (parts_watched i e go β)

  abbrev all_watched : ℕ → Option (Expr ℕ) → Expr ℕ → (place target_place : Place) → Ref → Builder → Builder
  all_watched x i e p q go β = watch (own_tests x i e p q go) (index_behind i e go β).built

  abbrev value_behind : ℕ → Option (Expr ℕ) → Expr ℕ → (place target_place : Place) → Ref → Builder → Made
  value_behind x i e p q go β = cell_of (fitted_tree vs κ x e) (all_watched x i e p q go β)

  abbrev action_of : ℕ → Option (Expr ℕ) → Expr ℕ → Bool → (place target_place : Place) → Ref → Builder → Action
  action_of x i e d p q go β = record { guard = go; var = x; copy = copy_of κ x; index = (index_behind i e go β).ref; value = (value_behind x i e p q go β).ref; delayed = d; place = p }

  watched_grows : (x : ℕ) (i : Option (Expr ℕ)) (e : Expr ℕ) (p q : Place) (go : Ref) (β : Builder) → Grows vs β (all_watched x i e p q go β)
  watched_grows x i e p q go β =
      let first = parts_watched i e go β in
      let index = (index_behind i e go β).built in
      then_grows vs β first _ (watch_grows vs (target_tests vs κ (value go) i ++ tests_of vs κ (value go) e) β)
      (then_grows vs first index _ (index_grows i first) (watch_grows vs (own_tests x i e p q go) index))

  pub written_grows : (x : ℕ) (i : Option (Expr ℕ)) (e : Expr ℕ) (d : Bool) (p q : Place) (go : Ref) (β : Builder) → IsSound vs (write x i e d p q) → Grows vs β (written vs κ x i e d p q go β)
  unfolding written
  written_grows x i e d p q go β h =
      let second = all_watched x i e p q go β in
      let v = value_behind x i e p q go β in
      let a = action_of x i e d p q go β in
      then_grows vs β second _ (watched_grows x i e p q go β)
      (then_grows vs second v.built _ (cell_grows vs (fitted_tree vs κ x e) second)
      (act_grows vs a v.built (record { indexed = index_given x i (parts_watched i e go β) h.1; delayed = h.3 })))

module _ (vs : Vars) (σ : Assignment) (κ : Copies) (s : AreSoundVars vs) (c : IsCurrent vs σ κ) where
  -- an action changes no cell
  pub act_good : (a : Action) (β : Builder) → Good vs σ (act a β) → Good vs σ β
  unfolding act
  act_good a β h = record { met = h.met; ranges = h.ranges; inactive = h.inactive }

  -- the faults of a write in its own order
  faults_joined : (g : Bool) (ts us : List Test) (a b m n : List Fault) → raised_by σ ts ≡ where_true g (a ++ b) → raised_by σ us ≡ where_true g (m ++ n)
      → raised_by σ ts ++ raised_by σ us ≡ where_true g (a ++ (b ++ (m ++ n)))
  faults_joined g ts us a b m n e f = ap₂ (λ k l. k ++ l) e f ∙ where_both g (a ++ b) (m ++ n) ∙ ap (where_true g) (append_assoc a b (m ++ n))

  both_raise : (g : Bool) (ts us : List Test) (a b : List Fault) → raised_by σ ts ≡ where_true g a → raised_by σ us ≡ where_true g b → raised_by σ (ts ++ us) ≡ where_true g (a ++ b)
  both_raise g ts us a b e f = raised_by_both σ ts us ∙ ap₂ (λ k l. k ++ l) e f ∙ where_both g a b

  -- a write adds its act and its faults, where it starts
  pub written_adds : (x : ℕ) (i : Option (Expr ℕ)) (e : Expr ℕ) (d : Bool) (p q : Place) (go : Ref) (β : Builder) → IsSound vs (write x i e d p q) → IsBuilt vs β → Good vs σ (written vs κ x i e d p q go β)
      → Added vs σ β (written vs κ x i e d p q go β)
      (acting (if truth σ go then write_acts vs (env_of σ κ) x i e d else []) (if truth σ go then write_faults vs (env_of σ κ) x i e p q else []))
  unfolding written
  written_adds x i e d p q go β t w h =
      let env = env_of σ κ in
      let g : Bool = truth σ go in
      let n : ℤ = target_index vs env i in
      let z : ℤ = in_range vs x (expr_value.value vs env e) in
      let own : List Test = own_tests vs κ x i e p q go in
      let of_parts : List Test = target_tests vs κ (value go) i ++ tests_of vs κ (value go) e in
      let first : Builder = parts_watched vs κ i e go β in
      let index : MadeIndex = index_behind vs κ i e go β in
      let second : Builder = all_watched vs κ x i e p q go β in
      let v : Made = value_behind vs κ x i e p q go β in
      let a : Action = action_of vs κ x i e d p q go β in
      let first_built : IsBuilt vs first = (watch_grows vs of_parts β).built w in
      let index_built : IsBuilt vs index.built = (index_grows vs κ i first).built first_built in
      let second_built : IsBuilt vs second = (watch_grows vs own index.built).built index_built in
      let cell = cell_done vs σ (fitted_tree vs κ x e) second second_built (act_good a v.built h) in
      let later = watch_adds vs σ own index.built index_built cell.good in
      let there = index_done vs σ κ s c x i first t.1 first_built later.good in
      let earlier = watch_adds vs σ of_parts β w there.good in
      let acts : act_of σ (count_of vs x) a ≡ where_true g (write_acts vs env x i e d) =
      ap₂ (λ (n z : ℤ). act_if (g && is_index_below (count_of vs x) n) x n z d) there.index (cell.value ∙ fitted_is vs σ κ s c x e t.2)
      ∙ where_act g (is_index_below (count_of vs x) n) x n z d in
      let raises : raised_by σ of_parts ++ raised_by σ own ≡ where_true g (write_faults vs env x i e p q) =
      faults_joined g of_parts own (target_faults vs env i) (faults vs env e) (index_faults vs x n q) (fault_if (not (is_in (range_of vs x) (expr_value.value vs env e))) Range p)
      (both_raise g (target_tests vs κ (value go) i) (tests_of vs κ (value go) e) (target_faults vs env i) (faults vs env e) (target_raises vs σ κ s c (value go) x i t.1) (tests_raise vs σ κ s c e t.2 (value go)))
      (both_raise g (element_tests vs κ (value go) x i q) (range_tests vs κ (value go) x e p) (index_faults vs x n q) _ (element_raises vs σ κ s c (value go) x i q t.1) (range_raises vs σ κ s c (value go) x e p t.2)) in
      let watched : trail vs σ v.built ≡ plus (trail vs σ β) (plus (faulty (raised_by σ of_parts)) (faulty (raised_by σ own))) =
      cell.quiet ∙ later.adds ∙ ap (λ (u : Trail). plus u (faulty (raised_by σ own))) (there.quiet ∙ earlier.adds) ∙ plus_assoc (trail vs σ β) (faulty (raised_by σ of_parts)) (faulty (raised_by σ own)) in
      record {
        good = earlier.good;
        adds = trail_act vs σ a v.built ∙ ap (λ (u : Trail). plus u (record no_trail { acts = act_of σ (count_of vs x) a })) watched
            ∙ plus_assoc (trail vs σ β) (plus (faulty (raised_by σ of_parts)) (faulty (raised_by σ own))) (record no_trail { acts = act_of σ (count_of vs x) a })
            ∙ ap (plus (trail vs σ β)) (λ i. acting (acts i) ((append-nil (raised_by σ of_parts ++ raised_by σ own) ∙ raises) i));
        settled = λ q. act_settled vs σ a v.built (cell.settled (later.settled (there.settled (earlier.settled q))));
      }
