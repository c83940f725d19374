-- What the monitors of an expression's faults add, and conditions.
use Rattle.std.proofs.Common.{◌≡◌, ℕ, zero, pos, not, List, [], ◌∷◌, ◌++◌, length, refl, sym, ap, ◌∙◌, append-nil}
use Rattle.std.specs.Prelude.{if◌then◌else◌}
use Rattle.quartz_tree.specs.declared.fault.Fault.{Fault}
use Rattle.quartz_tree.specs.Tree.{Tree as Expr}
use Rattle.quartz_expr.specs.Values.{is_zero}
use Rattle.quartz_expr.specs.Vars.{Vars}
use Rattle.quartz_expr.specs.Value as expr_value
use Rattle.quartz_expr.specs.Faults.{fault_if, faults}
use Rattle.quartz_expr.specs.Typed.{AreSound as AreSoundVars, IsTyped}
use Rattle.aif_cells.specs.declared.reference.Ref.{Ref}
use Rattle.aif_cells.specs.declared.reference.Ref.TheVariants as ref
use Rattle.aif_cells.specs.Tree.{value}
use Rattle.aif_cells.specs.Worth.{Assignment, holds, truth, worth}
use Rattle.absence_reaction.specs.Meaning.{raised}
use Rattle.statement_cells.specs.Expressions.{Copies, env_of, Test, tests_of, tree_of}
use Rattle.statement_cells.specs.Builder.{Builder, Made, nowhere, watch, watch_one}
use Rattle.statement_cells.specs.Surface.{unless_zero_watch, watched, tested}
use Rattle.statement_cells.specs.Walk.{Good, IsBuilt, IsCurrent, Trail, entered_takes, depth_takes, acted, met_by, next_marks, no_trail, plus, trail, Settles}
use Rattle.statement_cells.proofs.TrailLemmas.{plus_none, plus_assoc, raised_both, takes_none, union_none}
use Rattle.statement_cells.proofs.GrowLemmas.{Grows, stays, then_grows, watch_grows, cell_grows}
use Rattle.statement_cells.proofs.CellLemmas.{behind, cell_done}
use Rattle.statement_cells.proofs.TreeValueLemmas.{tree_value}
use Rattle.statement_cells.proofs.TestLemmas.{raised_by, tests_raise}

-- faults alone
abbrev pub faulty : List Fault → Trail
faulty fs = record no_trail { faults = fs }

module _ (vs : Vars) (σ : Assignment) where
  -- from a builder to a later one: the earlier cells are good, and this was added
  pub record Added (β γ : Builder) (t : Trail) : Type 0 where
    pub good : Good vs σ β
    pub adds : trail vs σ γ ≡ plus (trail vs σ β) t
    pub settled : Settles vs σ β γ

  pub nothing_added : (β : Builder) → Good vs σ β → Added β β no_trail
  nothing_added β h = record { good = h; adds = sym (plus_none (trail vs σ β)); settled = λ q. q }

  pub then_added : (a b c : Builder) (s t : Trail) → Added a b s → Added b c t → Added a c (plus s t)
  then_added a b c s t g h = record { good = g.good; adds = h.adds ∙ ap (λ (u : Trail). plus u t) g.adds ∙ plus_assoc (trail vs σ a) s t; settled = λ q. h.settled (g.settled q) }

  -- the same, said of what is equal
  pub retold : (β γ : Builder) (s t : Trail) → s ≡ t → Added β γ s → Added β γ t
  retold β γ s t e g = record { good = g.good; adds = g.adds ∙ ap (plus (trail vs σ β)) e; settled = λ q. g.settled q }

  -- ---- monitors

  watch_one_adds : (t : Test) (β : Builder) → IsBuilt vs β → Good vs σ (watch_one t β) → Added β (watch_one t β) (faulty (fault_if (holds (worth σ t.tree)) t.kind t.place))
  unfolding trail
  watch_one_adds t β w h =
      let m = behind vs σ β (watch_one t β) (record { tree = t.tree; place = nowhere }) refl refl refl w h in
      let new : raised σ (record { cell = length β.cells; place = t.place; kind = t.kind } ∷ []) ≡ fault_if (holds (worth σ t.tree)) t.kind t.place =
      append-nil (fault_if (holds (σ.cells (length β.cells))) t.kind t.place) ∙ ap (λ z. fault_if (holds z) t.kind t.place) m.value in
      record {
        good = m.good;
        adds = λ i. record {
          acts = sym (append-nil (acted vs σ β.writes)) i;
          faults = (raised_both σ β.monitors (record { cell = length β.cells; place = t.place; kind = t.kind } ∷ []) ∙ ap (λ l. raised σ β.monitors ++ l) new) i;
          met = sym (append-nil (met_by σ β.scopes)) i;
          marks = sym (union_none (next_marks σ β)) i;
          takes = sym (takes_none (entered_takes vs σ β.entered)) i;
          defaults = sym (takes_none (depth_takes vs σ β.depths)) i;
        };
        settled = λ q. q;
      }

  watch_one_grows : (t : Test) (β : Builder) → Grows vs β (watch_one t β)
  unfolding watch
  watch_one_grows t β = watch_grows vs (t ∷ []) β

  -- the monitors of tests raise what the tests raise
  pub watch_adds : (ts : List Test) (β : Builder) → IsBuilt vs β → Good vs σ (watch ts β) → Added β (watch ts β) (faulty (raised_by σ ts))
  unfolding watch raised_by
  watch_adds [] β w h = nothing_added β h
  watch_adds (t ∷ ts) β w h =
      let m = watch_adds ts (watch_one t β) ((watch_one_grows t β).built w) h in
      let one = watch_one_adds t β w m.good in
      then_added β (watch_one t β) (watch ts (watch_one t β)) (faulty (fault_if (holds (worth σ t.tree)) t.kind t.place)) (faulty (raised_by σ ts)) one m

  -- ---- the faults of an expression

  unless_zero_grows : (g : Ref) (ts : List Test) (β : Builder) → Grows vs β (unless_zero_watch g β (watch ts β))
  unless_zero_grows (ref.Lit (pos zero)) ts β = stays vs β
  unless_zero_grows g ts β = watch_grows vs ts β

  pub watched_grows : (κ : Copies) (e : Expr ℕ) (g : Ref) (β : Builder) → Grows vs β (watched vs κ e g β)
  unfolding watched
  watched_grows κ e g β = unless_zero_grows g (tests_of vs κ (value g) e) β

  unless_zero_adds : (g : Ref) (ts : List Test) (fs : List Fault) (β : Builder) → raised_by σ ts ≡ (if truth σ g then fs else []) → IsBuilt vs β → Good vs σ (unless_zero_watch g β (watch ts β))
      → Added β (unless_zero_watch g β (watch ts β)) (faulty (if truth σ g then fs else []))
  unless_zero_adds (ref.Lit (pos zero)) ts fs β e w h = nothing_added β h
  unless_zero_adds g ts fs β e w h = retold β (watch ts β) (faulty (raised_by σ ts)) (faulty (if truth σ g then fs else [])) (ap faulty e) (watch_adds ts β w h)

  module _ (κ : Copies) (s : AreSoundVars vs) (c : IsCurrent vs σ κ) where
    pub watched_adds : (e : Expr ℕ) (g : Ref) (β : Builder) → IsTyped vs e → IsBuilt vs β → Good vs σ (watched vs κ e g β)
        → Added β (watched vs κ e g β) (faulty (if truth σ g then faults vs (env_of σ κ) e else []))
    unfolding watched
    watched_adds e g β t w h = unless_zero_adds g (tests_of vs κ (value g) e) (faults vs (env_of σ κ) e) β (tests_raise vs σ κ s c e t (value g)) w h

    -- ---- conditions

    -- a condition's reference has its truth value, and its faults were added
    pub record Decided (e : Expr ℕ) (g : Ref) (β : Builder) (m : Made) : Type 0 where
      pub added : Added β m.built (faulty (if truth σ g then faults vs (env_of σ κ) e else []))
      pub ref : truth σ m.ref ≡ not (is_zero (expr_value.value vs (env_of σ κ) e))

    pub tested_done : (e : Expr ℕ) (g : Ref) (β : Builder) → IsTyped vs e → IsBuilt vs β → Good vs σ (tested vs κ e g β).built → Decided e g β (tested vs κ e g β)
    unfolding tested
    tested_done e g β t w h =
        let m = cell_done vs σ (tree_of vs κ e) (watched vs κ e g β) ((watched_grows κ e g β).built w) h in
        let a = watched_adds e g β t w m.good in
        record {
          added = record { good = a.good; adds = m.quiet ∙ a.adds; settled = λ q. m.settled (a.settled q) };
          ref = ap holds (m.value ∙ tree_value vs σ κ s c e t);
        }

  pub tested_grows : (κ : Copies) (e : Expr ℕ) (g : Ref) (β : Builder) → Grows vs β (tested vs κ e g β).built
  unfolding tested
  tested_grows κ e g β = then_grows vs β (watched vs κ e g β) _ (watched_grows κ e g β) (cell_grows vs (tree_of vs κ e) (watched vs κ e g β))
