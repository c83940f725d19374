-- Builders in order by a scope: reserving its value cells, closing its copy, and what is built behind it.
use Rattle.std.proofs.Common.{◌≡◌, ◌∙◌, inl, inr, ℕ, zero, suc, ◌+◌, ◌<◌, ◌≤◌, ◌==◌, Bool, true, false, List, [], ◌∷◌, ◌++◌, length, map, All, Some, refl, sym, ap, subst, arith, append-nil}
use Rattle.std.specs.Prelude.{Contains, replicate, slice_get, slice_set, if◌then◌else◌}
use Rattle.std.proofs.lemmas.Bool.{cases_lt}
use Rattle.std.proofs.lemmas.List.Elements.{All-append, All-cons, All-contains, All-head, All-nil, All-tail}
use Rattle.quartz_tree.specs.declared.place.Place.{Place}
use Rattle.quartz_expr.specs.Vars.{Vars, count_of, declared_at}
use Rattle.aif_cells.specs.declared.reference.Ref.{Ref}
use Rattle.aif_cells.specs.declared.reference.Ref.TheVariants as ref
use Rattle.aif_cells.specs.declared.cells.Action.{Action}
use Rattle.aif_cells.specs.Built.{Defined}
use Rattle.aif_cells.specs.Dependences.{DependsOn, cells_in}
use Rattle.absence_reaction.specs.Closing.{closed_copy}
use Rattle.absence_reaction.specs.Earlier.{ActionIsBelow, IsBelow}
use Rattle.absence_reaction.specs.Meaning.{is_among}
use Rattle.absence_reaction.proofs.CopyMeaning.{closing_keeps}
use Rattle.reincarnation.specs.declared.copy.ClosedRefs.{ClosedRefs}
use Rattle.reincarnation.specs.Entering.{copies_of, numbers_from, reserved}
use Rattle.reincarnation.specs.Meaning.{ClosedIsBelow, EnteredIsBelow}
use Rattle.statement_cells.specs.Labels.{scope_registers, shape_in}
use Rattle.statement_cells.specs.Expressions.{Copies, Current}
use Rattle.statement_cells.specs.Builder.{Activity, Builder, Closed, DepthCopy, EnteredCopy, Made, Scoped, built_of, close_scope, copy_at, entering, keep_depth, keep_entered, new_cells, reserve, reserved_cells, resumed, started, writes_to_others}
use Rattle.statement_cells.specs.Surface.{scope_resumed, scope_started}
use Rattle.statement_cells.specs.Walk.{cells_of}
use Rattle.statement_cells.specs.Earlier.{ActivityIsBelow, HoldsBelow, IsOrdered, ScopeIsBelow}
use Rattle.statement_cells.proofs.ScopeGrowLemmas.{cells_both, cells_reserved, reserve_longer}
use Rattle.statement_cells.proofs.ScopeCopyLemmas.{distinct_numbers}
use Rattle.statement_cells.proofs.ScopeEndLemmas.{started_is, started_with}
use Rattle.statement_cells.proofs.EarlierCloseLemmas.{CanClose, closed_goes, closed_refs_below, written_below}
use Rattle.statement_cells.proofs.EarlierLemmas.{CopiesHeld, Goes, GoesTo, Held, Later, and_goes, behind, follows, here, not_goes, same, up}
use Rattle.statement_cells.proofs.EarlierMoreLemmas.{activity_more, actions_more, closed_more, holds_more, scopes_more}
use Rattle.quartz_expr.proofs.TruthLemmas.{or_left, or_right}
use Rattle.reincarnation.proofs.MeaningLemmas.{last_is}
use Rattle.aif_cells.proofs.ItemLemmas.{get_before}

-- ---- reserved cells

-- nothing stands in an empty list
no_contents : (d : ℕ) → Contains [] d → ⊥
no_contents d h = All-contains (λ (x : ℕ). ⊥) [] d (All-nil (λ (x : ℕ). ⊥)) h

-- they name no cell
reserved_names : (cs : List Defined) (n : ℕ) (p : Place) (k d : ℕ) → DependsOn (cs ++ replicate n (reserved p)) k d → DependsOn cs k d
reserved_names cs n p k d dep = elim (cases_lt k (length cs)) [
  | inl lt ↦ (dep.0, sym (get_before cs (replicate n (reserved p)) k lt) ∙ dep.1, dep.2)
  | inr ge ↦ absurd (no_contents d (subst (λ (c : Defined). Contains (cells_in c.tree) d) (sym (last_is cs n k (reserved p) dep.0 ge dep.1)) dep.2))
]

-- value cells in a row are there
pub row_below : (m f n : ℕ) → f + n ≤ m → All (IsBelow m) (map ref.Cell (numbers_from f n))
row_below m f zero h = All-nil (IsBelow m)
row_below m f (suc n) h =
    All-cons (IsBelow m) (ref.Cell f) (map ref.Cell (numbers_from (f + 1) n)) (All-cons (λ d. d < m) f [] (omega (arith, h)) (All-nil (λ d. d < m))) (row_below m (f + 1) n (omega (arith, h)))

-- a current copy in place of another one
pub set_below : (n : ℕ) (κ : Copies) (x : ℕ) (c : Current) → All (IsBelow n) c.values → All (λ c. All (IsBelow n) c.values) κ → All (λ c. All (IsBelow n) c.values) (slice_set κ x c)
set_below n [] x c h g = g
set_below n (d ∷ κ) zero c h g = All-cons (λ (c : Current). All (IsBelow n) c.values) c κ h (All-tail (λ (c : Current). All (IsBelow n) c.values) d κ g)
set_below n (d ∷ κ) (suc x) c h g =
    All-cons (λ (c : Current). All (IsBelow n) c.values) d (slice_set κ x c) (All-head (λ (c : Current). All (IsBelow n) c.values) d κ g)
    (set_below n κ x c h (All-tail (λ (c : Current). All (IsBelow n) c.values) d κ g))

-- where a copy is active, before numbers from there on
active_before : (a : Activity) (m : ℕ) → ActivityIsBelow m a → (n f : ℕ) → m ≤ f → All (λ k. ActivityIsBelow k a) (numbers_from f n)
active_before a m h zero f le = All-nil (λ k. ActivityIsBelow k a)
active_before a m h (suc n) f le = All-cons (λ k. ActivityIsBelow k a) f (numbers_from (f + 1) n) (activity_more m f le a h) (active_before a m h n (f + 1) (omega (arith, le)))

module _ (vs : Vars) (x : ℕ) where
  -- ---- reserving

  -- reserving leaves all in order
  pub reserve_goes : (stored : Bool) (β : Builder) → IsOrdered β → GoesTo β (reserve vs x stored β)
  unfolding reserve
  reserve_goes stored β w =
      let m : ℕ = length (reserve vs x stored β).cells in
      let up : HoldsBelow m β = holds_more (length β.cells) m (omega (arith, reserve_longer vs x stored β)) β w.there in
      record {
        later = record { longer = omega (arith, reserve_longer vs x stored β); more = reserved_cells x (new_cells vs x β); reserved = refl };
        built = record {
          before = λ k d e dep. w.before k d (or_left (is_among k (cells_of β.reserved)) (is_among k (cells_of (reserved_cells x (new_cells vs x β)))) (sym (cells_both β.reserved (reserved_cells x (new_cells vs x β)) k) ∙ e))
              (reserved_names β.cells (count_of vs x) (declared_at vs x) k d dep);
          there = record {
            named = λ k d dep. up.named k d (reserved_names β.cells (count_of vs x) (declared_at vs x) k d dep);
            monitors = up.monitors;
            actions = up.actions;
            writes = All-nil (ActionIsBelow m);
            entries = up.entries;
            stays = up.stays;
            scopes = All-nil (ScopeIsBelow m);
            entered = up.entered;
            depths = up.depths;
          };
        };
      }

  -- the new value cells are among the reserved ones
  pub among_new : (stored : Bool) (β : Builder) (k : ℕ) → is_among k (cells_of (reserve vs x stored β).reserved) ≡ false → is_among k (new_cells vs x β) ≡ false
  unfolding reserve
  among_new stored β k e =
      let its = reserved_cells x (new_cells vs x β) in
      sym (ap (is_among k) (cells_reserved x (new_cells vs x β))) ∙ or_right (is_among k (cells_of β.reserved)) (is_among k (cells_of its)) (sym (cells_both β.reserved its k) ∙ e)

  -- the new copy is there
  pub entering_held : (stored : Bool) (κ : Copies) (β : Builder) → CopiesHeld (reserve vs x stored β) κ → CopiesHeld (reserve vs x stored β) (entering vs x κ β)
  entering_held stored κ β h =
      let m : ℕ = length (reserve vs x stored β).cells in
      record { below = set_below m κ x (record { copy = copies_of x β.made; values = map ref.Cell (new_cells vs x β) }) (row_below m (length β.cells) (count_of vs x) (omega (arith, reserve_longer vs x stored β))) h.below }

  -- ---- the actions on others

  module _ (n : ℕ) where
    -- they name what all actions do
    others_below : (ws : List Action) → All (ActionIsBelow n) ws → All (ActionIsBelow n) (writes_to_others x ws)
    others_below [] h = h
    others_below (a ∷ ws) h = at (a.var == x) (others_below ws (All-tail (ActionIsBelow n) a ws h))
      where
        at : (b : Bool) → All (ActionIsBelow n) (writes_to_others x ws) → All (ActionIsBelow n) (if b then writes_to_others x ws else a ∷ writes_to_others x ws)
        at true g = g
        at false g = All-cons (ActionIsBelow n) a (writes_to_others x ws) (All-head (ActionIsBelow n) a ws h) g

  -- ---- closing

  module _ (stored : Bool) (v : ℕ) (active : Activity) (β inner : Builder) (outside : IsOrdered β) (g : Later (reserve vs x stored β) inner) (w : IsOrdered inner) where
    -- the reserved copy can be closed
    closes : CanClose (copy_at vs x stored v β inner) inner
    closes = record {
      names = record {
        now = written_below x (length inner.cells) false inner.writes w.there.writes;
        next = written_below x (length inner.cells) true inner.writes w.there.writes;
        reserved = distinct_numbers vs x (length inner.cells) (length β.cells) (count_of vs x) (omega (arith, reserve_longer vs x stored β, g.longer));
      };
      reserved = apart;
    }
      where
        apart : (k : ℕ) → is_among k (cells_of inner.reserved) ≡ false → is_among k (new_cells vs x β) ≡ false
        apart k e = among_new stored β k (or_left (is_among k (cells_of (reserve vs x stored β).reserved)) (is_among k (cells_of g.more)) (sym (cells_both (reserve vs x stored β).reserved g.more k) ∙ (sym (ap (λ r. is_among k (cells_of r)) g.reserved) ∙ e)))

    -- the closed copy is there
    pub close_refs : ClosedIsBelow (length (close_scope vs x stored v active β inner).built.cells) (close_scope vs x stored v active β inner).refs
    unfolding close_scope
    close_refs = closed_refs_below (shape_in vs x) (copy_at vs x stored v β inner) inner w closes

    -- what is built by closing is in order
    pub close_goes : ActivityIsBelow (length β.cells) active → GoesTo β (close_scope vs x stored v active β inner).built
    unfolding close_scope
    close_goes a =
        let m : ℕ = length (closed_copy (shape_in vs x) (copy_at vs x stored v β inner) (built_of inner)).built.cells in
        let t = closed_goes (shape_in vs x) (copy_at vs x stored v β inner) inner w closes in
        let all = follows (reserve_goes stored β outside).later (follows g t.later) in
        let its : Scoped = record { var = x; active = active; cells = new_cells vs x β; trees = _; absent = _ } in
        record {
          later = record { longer = all.longer; more = all.more; reserved = all.reserved };
          built = record {
            before = t.built.before;
            there = record {
              named = t.built.there.named;
              monitors = t.built.there.monitors;
              actions = t.built.there.actions;
              writes = All-append (ActionIsBelow m) β.writes (writes_to_others x inner.writes) (actions_more (length β.cells) m all.longer β.writes outside.there.writes) (others_below m inner.writes t.built.there.writes);
              entries = t.built.there.entries;
              stays = t.built.there.stays;
              scopes = All-append (ScopeIsBelow m) β.scopes (its ∷ inner.scopes) (scopes_more (length β.cells) m all.longer β.scopes outside.there.scopes)
                  (All-cons (ScopeIsBelow m) its inner.scopes (activity_more (length β.cells) m all.longer active a, active_before active (length β.cells) a (count_of vs x) (length β.cells) (omega arith)) t.built.there.scopes);
              entered = t.built.there.entered;
              depths = t.built.there.depths;
            };
          };
        }

-- closing a copy keeps the cells before it
close_later : (vs : Vars) (x : ℕ) (stored : Bool) (v : ℕ) (active : Activity) (β inner : Builder) → Later inner (close_scope vs x stored v active β inner).built
unfolding close_scope
close_later vs x stored v active β inner = record { longer = (closing_keeps (shape_in vs x) (copy_at vs x stored v β inner) (built_of inner)).cells.longer; more = []; reserved = sym (append-nil inner.reserved) }

-- ---- what is kept of a copy

-- a copy that may have been entered
pub keep_entered_goes : {β : Builder} {e : Ref} (r x v : ℕ) (c : ClosedRefs) → IsOrdered β → Held β e → ClosedIsBelow (length β.cells) c → GoesTo β (keep_entered r x v e c β)
unfolding keep_entered
keep_entered_goes {β = β} {e = e} zero x v c w h i = record { later = same β; built = w }
keep_entered_goes {β = β} {e = e} (suc r) x v c w h i =
    let its : EnteredCopy = record { var = x; first = v; entered = record { enter = e; closed = c } } in
    let last = same β in
    record {
      later = record { longer = last.longer; more = last.more; reserved = last.reserved };
      built = record {
        before = w.before;
        there = record {
          named = w.there.named;
          monitors = w.there.monitors;
          actions = w.there.actions;
          writes = w.there.writes;
          entries = w.there.entries;
          stays = w.there.stays;
          scopes = w.there.scopes;
          entered = All-append (λ (e : EnteredCopy). EnteredIsBelow (length β.cells) e.entered) β.entered (its ∷ []) w.there.entered
              (All-cons (λ (e : EnteredCopy). EnteredIsBelow (length β.cells) e.entered) its [] (record { enter = h.below; closed = i }) (All-nil (λ (e : EnteredCopy). EnteredIsBelow (length β.cells) e.entered)));
          depths = w.there.depths;
        };
      };
    }

-- the copy with store
pub keep_depth_goes : {β : Builder} (r : ℕ) (d : DepthCopy) → IsOrdered β → ClosedIsBelow (length β.cells) d.closed → GoesTo β (keep_depth r d β)
unfolding keep_depth
keep_depth_goes {β = β} zero d w i = record { later = same β; built = w }
keep_depth_goes {β = β} (suc r) d w i =
    let last = same β in
    record {
      later = record { longer = last.longer; more = last.more; reserved = last.reserved };
      built = record {
        before = w.before;
        there = record {
          named = w.there.named;
          monitors = w.there.monitors;
          actions = w.there.actions;
          writes = w.there.writes;
          entries = w.there.entries;
          stays = w.there.stays;
          scopes = w.there.scopes;
          entered = w.there.entered;
          depths = All-append (λ (d : DepthCopy). ClosedIsBelow (length β.cells) d.closed) β.depths (d ∷ []) w.there.depths
              (All-cons (λ (d : DepthCopy). ClosedIsBelow (length β.cells) d.closed) d [] i (All-nil (λ (d : DepthCopy). ClosedIsBelow (length β.cells) d.closed)));
        };
      };
    }

-- ---- the whole scope

-- behind the closed copy of a scope that starts
started_goes : (vs : Vars) (x v r : ℕ) (go move : Ref) (c : Closed) (a : Ref) → IsOrdered c.built → ClosedIsBelow (length c.built.cells) c.refs → Held c.built go → Held c.built move → Held c.built a
    → Goes c.built (started_with vs x v r go move c a)
started_goes vs x v zero go move c a w i gs ms h = here w h
started_goes vs x v (suc r) go move c a w i gs ms h =
    let m = and_goes w gs ms in
    let e = not_goes m.built (up m.later h) in
    let enters = and_goes e.built (up e.later m.ref) e.ref in
    let all = follows m.later (follows e.later enters.later) in
    let k = keep_entered_goes (suc r) x v c.refs enters.built enters.ref (closed_more _ _ all.longer c.refs i) in
    record { later = follows all k.later; built = k.built; ref = up (follows all k.later) h }

module _ (vs : Vars) (x n v : ℕ) where
  -- a scope that starts
  pub scope_started_goes : (go move : Ref) (β : Builder) (inner : Made) → IsOrdered β → Held β go → Held β move → GoesTo β (reserve vs x false β) → Goes (reserve vs x false β) inner
      → Goes β (scope_started vs x n v go move β inner)
  scope_started_goes go move β inner w gs ms r s =
      let inside = follows r.later s.later in
      let k : Held inner.built inner.ref = s.ref in
      let c : Closed = close_scope vs x false v (started go) β inner.built in
      let t : GoesTo β c.built = close_goes vs x false v (started go) β inner.built w s.later s.built gs.below in
      let more : Later inner.built c.built = close_later vs x false v (started go) β inner.built in
      subst (λ (m : Made). Goes β m) (sym (started_is vs x n v go move β inner))
      (behind t.later (started_goes vs x v (scope_registers vs n x) go move c inner.ref t.built (close_refs vs x false v (started go) β inner.built w s.later s.built) (up t.later gs) (up t.later ms) (up more s.ref)))

  -- and one that goes on
  pub scope_resumed_goes : (l : ℕ) (res : Ref) (β : Builder) (inner : Made) → IsOrdered β → Held β res → GoesTo β (reserve vs x true β) → Goes (reserve vs x true β) inner
      → Goes β (scope_resumed vs x l n v res β inner)
  unfolding scope_resumed
  scope_resumed_goes l res β inner w gs r s =
      let c : Closed = close_scope vs x true v (resumed l n res) β inner.built in
      let t : GoesTo β c.built = close_goes vs x true v (resumed l n res) β inner.built w s.later s.built gs.below in
      let more : Later inner.built c.built = close_later vs x true v (resumed l n res) β inner.built in
      let k = keep_depth_goes (scope_registers vs n x) (record { var = x; label = l; labels = n; first = v; closed = c.refs }) t.built (close_refs vs x true v (resumed l n res) β inner.built w s.later s.built) in
      record { later = follows t.later k.later; built = k.built; ref = up (follows more k.later) s.ref }
