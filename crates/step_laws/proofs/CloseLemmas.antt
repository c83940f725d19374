-- Scopes: what is built in one keeps bits, and the flags of its closed copy are bits.
use Rattle.std.proofs.Common.{◌≡◌, ℕ, zero, suc, ◌+◌, ◌≤◌, ◌<◌, ◌==◌, ◌||◌, ◌&&◌, Bool, true, false, List, [], ◌∷◌, ◌++◌, length, map, Some, refl, sym, ap, ap₂, ◌∙◌, subst, arith}
use Rattle.std.specs.Prelude.{replicate, slice_get, if◌then◌else◌}
use Rattle.quartz_expr.specs.Vars.{Vars, count_of, declared_at}
use Rattle.quartz_expr.specs.Resolve.{same_bool}
use Rattle.aif_cells.specs.declared.reference.Ref.{Ref}
use Rattle.aif_cells.specs.declared.cells.Action.{Action}
use Rattle.aif_cells.specs.Built.{Defined}
use Rattle.aif_cells.specs.Solution.{MeetsBut, MeetsFrom}
use Rattle.aif_cells.specs.Worth.{Assignment}
use Rattle.aif_cells.proofs.SolutionLemmas.{bound_cells_are_met, there}
use Rattle.absence_reaction.specs.declared.copy.VarCopy.{VarCopy}
use Rattle.absence_reaction.specs.Closing.{Copy, closed_copy}
use Rattle.absence_reaction.specs.Meaning.{AreDistinctBelow, GuardsAreBits, is_among}
use Rattle.absence_reaction.proofs.CopyMeaning.{closing_goes_back, flags_are_bits}
use Rattle.reincarnation.specs.declared.copy.ClosedRefs.{ClosedRefs}
use Rattle.reincarnation.specs.Entering.{numbers_from, reserved}
use Rattle.statement_cells.specs.Labels.{scope_registers, shape_in}
use Rattle.statement_cells.specs.Expressions.{Copies}
use Rattle.statement_cells.specs.Builder.{Activity, Builder, Closed, DepthCopy, Made, Reserved, action_if, and_of, built_of, close_scope, copy_at, entering, keep_depth, keep_entered, new_cells, not_of, reserve, reserved_cells, resumed, started, writes_to, writes_to_others}
use Rattle.statement_cells.specs.Surface.{scope_resumed, scope_started}
use Rattle.statement_cells.specs.Walk.{AllInRange, IsBuilt, IsCurrent, cells_of}
use Rattle.statement_cells.proofs.GrowLemmas.{Grows, get_front, stays, then_grows}
use Rattle.statement_cells.proofs.ScopeEndLemmas.{started_is, started_with}
use Rattle.statement_cells.proofs.ScopeEnvLemmas.{ranges_first}
use Rattle.statement_cells.proofs.ScopeGrowLemmas.{below_numbers, cells_both, cells_reserved, close_grows, is_not, keep_depth_grows, keep_entered_grows, reserve_grows, reserve_longer}
use Rattle.quartz_expr.proofs.TruthLemmas.{or_left, or_right}
use Rattle.step_laws.proofs.CurrentLemmas.{current_in}
use Rattle.step_laws.proofs.ExactCellLemmas.{both_cells, closed_exact, reserved_exact}
use Rattle.step_laws.proofs.MadeLemmas.{At, BitsIn, DepthFlags, EnteredFlags, Fair, FlagsOf, Makes, Step, ands, depths_both, entered_both, follow, gives, guards_both, nots, on, rest}

pub distinct : (m f n : ℕ) → f + n ≤ m → AreDistinctBelow m (numbers_from f n)
distinct m f zero h = tt
distinct m f (suc n) h = (omega (arith, h), below_numbers (f + 1) n f (omega arith), distinct m (f + 1) n (omega (arith, h)))

-- the writes of a variable, and those of others
pub guards_to : (σ : Assignment) (x : ℕ) (d : Bool) (ws : List Action) → GuardsAreBits σ ws → GuardsAreBits σ (writes_to x d ws)
guards_to σ x d [] h = tt
guards_to σ x d (a ∷ ws) h = by ((a.var == x) && same_bool a.delayed d) (guards_to σ x d ws h.1)
  where
    by : (b : Bool) → GuardsAreBits σ (writes_to x d ws) → GuardsAreBits σ (action_if b a (writes_to x d ws))
    by true g = (h.0, g)
    by false g = g

guards_others : (σ : Assignment) (x : ℕ) (ws : List Action) → GuardsAreBits σ ws → GuardsAreBits σ (writes_to_others x ws)
guards_others σ x [] h = tt
guards_others σ x (a ∷ ws) h = by (a.var == x) (guards_others σ x ws h.1)
  where
    by : (b : Bool) → GuardsAreBits σ (writes_to_others x ws) → GuardsAreBits σ (if b then writes_to_others x ws else a ∷ writes_to_others x ws)
    by true g = g
    by false g = (h.0, g)

module _ (vs : Vars) (σ : Assignment) where
  -- ---- reserving

  pub reserve_back : (x : ℕ) (stored : Bool) (β : Builder) → Fair vs σ (reserve vs x stored β) → Fair vs σ β
  unfolding reserve
  reserve_back x stored β h = record {
    met = λ k c is bound. h.met k c (get_front β.cells _ k c is) (free k c is bound);
    ranges = ranges_first vs σ β.reserved (reserved_cells x (new_cells vs x β)) h.ranges;
  }
    where
      free : (k : ℕ) (c : Defined) → slice_get β.cells k ≡ Some c → is_among k (cells_of β.reserved) ≡ false → is_among k (cells_of (β.reserved ++ reserved_cells x (new_cells vs x β))) ≡ false
      free k c is e = cells_both β.reserved (reserved_cells x (new_cells vs x β)) k ∙ ap₂ (λ a b. a || b) e (ap (is_among k) (cells_reserved x (new_cells vs x β)) ∙ below_numbers (length β.cells) (count_of vs x) k (there β.cells k c is))

  reserve_bits : (x : ℕ) (stored : Bool) (β : Builder) → BitsIn vs σ β → BitsIn vs σ (reserve vs x stored β)
  unfolding reserve
  reserve_bits x stored β p = record { cells = both_cells σ β.cells (replicate (count_of vs x) (reserved (declared_at vs x))) p.cells (reserved_exact σ (count_of vs x) (declared_at vs x)); actions = p.actions; writes = tt; entries = p.entries; stays = p.stays; entered = p.entered; depths = p.depths }

  -- inside a scope
  pub inside : {κ : Copies} {β : Builder} {r : Ref} (x : ℕ) (stored : Bool) → x < length vs → At vs σ κ β r → At vs σ (entering vs x κ β) (reserve vs x stored β) r
  inside {κ = κ} {β = β} x stored less p = record {
    built = (reserve_grows vs x stored β).built p.built;
    current = λ h. current_in vs σ x stored κ β less (p.current (reserve_back x stored β h)) h.ranges;
    bit = λ h. p.bit (reserve_back x stored β h);
  }

  -- ---- closing

  module _ (x : ℕ) (stored : Bool) (v : ℕ) (active : Activity) (β inner : Builder) (w : IsBuilt vs β) (s : Step vs σ (reserve vs x stored β) inner) where
    abbrev copy : VarCopy
    copy = copy_at vs x stored v β inner

    abbrev closed : Copy
    closed = closed_copy (shape_in vs x) copy (built_of inner)

    abbrev pub closing : Closed
    closing = close_scope vs x stored v active β inner

    inner_built : IsBuilt vs inner
    inner_built = s.grows.built ((reserve_grows vs x stored β).built w)

    not_own : (k : ℕ) → is_among k (cells_of inner.reserved) ≡ false → is_among k (new_cells vs x β) ≡ false
    unfolding reserve
    not_own k e =
        let own : List Reserved = reserved_cells x (new_cells vs x β) in
        let all : (is_among k (cells_of (β.reserved ++ own)) || is_among k (cells_of s.grows.more)) ≡ false = sym (cells_both (β.reserved ++ own) s.grows.more k) ∙ ap (λ l. is_among k (cells_of l)) (sym s.grows.reserved) ∙ e in
        let first : (is_among k (cells_of β.reserved) || is_among k (cells_of own)) ≡ false = sym (cells_both β.reserved own k) ∙ or_left (is_among k (cells_of (β.reserved ++ own))) (is_among k (cells_of s.grows.more)) all in
        ap (is_among k) (sym (cells_reserved x (new_cells vs x β))) ∙ or_right (is_among k (cells_of β.reserved)) (is_among k (cells_of own)) first

    -- the cells of the body are fair
    pub inner_fair : Fair vs σ closing.built → Fair vs σ inner
    unfolding close_scope
    inner_fair h =
        let back : MeetsBut (λ k. is_among k (cells_of inner.reserved) || is_among k (new_cells vs x β)) σ inner.cells = closing_goes_back (shape_in vs x) copy (built_of inner) σ (λ k. is_among k (cells_of inner.reserved)) h.met in
        record { met = λ k c is e. back k c is (ap₂ (λ a b. a || b) e (not_own k e)); ranges = h.ranges }

    bound : (k : ℕ) → length inner.cells ≤ k → is_among k (cells_of inner.reserved) ≡ false
    bound k le = is_not (is_among k (cells_of inner.reserved)) (λ e. too_great (inner_built.cells k e))
      where
        too_great : k < length inner.cells → ⊥
        too_great less = omega (arith, less, le)

    room : length β.cells + count_of vs x ≤ length inner.cells
    room = let longer = s.grows.longer in let size = reserve_longer vs x stored β in omega (arith, longer, size)

    -- the flags of the closed copy
    pub closed_flags : Fair vs σ closing.built → BitsIn vs σ inner → FlagsOf vs σ closing.refs
    unfolding close_scope
    closed_flags h p =
        let from : MeetsFrom σ (length inner.cells) closed.built.cells = bound_cells_are_met (λ k. is_among k (cells_of inner.reserved)) σ (length inner.cells) closed.built.cells (λ k le less. bound k le) h.met in
        flags_are_bits (shape_in vs x) copy (built_of inner) σ (distinct (length inner.cells) (length β.cells) (count_of vs x) room) (guards_to σ x true inner.writes p.writes) from

    pub inner_bits : Fair vs σ closing.built → BitsIn vs σ β → BitsIn vs σ inner
    inner_bits h p = s.bits (inner_fair h) (reserve_bits x stored β p)

    closing_bits : BitsIn vs σ β → BitsIn vs σ inner → BitsIn vs σ closing.built
    unfolding close_scope
    closing_bits p q = record {
      cells = closed_exact σ (shape_in vs x) copy (built_of inner) q.cells;
      actions = q.actions;
      writes = guards_both σ β.writes (writes_to_others x inner.writes) p.writes (guards_others σ x inner.writes q.writes);
      entries = q.entries;
      stays = q.stays;
      entered = q.entered;
      depths = q.depths;
    }

    pub closes : Step vs σ β closing.built
    closes = record {
      grows = close_grows vs x stored v active β inner s.grows;
      back = λ h. reserve_back x stored β (s.back (inner_fair h));
      bits = λ h p. closing_bits p (inner_bits h p);
    }

  -- ---- copies with registers

  keeps_entered : {a β : Builder} (r x v : ℕ) (e : Ref) (c : ClosedRefs) → Step vs σ a β → (Fair vs σ β → BitsIn vs σ a → FlagsOf vs σ c) → Step vs σ a (keep_entered r x v e c β)
  unfolding keep_entered
  keeps_entered zero x v e c s f = s
  keeps_entered {a = a} {β = β} (suc r) x v e c s f = record {
    grows = then_grows vs a β (keep_entered (suc r) x v e c β) s.grows (keep_entered_grows vs (suc r) x v e c β);
    back = λ h. s.back (record { met = h.met; ranges = h.ranges });
    bits = λ h p.
        let g : Fair vs σ β = record { met = h.met; ranges = h.ranges } in
        let q = s.bits g p in
        record { cells = q.cells; actions = q.actions; writes = q.writes; entries = q.entries; stays = q.stays; entered = entered_both vs σ β.entered _ q.entered (f g p, tt); depths = q.depths };
  }

  keeps_depth : {a β : Builder} (r : ℕ) (d : DepthCopy) → Step vs σ a β → (Fair vs σ β → BitsIn vs σ a → FlagsOf vs σ d.closed) → Step vs σ a (keep_depth r d β)
  unfolding keep_depth
  keeps_depth zero d s f = s
  keeps_depth {a = a} {β = β} (suc r) d s f = record {
    grows = then_grows vs a β (keep_depth (suc r) d β) s.grows (keep_depth_grows vs (suc r) d β);
    back = λ h. s.back (record { met = h.met; ranges = h.ranges });
    bits = λ h p.
        let g : Fair vs σ β = record { met = h.met; ranges = h.ranges } in
        let q = s.bits g p in
        record { cells = q.cells; actions = q.actions; writes = q.writes; entries = q.entries; stays = q.stays; entered = q.entered; depths = depths_both vs σ β.depths (d ∷ []) q.depths (f g p, tt) };
  }

  -- a copy that is kept leaves cells as they are
  kept_fair : (r x v : ℕ) (e : Ref) (c : ClosedRefs) (β : Builder) → Fair vs σ (keep_entered r x v e c β) → Fair vs σ β
  unfolding keep_entered
  kept_fair zero x v e c β h = h
  kept_fair (suc r) x v e c β h = record { met = h.met; ranges = h.ranges }

  depth_fair : (r : ℕ) (d : DepthCopy) (β : Builder) → Fair vs σ (keep_depth r d β) → Fair vs σ β
  unfolding keep_depth
  depth_fair zero d β h = h
  depth_fair (suc r) d β h = record { met = h.met; ranges = h.ranges }

  -- ---- the scope as a whole

  module _ {κ : Copies} {β : Builder} {a : Made} (x n v : ℕ) where
    -- where the body ends, behind the closed copy
    ends_at : {r : Ref} (stored : Bool) (active : Activity) (p : At vs σ κ β r) (m : Makes vs σ (entering vs x κ β) (reserve vs x stored β) a) → At vs σ κ (close_scope vs x stored v active β a.built).built a.ref
    ends_at stored active p m =
        let c = closes x stored v active β a.built p.built m.step in
        record {
          built = c.grows.built p.built;
          current = λ h. p.current (c.back h);
          bit = λ h. m.at.bit (inner_fair x stored v active β a.built p.built m.step h);
        }

    started_by : {go move : Ref} (r : ℕ) → At vs σ κ β go → At vs σ κ β move → Makes vs σ (entering vs x κ β) (reserve vs x false β) a
        → Makes vs σ κ β (started_with vs x v r go move (close_scope vs x false v (started go) β a.built) a.ref)
    started_by {go = go} zero p q m = record { step = closes x false v (started go) β a.built p.built m.step; at = ends_at false (started go) p m }
    started_by {go = go} {move = move} (suc r) p q m =
        let shut : Closed = close_scope vs x false v (started go) β a.built in
        let im : Made = and_of go move shut.built in
        let em : Made = not_of a.ref im.built in
        let jm : Made = and_of im.ref em.ref em.built in
        let c = closes x false v (started go) β a.built p.built m.step in
        let end = ends_at false (started go) p m in
        let i = ands vs σ (on vs σ c p) (on vs σ c q) in
        let e = nots vs σ (on vs σ i.step end) in
        let j = ands vs σ (on vs σ e.step i.at) e.at in
        let s : Step vs σ shut.built jm.built = follow vs σ i.step (follow vs σ e.step j.step) in
        let all : Step vs σ β jm.built = follow vs σ c s in
        let step = keeps_entered (suc r) x v jm.ref shut.refs all
        (λ h b. closed_flags x false v (started go) β a.built p.built m.step (s.back h) (inner_bits x false v (started go) β a.built p.built m.step (s.back h) b)) in
        record {
          step = step;
          at = record {
            built = step.grows.built p.built;
            current = λ h. p.current (step.back h);
            bit = λ h. end.bit (s.back (kept_fair (suc r) x v jm.ref shut.refs jm.built h));
          };
        }

    -- a scope starts
    pub starts_scope : {go move : Ref} → At vs σ κ β go → At vs σ κ β move → Makes vs σ (entering vs x κ β) (reserve vs x false β) a → Makes vs σ κ β (scope_started vs x n v go move β a)
    starts_scope {go = go} {move = move} p q m = subst (Makes vs σ κ β) (sym (started_is vs x n v go move β a)) (started_by (scope_registers vs n x) p q m)

    -- and goes on
    pub resumes_scope : {res : Ref} (l : ℕ) → At vs σ κ β res → Makes vs σ (entering vs x κ β) (reserve vs x true β) a → Makes vs σ κ β (scope_resumed vs x l n v res β a)
    unfolding scope_resumed
    resumes_scope {res = res} l p m =
        let shut : Closed = close_scope vs x true v (resumed l n res) β a.built in
        let d : DepthCopy = record { var = x; label = l; labels = n; first = v; closed = shut.refs } in
        let c = closes x true v (resumed l n res) β a.built p.built m.step in
        let end = ends_at true (resumed l n res) p m in
        let step = keeps_depth (scope_registers vs n x) d c
        (λ h b. closed_flags x true v (resumed l n res) β a.built p.built m.step h (inner_bits x true v (resumed l n res) β a.built p.built m.step h b)) in
        record {
          step = step;
          at = record {
            built = step.grows.built p.built;
            current = λ h. p.current (step.back h);
            bit = λ h. end.bit (depth_fair (scope_registers vs n x) d shut.built h);
          };
        }
