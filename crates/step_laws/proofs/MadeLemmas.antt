-- What helpers of the builder make is 0 or 1, and leaves as bits what was.
use Rattle.std.proofs.Common.{◌≡◌, inl, inr, ℕ, zero, suc, ◌+◌, ◌≤◌, ◌<◌, ℤ, pos, negsuc, Bool, true, false, List, [], ◌∷◌, ◌++◌, length, map, Option, Some, None, refl, sym, ap, ◌∙◌, subst, arith}
use Rattle.std.specs.Prelude.{slice_get}
use Rattle.quartz_tree.specs.declared.place.Place.{Place}
use Rattle.quartz_tree.specs.Tree.{Tree as Expr}
use Rattle.quartz_expr.specs.Vars.{Vars}
use Rattle.quartz_expr.specs.Terms.{write}
use Rattle.quartz_expr.specs.Typed.{AreSound as AreSoundVars, IsTyped}
use Rattle.aif_cells.specs.declared.reference.Ref.{Ref}
use Rattle.aif_cells.specs.declared.reference.Ref.TheVariants as ref
use Rattle.aif_cells.specs.declared.tree.TreeOne.TheVariants as tree_one
use Rattle.aif_cells.specs.declared.tree.TreeTwo.TheVariants as tree_two
use Rattle.aif_cells.specs.declared.cells.Action.{Action}
use Rattle.aif_cells.specs.Tree.{Tree, value, one, two, ite, sel, fit, bnot, cat, bits}
use Rattle.aif_cells.specs.Built.{reference_in}
use Rattle.aif_cells.specs.Solution.{MeetsBut}
use Rattle.aif_cells.specs.Worth.{Assignment, read, worth}
use Rattle.absence_reaction.specs.Meaning.{AreBits, GuardsAreBits, IsBit, is_among}
use Rattle.absence_reaction.proofs.ElementMeaning.{last_there}
use Rattle.reincarnation.specs.declared.copy.ClosedRefs.{ClosedRefs}
use Rattle.statement_cells.specs.Expressions.{Copies, Test, element_tests, env_of, fitted_tree, range_tests, target_tests, tests_of, tree_of}
use Rattle.statement_cells.specs.Builder.{Builder, DepthCopy, EnteredCopy, Entry, Made, Short, first, second, both, act, and_of, cell_of, enter, given, given_or_new, in_of, labels_tree, new, not_of, nowhere, one_ref, or_of, pick, short_and, short_or, stay_at, watch, watch_one, zero_ref}
use Rattle.statement_cells.specs.Sound.{IsSound, IsTypedIndex}
use Rattle.statement_cells.specs.Surface.{MadeAll, and_all, and_more, if_labels, index_of, tested, unless_zero, unless_zero_watch, watched, written}
use Rattle.statement_cells.specs.Walk.{AllInRange, IsBuilt, IsCurrent, cells_of}
use Rattle.statement_cells.proofs.GrowLemmas.{Grows, cell_grows, enter_grows, new_grows, stay_grows, stays, then_grows}
use Rattle.statement_cells.proofs.PlaceLemmas.{written_same}
use Rattle.statement_cells.proofs.ScopeGrowLemmas.{is_not}
use Rattle.statement_cells.proofs.TreeValueLemmas.{tree_value}
use Rattle.statement_cells.proofs.WatchLemmas.{watched_grows}
use Rattle.statement_cells.proofs.WriteLemmas.{written_grows}
use Rattle.step_laws.specs.Conditions.{IsCondition}
use Rattle.step_laws.specs.Exact.{IsExact}
use Rattle.step_laws.proofs.BitLemmas.{bool_bit, condition_bit}
use Rattle.step_laws.proofs.ExactCellLemmas.{ExactCells, both_cells}
use Rattle.step_laws.proofs.ExactLemmas.{TestsExact, both_tests, element_exact, fitted_exact, range_exact, target_exact, typed_exact, typed_tests}
use Rattle.step_laws.proofs.QuietLemmas.{Quiet, cell_quiet, index_quiet, new_quiet, then_quiet, watch_quiet, watched_quiet}

pub guards_both : (σ : Assignment) (a b : List Action) → GuardsAreBits σ a → GuardsAreBits σ b → GuardsAreBits σ (a ++ b)
guards_both σ [] b g h = h
guards_both σ (x ∷ a) b g h = (g.0, guards_both σ a b g.1 h)

module _ (vs : Vars) (σ : Assignment) where
  abbrev pub Bit : Ref → Type 0
  Bit r = IsBit (read σ r)

  -- ---- what is 0 or 1 in a builder

  abbrev pub UndersAreBits : List Entry → Type 0
  UndersAreBits [] = Unit {0}
  UndersAreBits (e ∷ es) = Bit e.under × UndersAreBits es

  abbrev pub FlagsOf : ClosedRefs → Type 0
  FlagsOf c = AreBits (map (read σ) c.flags)

  abbrev pub EnteredFlags : List EnteredCopy → Type 0
  EnteredFlags [] = Unit {0}
  EnteredFlags (e ∷ es) = FlagsOf e.entered.closed × EnteredFlags es

  abbrev pub DepthFlags : List DepthCopy → Type 0
  DepthFlags [] = Unit {0}
  DepthFlags (d ∷ ds) = FlagsOf d.closed × DepthFlags ds

  pub unders_both : (a b : List Entry) → UndersAreBits a → UndersAreBits b → UndersAreBits (a ++ b)
  unders_both [] b g h = h
  unders_both (e ∷ a) b g h = (g.0, unders_both a b g.1 h)

  pub entered_both : (a b : List EnteredCopy) → EnteredFlags a → EnteredFlags b → EnteredFlags (a ++ b)
  entered_both [] b g h = h
  entered_both (e ∷ a) b g h = (g.0, entered_both a b g.1 h)

  pub depths_both : (a b : List DepthCopy) → DepthFlags a → DepthFlags b → DepthFlags (a ++ b)
  depths_both [] b g h = h
  depths_both (d ∷ a) b g h = (g.0, depths_both a b g.1 h)

  -- guards of actions, what labels are entered and stay under, and the flags of copies with registers are bits, and the
  -- trees of cells are exact
  pub record BitsIn (β : Builder) : Type 0 where
    pub cells : ExactCells σ β.cells
    pub actions : GuardsAreBits σ β.actions
    pub writes : GuardsAreBits σ β.writes
    pub entries : UndersAreBits β.entries
    pub stays : UndersAreBits β.stays
    pub entered : EnteredFlags β.entered
    pub depths : DepthFlags β.depths

  -- each cell that isn't a value cell meets its equation, and value cells lie in their ranges
  pub record Fair (β : Builder) : Type 0 where
    pub met : MeetsBut (λ k. is_among k (cells_of β.reserved)) σ β.cells
    pub ranges : AllInRange vs σ β.reserved

  -- ---- from one builder to a later one

  pub record Step (β γ : Builder) : Type 0 where
    pub grows : Grows vs β γ
    pub back : Fair γ → Fair β
    pub bits : Fair γ → BitsIn β → BitsIn γ

  pub rest : (β : Builder) → Step β β
  rest β = record { grows = stays vs β; back = λ h. h; bits = λ h p. p }

  pub follow : {a b c : Builder} → Step a b → Step b c → Step a c
  follow {a = a} {b = b} {c = c} g h = record { grows = then_grows vs a b c g.grows h.grows; back = λ w. g.back (h.back w); bits = λ w p. h.bits w (g.bits (h.back w) p) }

  -- a reference is 0 or 1 where the cells are fair, and the copies are current there
  pub record At (κ : Copies) (β : Builder) (r : Ref) : Type 0 where
    pub built : IsBuilt vs β
    pub current : Fair β → IsCurrent vs σ κ
    pub bit : Fair β → Bit r

  pub on : {κ : Copies} {β γ : Builder} {r : Ref} → Step β γ → At κ β r → At κ γ r
  on s p = record { built = s.grows.built p.built; current = λ h. p.current (s.back h); bit = λ h. p.bit (s.back h) }

  -- another reference there
  pub other : {κ : Copies} {β : Builder} {r : Ref} (q : Ref) → Bit q → At κ β r → At κ β q
  other q b p = record { built = p.built; current = p.current; bit = λ h. b }

  pub zero_at : {κ : Copies} {β : Builder} {r : Ref} → At κ β r → At κ β zero_ref
  zero_at p = other zero_ref (inl refl) p

  pub record Makes (κ : Copies) (β : Builder) (m : Made) : Type 0 where
    pub step : Step β m.built
    pub at : At κ m.built m.ref

  pub after : {κ : Copies} {a b : Builder} {m : Made} → Step a b → Makes κ b m → Makes κ a m
  after s m = record { step = follow s m.step; at = m.at }

  pub gives : {κ : Copies} {β : Builder} {r : Ref} → At κ β r → Makes κ β (given r β)
  gives {β = β} p = record { step = rest β; at = p }

  -- ---- cells and monitors alone

  quiet_back : {β γ : Builder} → Grows vs β γ → γ.reserved ≡ β.reserved → Fair γ → Fair β
  quiet_back g e h = record {
    met = λ k c is b. h.met k c (g.kept k c is) (ap (λ r. is_among k (cells_of r)) e ∙ b);
    ranges = subst (AllInRange vs σ) e h.ranges;
  }

  pub quiet_step : {β γ : Builder} → Grows vs β γ → Quiet β γ → (Fair γ → ExactCells σ β.cells → ExactCells σ γ.cells) → Step β γ
  quiet_step g q e = record {
    grows = g;
    back = quiet_back g q.reserved;
    bits = λ h p. record {
      cells = e h p.cells;
      actions = subst (GuardsAreBits σ) (sym q.actions) p.actions;
      writes = subst (GuardsAreBits σ) (sym q.writes) p.writes;
      entries = subst UndersAreBits (sym q.entries) p.entries;
      stays = subst UndersAreBits (sym q.stays) p.stays;
      entered = subst EnteredFlags (sym q.entered) p.entered;
      depths = subst DepthFlags (sym q.depths) p.depths;
    };
  }

  new_value : (t : Tree) (β : Builder) → IsBuilt vs β → Fair (new t β).built → read σ (new t β).ref ≡ worth σ t
  unfolding new
  new_value t β w h = h.met (length β.cells) (record { tree = t; place = nowhere }) (last_there β.cells (record { tree = t; place = nowhere })) fresh
    where
      too_great : length β.cells < length β.cells → ⊥
      too_great l = omega (arith, l)

      fresh : is_among (length β.cells) (cells_of β.reserved) ≡ false
      fresh = is_not _ (λ e. too_great (w.cells (length β.cells) e))

  -- one more cell with an exact tree
  new_exact : (t : Tree) (β : Builder) → IsExact σ t → ExactCells σ β.cells → ExactCells σ (new t β).built.cells
  unfolding new
  new_exact t β e h = both_cells σ β.cells (record { tree = t; place = nowhere } ∷ []) h (e, tt)

  new_makes : {κ : Copies} {β : Builder} {r : Ref} (t : Tree) → At κ β r → (Fair β → IsExact σ t) → (Fair β → IsBit (worth σ t)) → Makes κ β (new t β)
  new_makes {β = β} t p e b =
      let back = quiet_back (new_grows vs t β) (new_quiet t β).reserved in
      let s : Step β (new t β).built = quiet_step (new_grows vs t β) (new_quiet t β) (λ h c. new_exact t β (e (back h)) c) in
      record {
        step = s;
        at = record { built = s.grows.built p.built; current = λ h. p.current (s.back h); bit = λ h. subst IsBit (sym (new_value t β p.built h)) (b (s.back h)) };
      }

  nots_of : {κ : Copies} {β : Builder} (a : Ref) → At κ β a → Makes κ β (not_of a β)
  unfolding not_of
  nots_of (ref.Lit (pos zero)) p = gives (other one_ref (inr refl) p)
  nots_of (ref.Lit (pos (suc n))) p = gives (zero_at p)
  nots_of (ref.Lit (negsuc n)) p = gives (zero_at p)
  nots_of (ref.Input i) p = new_makes (one tree_one.Not (value (ref.Input i))) p (λ h. (tt, tt)) (λ h. bool_bit _)
  nots_of (ref.Reg i) p = new_makes (one tree_one.Not (value (ref.Reg i))) p (λ h. (tt, tt)) (λ h. bool_bit _)
  nots_of (ref.Cell i) p = new_makes (one tree_one.Not (value (ref.Cell i))) p (λ h. (tt, tt)) (λ h. bool_bit _)

  pub nots : {κ : Copies} {β : Builder} {a : Ref} → At κ β a → Makes κ β (not_of a β)
  nots {a = a} p = nots_of a p

  picks : {κ : Copies} {β : Builder} {a b : Ref} (s : Short) (t : Tree) → IsExact σ t → IsBit (worth σ t) → At κ β a → At κ β b → Makes κ β (pick s t a b β)
  picks first t e w p q = gives p
  picks second t e w p q = gives q
  picks both t e w p q = new_makes t p (λ h. e) (λ h. w)

  pub ands : {κ : Copies} {β : Builder} {a b : Ref} → At κ β a → At κ β b → Makes κ β (and_of a b β)
  unfolding and_of
  ands {a = a} {b = b} p q = picks (short_and a b) (two tree_two.And (value a) (value b)) (tt, tt, tt) (bool_bit _) p q

  pub ors : {κ : Copies} {β : Builder} {a b : Ref} → At κ β a → At κ β b → Makes κ β (or_of a b β)
  unfolding or_of
  ors {a = a} {b = b} p q = picks (short_or a b) (two tree_two.Or (value a) (value b)) (tt, tt, tt) (bool_bit _) p q

  labels_exact : (l n : ℕ) → IsExact σ (labels_tree l n)
  labels_exact l zero = tt
  labels_exact l (suc n) = (tt, labels_exact (l + 1) n, tt)

  -- one of labels that are bits
  pub ins : {κ : Copies} {β : Builder} {r : Ref} (l n : ℕ) → At κ β r → ((i : ℕ) → l ≤ i → i < l + n → Bit (ref.Reg i)) → Makes κ β (in_of l n β)
  unfolding in_of
  ins l zero p b = gives (zero_at p)
  ins l (suc zero) p b = gives (other (ref.Reg l) (b l (omega arith) (omega arith)) p)
  ins l (suc (suc n)) p b = new_makes (labels_tree l (suc n)) p (λ h. labels_exact l (suc n)) (λ h. bool_bit _)

  reference_is : (t : Tree) (r : Ref) → reference_in t ≡ Some r → read σ r ≡ worth σ t
  reference_is (value q) r e = ap (read σ) (sym (same e))
    where
      same : {a b : Ref} → Some a ≡ Some b → a ≡ b
      same p = cc
  reference_is (one op a) r e = absurd (cc)
  reference_is (two op a b) r e = absurd (cc)
  reference_is (ite c a b) r e = absurd (cc)
  reference_is (sel i ts) r e = absurd (cc)
  reference_is (fit a low high) r e = absurd (cc)
  reference_is (bnot a n) r e = absurd (cc)
  reference_is (cat a b n) r e = absurd (cc)
  reference_is (bits a high low) r e = absurd (cc)

  given_or_made : {κ : Copies} {β : Builder} {q : Ref} (o : Option Ref) (t : Tree) → reference_in t ≡ o → At κ β q → (Fair β → IsExact σ t) → (Fair β → IsBit (worth σ t)) → Makes κ β (given_or_new o t β)
  given_or_made (Some r) t e p x b = gives (record { built = p.built; current = p.current; bit = λ h. subst IsBit (sym (reference_is t r e)) (b h) })
  given_or_made None t e p x b = new_makes t p x b

  cells : {κ : Copies} {β : Builder} {q : Ref} (t : Tree) → At κ β q → (Fair β → IsExact σ t) → (Fair β → IsBit (worth σ t)) → Makes κ β (cell_of t β)
  unfolding cell_of
  cells t p x b = given_or_made (reference_in t) t refl p x b

  -- ---- cells that are exact, and tests

  given_exact : (o : Option Ref) (t : Tree) (β : Builder) → IsExact σ t → ExactCells σ β.cells → ExactCells σ (given_or_new o t β).built.cells
  given_exact (Some r) t β e h = h
  given_exact None t β e h = new_exact t β e h

  cell_exact : (t : Tree) (β : Builder) → IsExact σ t → ExactCells σ β.cells → ExactCells σ (cell_of t β).built.cells
  unfolding cell_of
  cell_exact t β e h = given_exact (reference_in t) t β e h

  watch_exact : (ts : List Test) (β : Builder) → TestsExact σ ts → ExactCells σ β.cells → ExactCells σ (watch ts β).cells
  unfolding watch
  watch_exact [] β e h = h
  watch_exact (t ∷ ts) β e h = watch_exact ts (watch_one t β) e.1 (both_cells σ β.cells (record { tree = t.tree; place = nowhere } ∷ []) h (e.0, tt))

  unless_exact : (r : Ref) (β γ : Builder) → ExactCells σ β.cells → ExactCells σ γ.cells → ExactCells σ (unless_zero_watch r β γ).cells
  unless_exact (ref.Lit (pos zero)) β γ h g = h
  unless_exact (ref.Lit (pos (suc n))) β γ h g = g
  unless_exact (ref.Lit (negsuc n)) β γ h g = g
  unless_exact (ref.Input i) β γ h g = g
  unless_exact (ref.Reg i) β γ h g = g
  unless_exact (ref.Cell i) β γ h g = g

  watched_exact : (κ : Copies) (c : Expr ℕ) (g : Ref) (β : Builder) → TestsExact σ (tests_of vs κ (value g) c) → ExactCells σ β.cells → ExactCells σ (watched vs κ c g β).cells
  unfolding watched
  watched_exact κ c g β e h = unless_exact g β (watch (tests_of vs κ (value g) c) β) h (watch_exact (tests_of vs κ (value g) c) β e h)

  index_exact : (κ : Copies) (x : ℕ) (i : Option (Expr ℕ)) (β : Builder) → AreSoundVars vs → IsCurrent vs σ κ → IsTypedIndex vs x i → ExactCells σ β.cells → ExactCells σ (index_of vs κ i β).built.cells
  index_exact κ x None β types c t h = h
  index_exact κ x (Some i) β types c t h = cell_exact (tree_of vs κ i) β (typed_exact σ vs κ types c i t) h

  module _ (types : AreSoundVars vs) where
    -- a condition
    pub tests : {κ : Copies} {β : Builder} {g : Ref} (c : Expr ℕ) → IsTyped vs c → IsCondition vs c → At κ β g → Makes κ β (tested vs κ c g β)
    unfolding tested
    tests {κ = κ} {β = β} {g = g} c t is p =
        let back = quiet_back (watched_grows vs σ κ c g β) (watched_quiet vs κ c g β).reserved in
        let s : Step β (watched vs κ c g β) = quiet_step (watched_grows vs σ κ c g β) (watched_quiet vs κ c g β) (λ h e. watched_exact κ c g β (typed_tests σ vs κ types (p.current (back h)) (value g) c tt t) e) in
        let here = on s p in
        after s (cells (tree_of vs κ c) here (λ h. typed_exact σ vs κ types (here.current h) c t)
        (λ h. subst IsBit (sym (tree_value vs σ κ types (here.current h) c t)) (condition_bit vs (env_of σ κ) c types t is (here.current h).fits)))

  -- ---- labels and actions

  pub enters : {κ : Copies} {β : Builder} {r : Ref} (l : ℕ) → At κ β r → Step β (enter l r β)
  unfolding enter
  enters {β = β} {r = r} l p = record {
    grows = enter_grows vs l r β;
    back = λ h. record { met = h.met; ranges = h.ranges };
    bits = λ h b. record {
      cells = b.cells;
      actions = b.actions;
      writes = b.writes;
      entries = unders_both β.entries (record { label = l; under = r } ∷ []) b.entries (p.bit (record { met = h.met; ranges = h.ranges }), tt);
      stays = b.stays;
      entered = b.entered;
      depths = b.depths;
    };
  }

  pub stays_at : {κ : Copies} {β : Builder} {r : Ref} (l : ℕ) → At κ β r → Step β (stay_at l r β)
  unfolding stay_at
  stays_at {β = β} {r = r} l p = record {
    grows = stay_grows vs l r β;
    back = λ h. record { met = h.met; ranges = h.ranges };
    bits = λ h b. record {
      cells = b.cells;
      actions = b.actions;
      writes = b.writes;
      entries = b.entries;
      stays = unders_both β.stays (record { label = l; under = r } ∷ []) b.stays (p.bit (record { met = h.met; ranges = h.ranges }), tt);
      entered = b.entered;
      depths = b.depths;
    };
  }

  -- one action was added, with that guard
  record Acted (go : Ref) (β γ : Builder) : Type 0 where
    action : Action
    guard : action.guard ≡ go
    actions : γ.actions ≡ β.actions ++ action ∷ []
    writes : γ.writes ≡ β.writes ++ action ∷ []
    entries : γ.entries ≡ β.entries
    stays : γ.stays ≡ β.stays
    entered : γ.entered ≡ β.entered
    depths : γ.depths ≡ β.depths

  act_acted : (a : Action) (β γ : Builder) → Quiet β γ → Acted a.guard β (act a γ)
  unfolding act
  act_acted a β γ q = record {
    action = a;
    guard = refl;
    actions = ap (λ l. l ++ a ∷ []) q.actions;
    writes = ap (λ l. l ++ a ∷ []) q.writes;
    entries = q.entries;
    stays = q.stays;
    entered = q.entered;
    depths = q.depths;
  }

  written_acted : (κ : Copies) (x : ℕ) (i : Option (Expr ℕ)) (e : Expr ℕ) (d : Bool) (p q : Place) (go : Ref) (β : Builder) → Acted go β (written vs κ x i e d p q go β)
  unfolding written
  written_acted κ x i e d p q go β =
      act_acted _ β _ (then_quiet (watch_quiet (target_tests vs κ (value go) i ++ tests_of vs κ (value go) e) β)
      (then_quiet (index_quiet vs κ i (watch (target_tests vs κ (value go) i ++ tests_of vs κ (value go) e) β))
      (then_quiet (watch_quiet (element_tests vs κ (value go) x i q ++ range_tests vs κ (value go) x e p) _) (cell_quiet (fitted_tree vs κ x e) _))))

  written_exact : (κ : Copies) (x : ℕ) (i : Option (Expr ℕ)) (e : Expr ℕ) (d : Bool) (p q : Place) (go : Ref) (β : Builder) → AreSoundVars vs → IsCurrent vs σ κ → IsTypedIndex vs x i → IsTyped vs e
      → ExactCells σ β.cells → ExactCells σ (written vs κ x i e d p q go β).cells
  unfolding act written
  written_exact κ x i e d p q go β types c it et h =
      let g : Tree = value go in
      let first : List Test = target_tests vs κ g i ++ tests_of vs κ g e in
      let more : List Test = element_tests vs κ g x i q ++ range_tests vs κ g x e p in
      let a = watch_exact first β (both_tests σ (target_tests vs κ g i) (tests_of vs κ g e) (target_exact σ vs κ types c g x i tt it) (typed_tests σ vs κ types c g e tt et)) h in
      let b = index_exact κ x i (watch first β) types c it a in
      let m = watch_exact more (index_of vs κ i (watch first β)).built (both_tests σ (element_tests vs κ g x i q) (range_tests vs κ g x e p) (element_exact σ vs κ types c g x i q tt it) (range_exact σ vs κ types c g x e p tt et)) b in
      cell_exact (fitted_tree vs κ x e) (watch more (index_of vs κ i (watch first β)).built) (fitted_exact σ vs κ types c x e et) m

  pub writes_step : {κ : Copies} {β : Builder} {go : Ref} (x : ℕ) (i : Option (Expr ℕ)) (e : Expr ℕ) (d : Bool) (p q : Place) → AreSoundVars vs → IsSound vs (write x i e d p q) → At κ β go → Step β (written vs κ x i e d p q go β)
  writes_step {κ = κ} {β = β} {go = go} x i e d p q types sound at =
      let a = written_acted κ x i e d p q go β in
      let grows = written_grows vs κ x i e d p q go β sound in
      let back : Fair (written vs κ x i e d p q go β) → Fair β = quiet_back grows (written_same vs κ x i e d p q go β).reserved in
      record {
        grows = grows;
        back = back;
        bits = λ h b.
            let own : GuardsAreBits σ (a.action ∷ []) = (subst Bit (sym a.guard) (at.bit (back h)), tt) in
            record {
              cells = written_exact κ x i e d p q go β types (at.current (back h)) sound.1 sound.2 b.cells;
              actions = subst (GuardsAreBits σ) (sym a.actions) (guards_both σ β.actions (a.action ∷ []) b.actions own);
              writes = subst (GuardsAreBits σ) (sym a.writes) (guards_both σ β.writes (a.action ∷ []) b.writes own);
              entries = subst UndersAreBits (sym a.entries) b.entries;
              stays = subst UndersAreBits (sym a.stays) b.stays;
              entered = subst EnteredFlags (sym a.entered) b.entered;
              depths = subst DepthFlags (sym a.depths) b.depths;
            };
      }

  -- ---- what is made only sometimes

  unless_made : {κ : Copies} {β : Builder} {m : Made} (r : Ref) → At κ β r → Makes κ β m → Makes κ β (unless_zero r β m)
  unless_made (ref.Lit (pos zero)) p m = gives (zero_at p)
  unless_made (ref.Lit (pos (suc n))) p m = m
  unless_made (ref.Lit (negsuc n)) p m = m
  unless_made (ref.Input i) p m = m
  unless_made (ref.Reg i) p m = m
  unless_made (ref.Cell i) p m = m

  pub unless : {κ : Copies} {β : Builder} {m : Made} {r : Ref} → At κ β r → Makes κ β m → Makes κ β (unless_zero r β m)
  unless {r = r} p m = unless_made r p m

  pub if_some : {κ : Copies} {β : Builder} {m : Made} {r : Ref} (n : ℕ) → At κ β r → Makes κ β m → Makes κ β (if_labels n β m)
  if_some zero p m = gives (zero_at p)
  if_some (suc n) p m = m

  -- ---- several references

  abbrev pub AllAt : Copies → Builder → List Ref → Type 0
  AllAt κ β [] = Unit {0}
  AllAt κ β (r ∷ rs) = At κ β r × AllAt κ β rs

  pub on_all : (κ : Copies) {β γ : Builder} (rs : List Ref) → Step β γ → AllAt κ β rs → AllAt κ γ rs
  on_all κ [] s h = tt
  on_all κ (r ∷ rs) s h = (on s h.0, on_all κ rs s h.1)

  pub record MakesAll (κ : Copies) (β : Builder) (m : MadeAll) : Type 0 where
    pub step : Step β m.built
    pub at : AllAt κ m.built m.refs

  pub ands_more : {κ : Copies} {β : Builder} {e : Ref} (rs : List Ref) → At κ β e → AllAt κ β rs → Makes κ β (and_more e rs β)
  unfolding and_more
  ands_more [] p h = gives p
  ands_more {κ = κ} {β = β} {e = e} (r ∷ rs) p h = let m = ands p h.0 in after m.step (ands_more {β = (and_of e r β).built} rs m.at (on_all κ rs m.step h.1))

  pub ands_all : {κ : Copies} {β : Builder} {e : Ref} (rs : List Ref) → At κ β e → AllAt κ β rs → Makes κ β (and_all e rs β)
  unfolding and_all
  ands_all [] p h = gives p
  ands_all (r ∷ rs) p h = ands_more rs h.0 h.1
