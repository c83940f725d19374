-- What the closed copy of a scope says, and what the cells before it say.
use Rattle.std.proofs.Common.{◌≡◌, ℕ, ◌≤◌, ◌<◌, ◌||◌, ℤ, Bool, false, List, [], ◌∷◌, ◌++◌, length, map, Option, Some, None, refl, sym, ap, ap₂, ◌∙◌, arith, append_assoc, ◌+◌, pos, true, subst, inl, inr}
use Rattle.std.specs.Prelude.{slice_get, is_some, unwrap_or, ◌⊎◌, if◌then◌else◌}
use Rattle.quartz_tree.specs.declared.fault.Fault.{Fault}
use Rattle.quartz_tree.specs.declared.place.Place.{Place}
use Rattle.quartz_tree.specs.declared.declare.Storage.{Storage}
use Rattle.quartz_tree.specs.declared.declare.Storage.TheVariants.{Mem, Event}
use Rattle.quartz_expr.specs.declared.act.Kept.{Kept}
use Rattle.quartz_expr.specs.Vars.{Vars, count_of, declared_at, storage_of}
use Rattle.quartz_expr.specs.Terms.{Store}
use Rattle.quartz_expr.specs.React.{Met, meetings}
use Rattle.quartz_expr.specs.Resolve.{given_store, others, resolved, resolved_store, store_conflicts, values_of}
use Rattle.aif_cells.specs.Worth.{Assignment, holds, read, worth}
use Rattle.aif_cells.specs.Tree.{Tree}
use Rattle.aif_cells.specs.Built.{Defined}
use Rattle.aif_cells.specs.Solution.{MeetsBut, MeetsFrom}
use Rattle.aif_cells.proofs.SolutionLemmas.{bound_cells_are_met, there}
use Rattle.absence_reaction.specs.declared.copy.Shape.{Shape}
use Rattle.absence_reaction.specs.declared.copy.VarCopy.{VarCopy}
use Rattle.absence_reaction.specs.Closing.{Copy, flag_of, pending_of, value_tree}
use Rattle.absence_reaction.specs.Meaning.{GoesOnAt, GoesOnFrom, Keeps, Resolves, given_values, is_among, or_nought, pendings_of, raised, tree_worth, wanted, worth_in}
use Rattle.absence_reaction.proofs.CopyMeaning.{closing_goes_back, closing_keeps, closing_resolves}
use Rattle.reincarnation.specs.declared.copy.ClosedRefs.{ClosedRefs}
use Rattle.statement_cells.specs.Labels.{shape_in}
use Rattle.statement_cells.specs.Builder.{Activity, Builder, absent_from, Reserved, Scoped, built_of, close_scope, closed_refs, copy_at, new_cells, reserve, reserved_cells, tree_at, writes_to_others}
use Rattle.statement_cells.specs.Walk.{Good, InactiveAreMet, IsBuilt, Takes, Trail, acted, cell_values, cells_of, depth_takes, else_takes, entered_takes, is_active, met_by, met_if, no_takes, plus, trail, worths_of, InactiveAreAbsent, AreMetOrAbsent, CopyLies, Settled}
use Rattle.statement_cells.proofs.GrowLemmas.{Grows, get_front}
use Rattle.statement_cells.proofs.TrailLemmas.{acted_both, met_both, raised_both, takes_none}
use Rattle.statement_cells.proofs.ScopeGrowLemmas.{below_numbers, cells_both, cells_reserved, closed_here, is_not, reserve_grows, reserve_longer}
use Rattle.statement_cells.proofs.ScopeCopyLemmas.{alike, none_next, others_are, suits}
use Rattle.statement_cells.proofs.ScopeTakesLemmas.{Says}
use Rattle.statement_cells.proofs.ScopeEnvLemmas.{cells_read, count_values, ranges_first}
use Rattle.statement_cells.proofs.LiesLemmas.{ActsLie, pendings_lie}
use Rattle.quartz_expr.specs.Typed.{AllLie}
use Rattle.quartz_expr.specs.Intervals.{range_of}
use Rattle.quartz_expr.proofs.TruthLemmas.{or_left, or_right}

-- what a scope adds, where its body added this trail: the acts on others, the body's faults before the conflicts, and the
-- copy's meetings before the body's
abbrev pub scope_trail : (var : ℕ) → List Met → (conflicts : List Fault) → (taken default : Takes) → Trail → Trail
scope_trail x ms fs f g o = record {
  acts = others x o.acts;
  faults = o.faults ++ fs;
  met = ms ++ o.met;
  marks = o.marks;
  takes = else_takes o.takes f;
  defaults = else_takes o.defaults g;
}

cancel : {A : Type 0} (xs ys zs : List A) → xs ++ ys ≡ xs ++ zs → ys ≡ zs
cancel [] ys zs e = e
cancel (x ∷ xs) ys zs e = cancel xs ys zs (rest e)
  where
    rest : {A : Type 0} {a b : A} {as' bs : List A} → a ∷ as' ≡ b ∷ bs → as' ≡ bs
    rest e = cc

inactive_first : (σ : Assignment) (a b : List Scoped) → InactiveAreMet σ (a ++ b) → InactiveAreMet σ a
inactive_first σ [] b h = tt
inactive_first σ (s ∷ a) b h = (h.0, inactive_first σ a b h.1)

inactive_second : (σ : Assignment) (a b : List Scoped) → InactiveAreMet σ (a ++ b) → InactiveAreMet σ b
inactive_second σ [] b h = h
inactive_second σ (s ∷ a) b h = inactive_second σ a b h.1

worths_are : (σ : Assignment) (cs : List Defined) (ks : List ℕ) → worths_of σ (map (tree_at cs) ks) ≡ map (tree_worth σ cs) ks
worths_are σ cs [] = refl
worths_are σ cs (k ∷ ks) = ap₂ (λ a l. a ∷ l) (at (slice_get cs k) refl) (worths_are σ cs ks)
  where
    at : (o : Option Defined) → slice_get cs k ≡ o → worth σ (tree_at cs k) ≡ worth_in σ (slice_get cs k)
    at None e = rw e refl
    at (Some d) e = rw e refl

-- an element of a copy to which nothing is written has the value that its store resolves to without writes
flagged : (b : Bool) (q w z : ℤ) → w ≡ z → (if b then q else w) ≡ unwrap_or (if b then Some q else None) z
flagged true q w z e = refl
flagged false q w z e = e

absent_is : (σ : Assignment) (stored delayed : Bool) (storage : Storage) (z : ℤ) (p : Place) (c : VarCopy) (j : ℕ) (k : Kept)
    → GoesOnAt stored σ (record { storage = storage; delayed = delayed; start = z; place = p }) c j k
    → worth σ (value_tree (record { storage = storage; delayed = delayed; start = z; place = p }) (record c { stored = stored; now = [] }) j) ≡ resolved storage k []
absent_is σ false delayed Mem z p c j k h = ap (λ k. resolved Mem k []) (sym h)
absent_is σ false delayed Event z p c j k h = ap (λ k. resolved Event k []) (sym h)
absent_is σ true false Mem z p c j k h = sym (h.0 refl) ∙ ap (λ o. unwrap_or o k.value) (sym h.1)
absent_is σ true false Event z p c j k h = ap (λ o. unwrap_or o (pos 0)) (sym h.1)
absent_is σ true true Mem z p c j k h =
    let s : Shape = record { storage = Mem; delayed = true; start = z; place = p } in
    flagged (holds (σ.registers (flag_of s c.first j))) (σ.registers (pending_of s c.first j)) _ _ (sym (h.0 refl)) ∙ ap (λ o. unwrap_or o k.value) (sym h.1)
absent_is σ true true Event z p c j k h =
    let s : Shape = record { storage = Event; delayed = true; start = z; place = p } in
    flagged (holds (σ.registers (flag_of s c.first j))) (σ.registers (pending_of s c.first j)) _ _ refl ∙ ap (λ o. unwrap_or o (pos 0)) (sym h.1)

absent_are : (σ : Assignment) (v : Shape) (x : ℕ) (c : VarCopy) (j : ℕ) (s : Store) (cells : List ℕ) → GoesOnFrom σ v c j s cells
    → worths_of σ (absent_from v c j cells) ≡ values_of (resolved_store v.storage x [] j s)
absent_are σ v x c j [] [] h = refl
absent_are σ v x c j [] (n ∷ ns) h = absurd h
absent_are σ v x c j (k ∷ s) [] h = absurd h
absent_are σ v x c j (k ∷ s) (n ∷ ns) h = ap₂ (λ a l. a ∷ l) (absent_is σ c.stored v.delayed v.storage v.start v.place c j k h.0) (absent_are σ v x c (j + 1) s ns h.1)

-- where trees say what cells have where nothing is written, cells have their values either way
met_either : (σ : Assignment) (ks : List ℕ) (ts us : List Tree) → AreMetOrAbsent σ ks ts us → worths_of σ ts ≡ worths_of σ us → cell_values σ ks ≡ worths_of σ ts
met_either σ [] [] [] h e = refl
met_either σ (k ∷ ks) (t ∷ ts) (u ∷ us) h e = ap₂ (λ z l. z ∷ l) (one h.0) (met_either σ ks ts us h.1 (rest e))
  where
    first : {a b : ℤ} {l m : List ℤ} → a ∷ l ≡ b ∷ m → a ≡ b
    first e = cc

    rest : {a b : ℤ} {l m : List ℤ} → a ∷ l ≡ b ∷ m → l ≡ m
    rest e = cc

    one : (σ.cells k ≡ worth σ t) ⊎ (σ.cells k ≡ worth σ u) → σ.cells k ≡ worth σ t
    one (inl e1) = e1
    one (inr e1) = e1 ∙ sym (first e)
met_either σ [] [] (u ∷ us) h e = absurd h
met_either σ [] (t ∷ ts) us h e = absurd h
met_either σ (k ∷ ks) [] us h e = absurd h
met_either σ (k ∷ ks) (t ∷ ts) [] h e = absurd h

absent_both : (σ : Assignment) (ss us : List Scoped) → InactiveAreAbsent σ ss → InactiveAreAbsent σ us → InactiveAreAbsent σ (ss ++ us)
absent_both σ [] us g h = h
absent_both σ (s ∷ ss) us g h = (g.0, absent_both σ ss us g.1 h)

module _ (vs : Vars) (σ : Assignment) (x : ℕ) (stored : Bool) where
  -- the cells before a reserved copy are good where those with it are
  pub reserve_good : (β : Builder) → Good vs σ (reserve vs x stored β) → InactiveAreMet σ β.scopes → IsBuilt vs β → Good vs σ β
  unfolding reserve
  reserve_good β h i w = record {
    met = λ k c is bound. h.met k c (get_front β.cells _ k c is) (free k c is bound);
    ranges = ranges_first vs σ β.reserved (reserved_cells x (new_cells vs x β)) h.ranges;
    inactive = i;
  }
    where
      free : (k : ℕ) (c : Defined) → slice_get β.cells k ≡ Some c → is_among k (cells_of β.reserved) ≡ false → is_among k (cells_of (β.reserved ++ reserved_cells x (new_cells vs x β))) ≡ false
      free k c is e = cells_both β.reserved (reserved_cells x (new_cells vs x β)) k ∙ ap₂ (λ a b. a || b) e (ap (is_among k) (cells_reserved x (new_cells vs x β)) ∙ below_numbers (length β.cells) (count_of vs x) k (there β.cells k c is))

module _ (vs : Vars) (σ : Assignment) (x : ℕ) (stored : Bool) (v : ℕ) (active : Activity) (β inner : Builder) where
  abbrev pub given_here : List ℤ
  given_here = cell_values σ (new_cells vs x β)

  abbrev pub refs_here : ClosedRefs
  refs_here = closed_refs (closed_here vs x stored v active β inner)

  abbrev pub wanted_here : List ℤ
  wanted_here = worths_of σ (map (tree_at (closed_here vs x stored v active β inner).built.cells) (new_cells vs x β))

  -- what the cells have where nothing is written
  abbrev pub absent_here : List ℤ
  absent_here = worths_of σ (absent_from (shape_in vs x) (copy_at vs x stored v β inner) 0 (new_cells vs x β))

  abbrev scoped_here : Scoped
  scoped_here = record { var = x; active = active; cells = new_cells vs x β; trees = map (tree_at (closed_here vs x stored v active β inner).built.cells) (new_cells vs x β); absent = absent_from (shape_in vs x) (copy_at vs x stored v β inner) 0 (new_cells vs x β) }

  -- what is closed resolves its variable from a store, and the cells of the body are good
  pub record Closing (s : Store) : Type 0 where
    pub good : Good vs σ inner
    pub before : InactiveAreMet σ β.scopes
    pub wanted : wanted_here ≡ values_of (resolved_store (storage_of vs x) x (acted vs σ inner.writes) 0 s)
    pub unwritten : absent_here ≡ values_of (resolved_store (storage_of vs x) x [] 0 s)
    pub inactive : is_active σ active ≡ false → wanted_here ≡ absent_here → given_here ≡ wanted_here
    pub conflicts : List Fault
    pub raises : raised σ (closed_here vs x stored v active β inner).built.monitors ≡ raised σ inner.monitors ++ conflicts
    pub conflicts_are : given_here ≡ wanted_here → conflicts ≡ store_conflicts (declared_at vs x) x (acted vs σ inner.writes) 0 given_here
    pub says : Says vs σ x (acted vs σ inner.writes) given_here refs_here

  -- closing resolves, where the copy was reserved before
  pub closes_in : (s : Store) → length (reserve vs x stored β).cells ≤ length inner.cells → IsBuilt vs inner → (extra : List Reserved) → inner.reserved ≡ (reserve vs x stored β).reserved ++ extra
      → GoesOnFrom σ (shape_in vs x) (copy_at vs x stored v β inner) 0 s (new_cells vs x β) → Good vs σ (close_scope vs x stored v active β inner).built → Closing s
  unfolding close_scope reserve
  closes_in s longer i extra splits goes h =
      let copy : VarCopy = copy_at vs x stored v β inner in
      let closed : Copy = closed_here vs x stored v active β inner in
      let keeps : Keeps copy (built_of inner) closed.built = closing_keeps (shape_in vs x) copy (built_of inner) in
      let from : MeetsFrom σ (length inner.cells) closed.built.cells = bound_cells_are_met (λ k. is_among k (cells_of inner.reserved)) σ (length inner.cells) closed.built.cells (λ k le less. bound k i le) h.met in
      let back : MeetsBut (λ k. is_among k (cells_of inner.reserved) || is_among k (new_cells vs x β)) σ inner.cells = closing_goes_back (shape_in vs x) copy (built_of inner) σ (λ k. is_among k (cells_of inner.reserved)) h.met in
      let r : Resolves σ (shape_in vs x) copy s (acted vs σ inner.writes) (built_of inner) closed =
      closing_resolves (shape_in vs x) copy s (acted vs σ inner.writes) (built_of inner) σ (suits vs x stored v β inner i.writes (omega (arith, longer, reserve_longer vs x stored β))) goes (alike vs σ x stored v β inner) from in
      let given : given_values σ closed ≡ given_here = ap (map (read σ)) r.given ∙ cells_read vs σ (new_cells vs x β) in
      let worths : wanted_here ≡ wanted σ copy closed = worths_are σ closed.built.cells (new_cells vs x β) in
      let more : raised σ closed.built.monitors ≡ raised σ inner.monitors ++ raised σ keeps.more = ap (raised σ) keeps.monitors ∙ raised_both σ inner.monitors keeps.more in
      record {
        good = record {
          met = λ k c is e. back k c is (ap₂ (λ a b. a || b) e (not_own k e));
          ranges = h.ranges;
          inactive = (inactive_second σ β.scopes (scoped_here ∷ inner.scopes) h.inactive).1;
        };
        before = inactive_first σ β.scopes (scoped_here ∷ inner.scopes) h.inactive;
        wanted = worths ∙ r.values;
        unwritten = absent_are σ (shape_in vs x) x copy 0 s (new_cells vs x β) goes;
        inactive = λ e f. met_either σ _ _ _ ((inactive_second σ β.scopes (scoped_here ∷ inner.scopes) h.inactive).0 e) f;
        conflicts = raised σ keeps.more;
        raises = more;
        conflicts_are = λ e. cancel (raised σ inner.monitors) (raised σ keeps.more) _ (sym more ∙ r.conflicts (given ∙ e ∙ worths)) ∙ ap (store_conflicts (declared_at vs x) x (acted vs σ inner.writes) 0) given;
        says = record {
          count = count_values vs σ x β;
          values = given;
          flags = r.flags ∙ ap (λ zs. map is_some (pendings_of (given_store x (acted vs σ inner.writes) 0 zs))) given;
          pending = r.pending ∙ ap (λ zs. map or_nought (pendings_of (given_store x (acted vs σ inner.writes) 0 zs))) given;
          none = λ n j. none_next vs σ x j inner.writes n i.writes;
        };
      }
    where
      bound : (k : ℕ) → IsBuilt vs inner → length inner.cells ≤ k → is_among k (cells_of inner.reserved) ≡ false
      bound k i le = is_not (is_among k (cells_of inner.reserved)) (λ e. too_great (i.cells k e))
        where
          too_great : k < length inner.cells → ⊥
          too_great less = omega (arith, less, le)

      not_own : (k : ℕ) → is_among k (cells_of inner.reserved) ≡ false → is_among k (new_cells vs x β) ≡ false
      not_own k e =
          let own : List Reserved = reserved_cells x (new_cells vs x β) in
          let all : (is_among k (cells_of (β.reserved ++ own)) || is_among k (cells_of extra)) ≡ false = sym (cells_both (β.reserved ++ own) extra k) ∙ ap (λ l. is_among k (cells_of l)) (sym splits) ∙ e in
          let first : (is_among k (cells_of β.reserved) || is_among k (cells_of own)) ≡ false = sym (cells_both β.reserved own k) ∙ or_left (is_among k (cells_of (β.reserved ++ own))) (is_among k (cells_of extra)) all in
          ap (is_among k) (sym (cells_reserved x (new_cells vs x β))) ∙ or_right (is_among k (cells_of β.reserved)) (is_among k (cells_of own)) first

  -- so does closing behind the body of a scope
  pub closes : (s : Store) → Grows vs (reserve vs x stored β) inner → IsBuilt vs β → GoesOnFrom σ (shape_in vs x) (copy_at vs x stored v β inner) 0 s (new_cells vs x β)
      → Good vs σ (close_scope vs x stored v active β inner).built → Closing s
  closes s g w goes h = closes_in s g.longer (g.built ((reserve_grows vs x stored β).built w)) g.more g.reserved goes h

  -- what the builder behind a closed copy says
  pub close_trail : (s : Store) (c : Closing s) (o : Trail) → trail vs σ inner ≡ plus (trail vs σ (reserve vs x stored β)) o
      → trail vs σ (close_scope vs x stored v active β inner).built ≡ plus (trail vs σ β) (scope_trail x (met_if (is_active σ active) (meetings x given_here wanted_here)) c.conflicts no_takes no_takes o)
  unfolding close_scope reserve trail acted met_by
  close_trail s c o e = λ i. record {
    acts = (acted_both vs σ β.writes (writes_to_others x inner.writes) ∙ ap (λ l. acted vs σ β.writes ++ l) (others_are vs σ x inner.writes ∙ ap (λ (t : Trail). others x t.acts) e)) i;
    faults = (c.raises ∙ ap (λ (t : Trail). t.faults ++ c.conflicts) e ∙ append_assoc (raised σ β.monitors) o.faults c.conflicts) i;
    met = (met_both σ β.scopes (scoped_here ∷ inner.scopes) ∙ ap (λ (t : Trail). met_by σ β.scopes ++ (met_if (is_active σ active) (meetings x given_here wanted_here) ++ t.met)) e) i;
    marks = ap (λ (t : Trail). t.marks) e i;
    takes = (ap (λ (t : Trail). t.takes) e ∙ ap (else_takes (entered_takes vs σ β.entered)) (sym (takes_none o.takes))) i;
    defaults = (ap (λ (t : Trail). t.defaults) e ∙ ap (else_takes (depth_takes vs σ β.depths)) (sym (takes_none o.defaults))) i;
  }

  -- the acts of the body are those that its actions say
  pub body_acts : (o : Trail) → trail vs σ inner ≡ plus (trail vs σ (reserve vs x stored β)) o → acted vs σ inner.writes ≡ o.acts
  unfolding reserve trail acted
  body_acts o e = ap (λ (t : Trail). t.acts) e

  -- closed copies are settled, if this one is without writes where it isn't active
  pub close_settled : (is_active σ active ≡ false → wanted_here ≡ absent_here) → Settled vs σ β → Settled vs σ inner → Settled vs σ (close_scope vs x stored v active β inner).built
  unfolding close_scope
  close_settled own before after = (absent_both σ β.scopes (scoped_here ∷ inner.scopes) before.0 (own, after.0), after.1, after.2)

  -- where nothing is written, the copy's trees say so
  pub wanted_unwritten : (s : Store) (c : Closing s) → acted vs σ inner.writes ≡ [] → wanted_here ≡ absent_here
  wanted_unwritten s c e = c.wanted ∙ ap (λ a. values_of (resolved_store (storage_of vs x) x a 0 s)) e ∙ sym c.unwritten

  pub reserve_settled : Settled vs σ β → Settled vs σ (reserve vs x stored β)
  unfolding reserve
  reserve_settled q = (tt, q.1, q.2)

  -- the values of the copy lie in its range, and what is pending
  pub copy_lies : (s : Store) (c : Closing s) → AllLie (range_of vs x) given_here → ActsLie vs (acted vs σ inner.writes) → CopyLies vs σ x refs_here
  copy_lies s c given acts =
      (subst (AllLie (range_of vs x)) (sym c.says.values) given, subst (AllLie (range_of vs x)) (sym c.says.pending) (pendings_lie vs x (acted vs σ inner.writes) 0 given_here acts))
