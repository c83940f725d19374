-- The outputs are closed: each has the value that its store and the acts resolve to.
use Rattle.std.proofs.Common.{◌≡◌, ◌⊎◌, inl, inr, ℕ, zero, suc, ◌+◌, ◌≤◌, ◌<◌, ◌&&◌, ℤ, pos, Bool, true, false, List, [], ◌∷◌, ◌++◌, length, map, Some, None, refl, sym, ap, ap₂, ◌∙◌, subst, arith, append-nil, append_assoc}
use Rattle.std.specs.Prelude.{Option, slice_get, slice_set, if◌then◌else◌}
use Rattle.quartz_tree.specs.declared.declare.Storage.{Storage}
use Rattle.quartz_tree.specs.declared.declare.Storage.TheVariants.{Mem, Event}
use Rattle.quartz_expr.specs.declared.act.Act.{Act}
use Rattle.quartz_expr.specs.declared.act.Kept.{Kept}
use Rattle.quartz_expr.specs.Vars.{Vars, count_of, declared_at, storage_of}
use Rattle.quartz_expr.specs.Terms.{Store}
use Rattle.quartz_expr.specs.React.{AllResolved, Met, meetings}
use Rattle.quartz_expr.specs.Resolve.{store_conflicts, values_of}
use Rattle.quartz_expr.specs.Steps.{next_stores, output_conflicts}
use Rattle.aif_cells.specs.declared.reference.Ref.TheVariants as ref
use Rattle.aif_cells.specs.Tree.{Tree}
use Rattle.aif_cells.specs.Worth.{Assignment, holds, worth}
use Rattle.aif_cells.specs.Built.{Defined}
use Rattle.aif_cells.specs.Solution.{IsSolution, MeetsBut}
use Rattle.aif_cells.proofs.SolutionLemmas.{there}
use Rattle.absence_reaction.specs.declared.copy.Shape.{Shape}
use Rattle.absence_reaction.specs.declared.copy.VarCopy.{VarCopy}
use Rattle.absence_reaction.specs.Closing.{closed_copy, flag_of, pending_of, register_of}
use Rattle.quartz_tree.specs.Storage.{is_memorized}
use Rattle.absence_reaction.specs.Meaning.{GoesOnFrom, Keeps, is_among, raised}
use Rattle.absence_reaction.proofs.CopyMeaning.{closing_keeps}
use Rattle.reincarnation.specs.Entering.{numbers_from}
use Rattle.statement_cells.specs.Labels.{shape_in}
use Rattle.statement_cells.specs.Expressions.{Copies}
use Rattle.statement_cells.specs.Builder.{Builder, Reserved, Scoped, built_of, close_scope, copy_at, new_cells, one_ref, reserve, started, tree_at}
use Rattle.statement_cells.specs.Stands.{kept_from, kept_in, plain_kept, plain_store, some_if, store_in}
use Rattle.statement_cells.specs.Walk.{cells_of, AllInRange, AreMetOrAbsent, Good, InactiveAreMet, IsBuilt, acted, cell_values, is_active, met_by, met_if, worths_of}
use Rattle.statement_cells.specs.Whole.{ClosedOutput, OutputCopy, begun, closed_output, ended, variable_registers}
use Rattle.statement_cells.specs.Meaning.{outputs_in, plain_stores, stores_of}
use Rattle.statement_cells.proofs.BeginLemmas.{begun_grows}
use Rattle.statement_cells.proofs.GrowLemmas.{AllRecorded, HaveTrees}
use Rattle.statement_cells.proofs.ScopeGrowLemmas.{among_numbers, has_tree, is_not, reserve_longer}
use Rattle.statement_cells.proofs.ScopeCloseLemmas.{Closing, closes_in}
use Rattle.statement_cells.proofs.ScopeTakesLemmas.{Says}
use Rattle.quartz_expr.proofs.TruthLemmas.{heads}

-- ---- scopes whose value cells meet their equations

-- the value cells of all closed copies have the values of their trees
abbrev pub AreMet : Assignment → List Scoped → Type 0
AreMet σ [] = Unit {0}
AreMet σ (s ∷ ss) = (cell_values σ s.cells ≡ worths_of σ s.trees) × AreMet σ ss

-- recorded trees of cells that meet their equations or have what they have where nothing is written
recorded_cells : (σ : Assignment) (n : ℕ) (cs : List Defined) (ks : List ℕ) (ts us : List Tree) → ((k : ℕ) (c : Defined) → n ≤ k → slice_get cs k ≡ Some c → σ.cells k ≡ worth σ c.tree)
    → HaveTrees n cs ks ts → length us ≡ length ks → AreMetOrAbsent σ ks ts us
recorded_cells σ n cs [] [] [] met h e = tt
recorded_cells σ n cs (k ∷ ks) (t ∷ ts) (u ∷ us) met h e = (inl (met k (record { tree = t; place = h.1.place }) h.0 h.1.is), recorded_cells σ n cs ks ts us met h.2 (omega (arith, e)))
recorded_cells σ n cs [] [] (u ∷ us) met h e = absurd (omega (arith, e))
recorded_cells σ n cs (k ∷ ks) (t ∷ ts) [] met h e = absurd (omega (arith, e))
recorded_cells σ n cs [] (t ∷ ts) us met h e = absurd h
recorded_cells σ n cs (k ∷ ks) [] us met h e = absurd h

pub recorded_inactive : (σ : Assignment) (n : ℕ) (cs : List Defined) (ss : List Scoped) → ((k : ℕ) (c : Defined) → n ≤ k → slice_get cs k ≡ Some c → σ.cells k ≡ worth σ c.tree) → AllRecorded n cs ss → InactiveAreMet σ ss
recorded_inactive σ n cs [] met h = tt
recorded_inactive σ n cs (s ∷ ss) met h = (λ e. recorded_cells σ n cs s.cells s.trees s.absent met h.0 h.1, recorded_inactive σ n cs ss met h.2)

resolved_both : (ms ns : List Met) → AllResolved ms → AllResolved ns → AllResolved (ms ++ ns)
resolved_both [] ns g h = h
resolved_both (m ∷ ms) ns g h = (g.0, resolved_both ms ns g.1 h)

resolved_if : (b : Bool) (ms : List Met) → AllResolved ms → AllResolved (met_if b ms)
resolved_if true ms h = h
resolved_if false ms h = tt

resolved_meetings : (x : ℕ) (zs ws : List ℤ) → zs ≡ ws → AllResolved (meetings x zs ws)
resolved_meetings x zs ws e = subst (λ l. AllResolved (meetings x zs l)) e (same zs)
  where
    same : (zs : List ℤ) → AllResolved (meetings x zs zs)
    same [] = tt
    same (z ∷ zs) = (refl, same zs)

-- then each scope that was met has the value that is resolved
pub met_resolved : (σ : Assignment) (ss : List Scoped) → AreMet σ ss → AllResolved (met_by σ ss)
unfolding met_by
met_resolved σ [] h = tt
met_resolved σ (s ∷ ss) h = resolved_both (met_if (is_active σ s.active) (meetings s.var (cell_values σ s.cells) (worths_of σ s.trees))) (met_by σ ss)
    (resolved_if (is_active σ s.active) _ (resolved_meetings s.var (cell_values σ s.cells) (worths_of σ s.trees) h.0)) (met_resolved σ ss h.1)

trees_met : (σ : Assignment) (n : ℕ) (cs : List Defined) (ks : List ℕ) (ts : List Tree) → ((k : ℕ) (c : Defined) → n ≤ k → slice_get cs k ≡ Some c → σ.cells k ≡ worth σ c.tree)
    → HaveTrees n cs ks ts → cell_values σ ks ≡ worths_of σ ts
trees_met σ n cs [] [] met h = refl
trees_met σ n cs (k ∷ ks) (t ∷ ts) met h = ap₂ (λ z l. z ∷ l) (met k (record { tree = t; place = h.1.place }) h.0 h.1.is) (trees_met σ n cs ks ts met h.2)
trees_met σ n cs [] (t ∷ ts) met h = absurd h
trees_met σ n cs (k ∷ ks) [] met h = absurd h

-- recorded trees of cells that meet their equations
pub recorded_met : (σ : Assignment) (n : ℕ) (cs : List Defined) (ss : List Scoped) → ((k : ℕ) (c : Defined) → n ≤ k → slice_get cs k ≡ Some c → σ.cells k ≡ worth σ c.tree) → AllRecorded n cs ss → AreMet σ ss
recorded_met σ n cs [] met h = tt
recorded_met σ n cs (s ∷ ss) met h = (trees_met σ n cs s.cells s.trees met h.0, recorded_met σ n cs ss met h.2)

-- ---- closing one output

module _ (vs : Vars) where
  -- an output's copy was reserved in this builder, with number 0
  abbrev first_of : Builder → Builder
  first_of β = record β { made = []; scopes = [] }

  abbrev output_of : (x : ℕ) → Builder → OutputCopy
  output_of x β = record { var = x; cells = new_cells vs x β }

  module _ (x v : ℕ) (β inner : Builder) where
    abbrev copy_here : VarCopy
    copy_here = copy_at vs x true v (first_of β) inner

    abbrev closed_one : Builder
    closed_one = (closed_output vs (output_of x β) v inner).built

    keeps_one : Keeps copy_here (built_of inner) (closed_copy (shape_in vs x) copy_here (built_of inner)).built
    keeps_one = closing_keeps (shape_in vs x) copy_here (built_of inner)

    longer_one : length inner.cells ≤ length closed_one.cells
    longer_one = keeps_one.cells.longer

    kept_one : (k : ℕ) (d : Defined) → (k < length β.cells) ⊎ (length (reserve vs x true β).cells ≤ k) → slice_get inner.cells k ≡ Some d → slice_get closed_one.cells k ≡ Some d
    kept_one k d h is = keeps_one.cells.kept k (there inner.cells k d is) (is_not (is_among k (new_cells vs x β)) (λ e. out h (among_numbers (length β.cells) (count_of vs x) k e))) ∙ is
      where
        out : (k < length β.cells) ⊎ (length (reserve vs x true β).cells ≤ k) → (length β.cells ≤ k) × (k < length β.cells + count_of vs x) → ⊥
        out (inl l) g = omega (arith, l, g.0)
        out (inr l) g = omega (arith, l, g.1, reserve_longer vs x true β)

  -- ---- closing all

  abbrev behind : (x : ℕ) → Copies → Builder → Copies
  behind x κ β = slice_set κ x (record { copy = 0; values = map ref.Cell (new_cells vs x β) })

  begun_longer : (xs : List ℕ) (κ : Copies) (β : Builder) → length β.cells ≤ length (begun vs xs κ β).built.cells
  begun_longer xs κ β = (begun_grows vs xs κ β).longer

  -- cells that are no outputs' value cells stay as they were
  pub ended_keeps : (xs : List ℕ) (κ : Copies) (β : Builder) (v : ℕ) (inner : Builder) (k : ℕ) (d : Defined) → (k < length β.cells) ⊎ (length (begun vs xs κ β).built.cells ≤ k)
      → slice_get inner.cells k ≡ Some d → slice_get (ended vs (begun vs xs κ β).outputs v inner).built.cells k ≡ Some d
  ended_keeps [] κ β v inner k d h is = is
  ended_keeps (x ∷ xs) κ β v inner k d h is =
      ended_keeps xs (behind x κ β) (reserve vs x true β) (v + variable_registers vs x) (closed_one x v β inner) k d (further h) (kept_one x v β inner k d (own h) is)
    where
      further : (k < length β.cells) ⊎ (length (begun vs (x ∷ xs) κ β).built.cells ≤ k) → (k < length (reserve vs x true β).cells) ⊎ (length (begun vs (x ∷ xs) κ β).built.cells ≤ k)
      further (inl l) = inl (omega (arith, l, reserve_longer vs x true β))
      further (inr l) = inr l

      own : (k < length β.cells) ⊎ (length (begun vs (x ∷ xs) κ β).built.cells ≤ k) → (k < length β.cells) ⊎ (length (reserve vs x true β).cells ≤ k)
      own (inl l) = inl l
      own (inr l) = inr (omega (arith, l, begun_longer xs (behind x κ β) (reserve vs x true β)))

  -- there are no fewer cells
  pub ended_longer : (xs : List ℕ) (κ : Copies) (β : Builder) (v : ℕ) (inner : Builder) → length inner.cells ≤ length (ended vs (begun vs xs κ β).outputs v inner).built.cells
  ended_longer [] κ β v inner = omega arith
  ended_longer (x ∷ xs) κ β v inner =
      let more = ended_longer xs (behind x κ β) (reserve vs x true β) (v + variable_registers vs x) (closed_one x v β inner) in
      omega (arith, more, longer_one x v β inner)

  -- ---- what outputs go on from

  module _ (σ : Assignment) where
    pended : (b : Bool) (z : ℤ) → some_if b z ≡ (if b then Some z else None)
    pended true z = refl
    pended false z = refl

    plain_pending : (st : Storage) (k : Kept) → (plain_kept st k).pending ≡ k.pending
    plain_pending Mem k = refl
    plain_pending Event k = refl

    memorized : (st : Storage) (k : Kept) (z : ℤ) → (plain_kept st k).value ≡ (if is_memorized st then z else pos 0) → st ≡ Mem → k.value ≡ z
    memorized Mem k z e m = e
    memorized Event k z e m = absurd (cc)

    -- a store for which registers stand goes on from them
    stored_goes : (x v : ℕ) (β inner : Builder) (s : Store) (j f n : ℕ) → map (plain_kept (storage_of vs x)) s ≡ kept_from (shape_in vs x) σ.registers v j n
        → GoesOnFrom σ (shape_in vs x) (copy_here x v β inner) j s (numbers_from f n)
    stored_goes x v β inner [] j f zero e = tt
    stored_goes x v β inner [] j f (suc n) e = absurd (cc)
    stored_goes x v β inner (k ∷ s) j f zero e = absurd (cc)
    stored_goes x v β inner (k ∷ s) j f (suc n) e =
        let sh : Shape = shape_in vs x in
        let own : plain_kept (storage_of vs x) k ≡ kept_in sh σ.registers v j = (heads _ _ _ _ e).0 in (
          (
            λ m. memorized (storage_of vs x) k (σ.registers (register_of sh v j)) (ap (λ (q : Kept). q.value) own) m,
            sym (plain_pending (storage_of vs x) k) ∙ ap (λ (q : Kept). q.pending) own ∙ pended (sh.delayed && holds (σ.registers (flag_of sh v j))) (σ.registers (pending_of sh v j)),
          ),
          stored_goes x v β inner s (j + 1) (f + 1) n (heads _ _ _ _ e).1,
        )

    first_cells : (x : ℕ) (β : Builder) → (reserve vs x true (first_of β)).cells ≡ (reserve vs x true β).cells
    unfolding reserve
    first_cells x β = refl

    first_reserved : (x : ℕ) (β : Builder) → (reserve vs x true (first_of β)).reserved ≡ (reserve vs x true β).reserved
    unfolding reserve
    first_reserved x β = refl

    closed_good : (x v : ℕ) (β inner : Builder) → Good vs σ (closed_one x v β inner) → Good vs σ (close_scope vs x true v (started one_ref) (first_of β) inner).built
    unfolding close_scope
    closed_good x v β inner h = record { met = h.met; ranges = h.ranges; inactive = (λ e. absurd (cc), h.inactive) }

    -- the output's copy resolves
    closing_one : (x v : ℕ) (β inner : Builder) (s : Store) → length (reserve vs x true β).cells ≤ length inner.cells → IsBuilt vs inner → (extra : List Reserved) → inner.reserved ≡ (reserve vs x true β).reserved ++ extra
        → plain_store vs x s ≡ store_in vs x σ.registers v → Good vs σ (closed_one x v β inner) → Closing vs σ x true v (started one_ref) (first_of β) inner s
    closing_one x v β inner s longer built extra splits e h =
        let size : length (reserve vs x true (first_of β)).cells ≡ length (reserve vs x true β).cells = ap length (first_cells x β) in
        closes_in vs σ x true v (started one_ref) (first_of β) inner s (omega (arith, longer, size)) built extra (splits ∙ ap (λ l. l ++ extra) (sym (first_reserved x β)))
        (stored_goes x v β inner s 0 (length β.cells) (count_of vs x) e) (closed_good x v β inner h)

    -- ---- all outputs

    -- each closed output has its values, and what the acts write for the next step
    abbrev pub AllSay : List ℕ → (first : ℕ) → List Act → List ClosedOutput → List (List ℤ) → Type 0
    AllSay [] v ws [] [] = Unit {0}
    AllSay (x ∷ xs) v ws (o ∷ os) (z ∷ zs) = (o.var ≡ x) × (o.first ≡ v) × Says vs σ x ws z o.closed × AllSay xs (v + variable_registers vs x) ws os zs
    AllSay _ _ _ _ _ = ⊥

    -- the cells before closing are good, each output has the value that is resolved, and the new monitors raise the conflicts
    pub record AllEnd (xs : List ℕ) (κ : Copies) (β : Builder) (v : ℕ) (inner : Builder) (ss : List Store) : Type 0 where
      pub good : Good vs σ inner
      pub values : outputs_in σ (begun vs xs κ β).outputs ≡ map values_of (next_stores vs xs (acted vs σ inner.writes) ss)
      pub conflicts : raised σ (ended vs (begun vs xs κ β).outputs v inner).built.monitors ≡ raised σ inner.monitors ++ output_conflicts vs xs (acted vs σ inner.writes) (outputs_in σ (begun vs xs κ β).outputs)
      pub says : AllSay xs v (acted vs σ inner.writes) (ended vs (begun vs xs κ β).outputs v inner).outputs (outputs_in σ (begun vs xs κ β).outputs)

    numbers_met : (cs : List Defined) (f n : ℕ) → f + n ≤ length cs → ((k : ℕ) (d : Defined) → k < f + n → slice_get cs k ≡ Some d → σ.cells k ≡ worth σ d.tree)
        → cell_values σ (numbers_from f n) ≡ worths_of σ (map (tree_at cs) (numbers_from f n))
    numbers_met cs f zero le met = refl
    numbers_met cs f (suc n) le met =
        let h = has_tree cs f (omega (arith, le)) in
        ap₂ (λ z l. z ∷ l) (met f (record { tree = tree_at cs f; place = h.place }) (omega arith) h.is) (numbers_met cs (f + 1) n (omega (arith, le)) (λ k d l is. met k d (omega (arith, l)) is))

    pub end_all : (xs : List ℕ) (κ : Copies) (β : Builder) (v : ℕ) (inner : Builder) (ss : List Store)
        → length (begun vs xs κ β).built.cells ≤ length inner.cells → IsBuilt vs inner → (extra : List Reserved) → inner.reserved ≡ (begun vs xs κ β).built.reserved ++ extra
        → plain_stores vs xs ss ≡ stores_of vs xs v σ.registers → IsSolution σ (ended vs (begun vs xs κ β).outputs v inner).built.cells
        → AllInRange vs σ inner.reserved → InactiveAreMet σ inner.scopes → AllEnd xs κ β v inner ss
    end_all [] κ β v inner ss longer built extra splits e sol ranges inactive = record {
      good = record { met = λ k c is bound. sol k c is refl; ranges = ranges; inactive = inactive };
      values = refl;
      conflicts = sym (append-nil (raised σ inner.monitors));
      says = tt;
    }
    end_all (x ∷ xs) κ β v inner [] longer built extra splits e sol ranges inactive = absurd (cc)
    end_all (x ∷ xs) κ β v inner (s ∷ ss) longer built extra splits e sol ranges inactive =
        let κ' : Copies = behind x κ β in
        let β' : Builder = reserve vs x true β in
        let one : Builder = closed_one x v β inner in
        let grows = begun_grows vs xs κ' β' in
        let bigger : length inner.cells ≤ length one.cells = longer_one x v β inner in
        let built' : IsBuilt vs one = record { cells = λ k h. let less : k < length inner.cells = built.cells k h in omega (arith, less, bigger); writes = built.writes } in
        let tail = end_all xs κ' β' (v + variable_registers vs x) one ss (omega (arith, longer, bigger)) built' extra splits (heads _ _ _ _ e).1 sol ranges inactive in
        let room : length β'.cells ≤ length inner.cells = omega (arith, longer, grows.longer) in
        let c = closing_one x v β inner s room built (grows.more ++ extra) (splits ∙ ap (λ l. l ++ extra) grows.reserved ∙ append_assoc β'.reserved grows.more extra) (heads _ _ _ _ e).0 tail.good in
        let given : List ℤ = cell_values σ (new_cells vs x β) in
        let size : length β.cells + count_of vs x ≡ length β'.cells = sym (reserve_longer vs x true β) in
        let same : given ≡ worths_of σ (map (tree_at one.cells) (new_cells vs x β)) =
        numbers_met one.cells (length β.cells) (count_of vs x) (omega (arith, room, bigger, size))
        (λ k d l is. sol k d (ended_keeps xs κ' β' (v + variable_registers vs x) one k d (inl (omega (arith, l, size))) is) refl) in
        let ws : List Act = acted vs σ inner.writes in
        record {
          good = c.good;
          values = ap₂ (λ a l. a ∷ l) (same ∙ c.wanted) tail.values;
          conflicts = tail.conflicts ∙ ap (λ l. l ++ output_conflicts vs xs ws (outputs_in σ (begun vs xs κ' β').outputs)) (c.raises ∙ ap (λ l. raised σ inner.monitors ++ l) (c.conflicts_are same))
              ∙ append_assoc (raised σ inner.monitors) (store_conflicts (declared_at vs x) x ws 0 given) (output_conflicts vs xs ws (outputs_in σ (begun vs xs κ' β').outputs));
          says = (refl, refl, c.says, tail.says);
        }

    -- ---- all outputs, where their value cells are free

    -- the values of the trees of outputs' value cells
    abbrev pub wanted_in : List Defined → List OutputCopy → List (List ℤ)
    wanted_in cs [] = []
    wanted_in cs (o ∷ os) = worths_of σ (map (tree_at cs) o.cells) ∷ wanted_in cs os

    -- the cells before closing are good, and the trees of each output's value cells have the values that are resolved
    pub record OpenEnd (xs : List ℕ) (κ : Copies) (β : Builder) (v : ℕ) (inner : Builder) (ss : List Store) : Type 0 where
      pub good : Good vs σ inner
      pub wanted : wanted_in (ended vs (begun vs xs κ β).outputs v inner).built.cells (begun vs xs κ β).outputs ≡ map values_of (next_stores vs xs (acted vs σ inner.writes) ss)

    trees_same : (cs ds : List Defined) (f n : ℕ) → f + n ≤ length cs → ((k : ℕ) (d : Defined) → k < f + n → slice_get cs k ≡ Some d → slice_get ds k ≡ Some d)
        → worths_of σ (map (tree_at ds) (numbers_from f n)) ≡ worths_of σ (map (tree_at cs) (numbers_from f n))
    trees_same cs ds f zero le kept = refl
    trees_same cs ds f (suc n) le kept =
        let h = has_tree cs f (omega (arith, le)) in
        ap₂ (λ z l. z ∷ l) (one (slice_get cs f) (slice_get ds f) (h.is ∙ sym (kept f (record { tree = tree_at cs f; place = h.place }) (omega arith) h.is)))
        (trees_same cs ds (f + 1) n (omega (arith, le)) (λ k d l is. kept k d (omega (arith, l)) is))
      where
        one : (a b : Option Defined) → slice_get cs f ≡ slice_get ds f → worth σ (tree_at ds f) ≡ worth σ (tree_at cs f)
        one a b e = rw e refl

    pub open_all : (xs : List ℕ) (κ : Copies) (β : Builder) (v : ℕ) (inner : Builder) (ss : List Store)
        → length (begun vs xs κ β).built.cells ≤ length inner.cells → IsBuilt vs inner → (extra : List Reserved) → inner.reserved ≡ (begun vs xs κ β).built.reserved ++ extra
        → plain_stores vs xs ss ≡ stores_of vs xs v σ.registers → MeetsBut (λ k. is_among k (cells_of inner.reserved)) σ (ended vs (begun vs xs κ β).outputs v inner).built.cells
        → AllInRange vs σ inner.reserved → InactiveAreMet σ inner.scopes → OpenEnd xs κ β v inner ss
    open_all [] κ β v inner ss longer built extra splits e met ranges inactive = record { good = record { met = met; ranges = ranges; inactive = inactive }; wanted = refl }
    open_all (x ∷ xs) κ β v inner [] longer built extra splits e met ranges inactive = absurd (cc)
    open_all (x ∷ xs) κ β v inner (s ∷ ss) longer built extra splits e met ranges inactive =
        let κ' : Copies = behind x κ β in
        let β' : Builder = reserve vs x true β in
        let one : Builder = closed_one x v β inner in
        let grows = begun_grows vs xs κ' β' in
        let bigger : length inner.cells ≤ length one.cells = longer_one x v β inner in
        let built' : IsBuilt vs one = record { cells = λ k h. let less : k < length inner.cells = built.cells k h in omega (arith, less, bigger); writes = built.writes } in
        let tail = open_all xs κ' β' (v + variable_registers vs x) one ss (omega (arith, longer, bigger)) built' extra splits (heads _ _ _ _ e).1 met ranges inactive in
        let room : length β'.cells ≤ length inner.cells = omega (arith, longer, grows.longer) in
        let c = closing_one x v β inner s room built (grows.more ++ extra) (splits ∙ ap (λ l. l ++ extra) grows.reserved ∙ append_assoc β'.reserved grows.more extra) (heads _ _ _ _ e).0 tail.good in
        let size : length β.cells + count_of vs x ≡ length β'.cells = sym (reserve_longer vs x true β) in
        let final : List Defined = (ended vs (begun vs (x ∷ xs) κ β).outputs v inner).built.cells in
        record {
          good = c.good;
          wanted = ap₂ (λ a l. a ∷ l)
              (trees_same one.cells final (length β.cells) (count_of vs x) (omega (arith, room, bigger, size))
              (λ k d l is. ended_keeps xs κ' β' (v + variable_registers vs x) one k d (inl (omega (arith, l, size))) is) ∙ c.wanted) tail.wanted;
        }
