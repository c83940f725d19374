-- Where cells have an order, the value cells of a solution lie in the ranges of their variables: along the order, with
-- what cells have where nothing is written in place of those that come later.
use Rattle.std.proofs.Common.{◌≡◌, ◌⊎◌, inl, inr, ℕ, zero, suc, ◌≤◌, ◌<◌, ◌==◌, ◌||◌, ℤ, pos, Bool, true, false, List, [], ◌∷◌, length, take, get_or, Some, refl, sym, ap, ◌∙◌, subst, arith}
use Rattle.std.specs.Prelude.{slice_get, if◌then◌else◌}
use Rattle.std.proofs.lemmas.Bool.Decides.{nat_tests}
use Rattle.quartz_expr.specs.Vars.{Vars}
use Rattle.quartz_expr.specs.Intervals.{Lies, range_of}
use Rattle.quartz_expr.specs.Typed.{AllLie}
use Rattle.quartz_expr.specs.Terms.{Term}
use Rattle.quartz_expr.specs.Steps.{State}
use Rattle.aif_cells.specs.Tree.{Tree}
use Rattle.aif_cells.specs.Built.{Defined}
use Rattle.aif_cells.specs.Worth.{Assignment, worth}
use Rattle.aif_cells.specs.Dependences.{DependsOn}
use Rattle.aif_cells.specs.Solution.{MeetsBut}
use Rattle.aif_cells.specs.Order.{IsOrder}
use Rattle.aif_cells.proofs.SolutionLemmas.{there}
use Rattle.absence_reaction.specs.Meaning.{is_among}
use Rattle.statement_cells.specs.Builder.{Reserved, Scoped}
use Rattle.statement_cells.specs.Earlier.{value_cells}
use Rattle.statement_cells.specs.Walk.{AllInRange, AreMetOrAbsent, InactiveAreMet, cells_of, worths_of}
use Rattle.statement_cells.specs.Whole.{beginning, body_built, compiled, first_scope}
use Rattle.statement_cells.specs.Meaning.{AreInputs, HasInputs, IsSoundModule, StandsFor, inputs_of}
use Rattle.statement_cells.proofs.EarlierCompiledLemmas.{compiled_names_before}
use Rattle.statement_cells.proofs.GrowLemmas.{AllRecorded, HasTree, HaveTrees}
use Rattle.statement_cells.proofs.LiesLemmas.{zero_lies}
use Rattle.statement_cells.proofs.PlacedLemmas.{AllAbsent, AbsentAt, reserved_in}
use Rattle.macro_steps.specs.Laws.{IsSolved}
use Rattle.macro_steps.specs.Ranges.{RegistersLie}
use Rattle.macro_steps.proofs.AgreeLemmas.{with_cells, worth_agrees}
use Rattle.macro_steps.proofs.AbsentLemmas.{AllFit, HaveValues, ScopesHaveValues, absent_at, absent_below, absents_have, fit_both, scopes_fit}
use Rattle.macro_steps.proofs.ForwardLemmas.{forward, forward_free, forward_meets}
use Rattle.macro_steps.proofs.OpenLemmas.{IsOpen, begun_built, opened, scopes_between, scopes_recorded}
use Rattle.macro_steps.proofs.OrderLemmas.{cell_at, earlier, place_in}
use Rattle.macro_steps.proofs.StoreLemmas.{absent_is, absent_lies}
use Rattle.macro_steps.proofs.WantedLemmas.{At', Wanted, all_wanted, body_absent, body_kept, body_listed, scope_place}
use Rattle.aif_cells.proofs.ItemLemmas.{at_place}

-- ---- the front of an order

among_front : (order : List ℕ) (n i k : ℕ) → i < n → slice_get order i ≡ Some k → is_among k (take n order) ≡ true
among_front [] n i k l e = absurd (cc)
among_front (x ∷ order) zero i k l e = absurd (omega (arith, l))
among_front (x ∷ order) (suc n) zero k l e = ap (λ b. b || is_among k (take n order)) (self k x (same e))
  where
    same : {a b : ℕ} → Some a ≡ Some b → a ≡ b
    same p = cc

    self : (k x : ℕ) → x ≡ k → (k == x) ≡ true
    self k x p = grind (arith, nat_tests, p)
among_front (x ∷ order) (suc n) (suc i) k l e = at (k == x) (among_front order n i k (omega (arith, l)) e)
  where
    at : (b : Bool) → is_among k (take n order) ≡ true → (b || is_among k (take n order)) ≡ true
    at true h = refl
    at false h = h

among_next : (order : List ℕ) (n k q : ℕ) → slice_get order n ≡ Some k → is_among q (take (suc n) order) ≡ true → (is_among q (take n order) ≡ true) ⊎ (q ≡ k)
among_next [] n k q e h = absurd (cc)
among_next (x ∷ order) zero k q e h = inr (same (q == x) refl h ∙ value e)
  where
    value : {a b : ℕ} → Some a ≡ Some b → a ≡ b
    value p = cc

    is : (q == x) ≡ true → q ≡ x
    is p = grind (arith, nat_tests, p)

    same : (b : Bool) → (q == x) ≡ b → (b || false) ≡ true → q ≡ x
    same true p g = is p
    same false p g = absurd (cc)
among_next (x ∷ order) (suc n) k q e h = at (q == x) h (among_next order n k q e)
  where
    at : (b : Bool) → (b || is_among q (take (suc n) order)) ≡ true → (is_among q (take (suc n) order) ≡ true → (is_among q (take n order) ≡ true) ⊎ (q ≡ k))
        → ((b || is_among q (take n order)) ≡ true) ⊎ (q ≡ k)
    at true g f = inl refl
    at false g f = f g

-- the place of a number in front
front_place : (order : List ℕ) (n k : ℕ) → is_among k (take n order) ≡ true → (i : ℕ) × (i < n) × (slice_get order i ≡ Some k)
front_place [] n k e = absurd (none n e)
  where
    none : (n : ℕ) → is_among k (take n []) ≡ true → ⊥
    none zero e = cc
    none (suc n) e = cc
front_place (x ∷ order) zero k e = absurd (cc)
front_place (x ∷ order) (suc n) k e = at (k == x) refl (front_place order n k)
  where
    same : (k == x) ≡ true → x ≡ k
    same p = grind (arith, nat_tests, p)

    at : (b : Bool) → (k == x) ≡ b → (is_among k (take n order) ≡ true → (i : ℕ) × (i < n) × (slice_get order i ≡ Some k)) → (i : ℕ) × (i < suc n) × (slice_get (x ∷ order) i ≡ Some k)
    at true p f = (0, omega arith, ap Some (same p))
    at false p f = let r = f (sym (ap (λ b. b || is_among k (take n order)) p) ∙ e) in let l = r.1 in (suc r.0, omega (arith, l), r.2)

-- ---- ranges that hold

fit_ranges : (vs : Vars) (σ : Assignment) (rs : List Reserved) → AllFit vs σ.cells rs → AllInRange vs σ rs
fit_ranges vs σ [] h = tt
fit_ranges vs σ (r ∷ rs) h = (h.0, fit_ranges vs σ rs h.1)

fit_same : (vs : Vars) (f g : ℕ → ℤ) (rs : List Reserved) → ((k : ℕ) → is_among k (cells_of rs) ≡ true → g k ≡ f k) → AllFit vs f rs → AllFit vs g rs
fit_same vs f g [] e h = tt
fit_same vs f g (r ∷ rs) e h = (subst (Lies (range_of vs r.var)) (sym (e r.cell (own r.cell (is_among r.cell (cells_of rs))))) h.0, fit_same vs f g rs (λ k a. e k (more (k == r.cell) (is_among k (cells_of rs)) a)) h.1)
  where
    own : (k : ℕ) (b : Bool) → ((k == k) || b) ≡ true
    own k b = ap (λ c. c || b) (self k)
      where
        self : (k : ℕ) → (k == k) ≡ true
        self k = grind (arith, nat_tests)

    more : (c b : Bool) → b ≡ true → (c || b) ≡ true
    more true b e = refl
    more false b e = e

-- numbers below all scopes'
zeros_fit : (vs : Vars) (g : ℕ → ℤ) (rs : List Reserved) → ((k : ℕ) → is_among k (cells_of rs) ≡ true → g k ≡ pos 0) → AllFit vs g rs
zeros_fit vs g rs e = fit_same vs (λ k. pos 0) g rs e (all rs)
  where
    all : (rs : List Reserved) → AllFit vs (λ k. pos 0) rs
    all [] = tt
    all (r ∷ rs) = (zero_lies vs r.var, all rs)

-- what lies in ranges for cells of a list
abbrev pub LieOn : Vars → Assignment → List ℕ → List Reserved → Type 0
LieOn vs σ ks [] = Unit {0}
LieOn vs σ ks (r ∷ rs) = (is_among r.cell ks ≡ true → Lies (range_of vs r.var) (σ.cells r.cell)) × LieOn vs σ ks rs

either_fit : (vs : Vars) (σ : Assignment) (ks : List ℕ) (g : ℕ → ℤ) (rs : List Reserved) → LieOn vs σ ks rs → AllFit vs g rs → AllFit vs (λ k. if is_among k ks then σ.cells k else g k) rs
either_fit vs σ ks g [] h f = tt
either_fit vs σ ks g (r ∷ rs) h f = (by (is_among r.cell ks) h.0, either_fit vs σ ks g rs h.1 f.1)
  where
    by : (b : Bool) → (b ≡ true → Lies (range_of vs r.var) (σ.cells r.cell)) → Lies (range_of vs r.var) (if b then σ.cells r.cell else g r.cell)
    by true q = q refl
    by false q = f.0

-- ---- one module, with any values of value cells

module _ (vs : Vars) (t : Term) (sound : IsSoundModule vs t) (σ : Assignment) where
  abbrev pub all_cells : List Defined
  all_cells = (compiled vs t).cells

  abbrev pub is_value : ℕ → Bool
  is_value k = is_among k (value_cells vs t)

  -- the other cells are computed from these values of value cells
  abbrev pub computed : (ℕ → ℤ) → ℕ → ℤ
  computed f = forward σ all_cells is_value f

  pub computed_meets : (f : ℕ → ℤ) → MeetsBut is_value (with_cells σ (computed f)) all_cells
  computed_meets f = forward_meets σ all_cells is_value (compiled_names_before vs t).before f

  -- what value cells have where nothing is written
  abbrev pub unwritten : ℕ → ℤ
  unwritten = absent_at σ (body_built vs t).scopes

  pub unwritten_have : ScopesHaveValues σ unwritten (body_built vs t).scopes
  unwritten_have =
      absents_have σ (length (beginning vs).built.cells) (body_built vs t).cells (length (beginning vs).built.cells) (length (body_built vs t).cells) (body_built vs t).scopes
      (scopes_recorded vs t sound σ) (scopes_between vs t sound σ)

  begun_below : (k : ℕ) → is_among k (cells_of (beginning vs).built.reserved) ≡ true → k < length (beginning vs).built.cells
  begun_below k e = (begun_built vs t sound).cells k e

  module _ (lie : RegistersLie vs t σ.registers) where
    absents : (s : Scoped) → AbsentAt vs (At' vs t) s → AllLie (range_of vs s.var) (worths_of σ s.absent)
    absents = absent_lies vs (At' vs t) σ sound.starts (λ x v a. scope_place vs σ.registers x v t (first_scope vs t) lie.scopes a)

    -- it fits
    pub unwritten_fit : AllFit vs unwritten (body_built vs t).reserved
    unwritten_fit =
        subst (AllFit vs unwritten) (sym (body_listed vs t))
        (fit_both vs unwritten (beginning vs).built.reserved (reserved_in (body_built vs t).scopes)
        (zeros_fit vs unwritten (beginning vs).built.reserved (λ k e. absent_below σ (length (beginning vs).built.cells) (length (body_built vs t).cells) (body_built vs t).scopes k (scopes_between vs t sound σ) (begun_below k e)))
        (scopes_fit vs σ unwritten (At' vs t) (body_built vs t).scopes absents (body_absent vs t) unwritten_have))

  -- values of value cells that fit, and of copies that aren't active as they have to be
  pub opens : (ins : List (List ℤ)) (f : ℕ → ℤ) → AreInputs vs (inputs_of vs) ins → HasInputs σ ins → AllFit vs f (body_built vs t).reserved
      → InactiveAreMet (with_cells σ (computed f)) (body_built vs t).scopes → IsOpen vs t ins (with_cells σ (computed f))
  opens ins f inputs has fit inactive = record {
    inputs = inputs;
    has = has;
    met = computed_meets f;
    ranges = fit_ranges vs (with_cells σ (computed f)) (body_built vs t).reserved (fit_same vs f (computed f) (body_built vs t).reserved (λ k e. forward_free σ all_cells is_value f k e) fit);
    inactive = inactive;
  }

-- ---- a solution

module _ (vs : Vars) (t : Term) (s : State) (ins : List (List ℤ)) (σ : Assignment) (order : List ℕ)
    (sound : IsSoundModule vs t) (is : IsOrder (compiled vs t).cells order) (stands : StandsFor vs t σ.registers s) (solved : IsSolved vs t ins σ) where
  -- the solution's values in front, and what cells have where nothing is written behind
  abbrev guess : List ℕ → ℕ → ℤ
  guess front k = if is_among k front then σ.cells k else unwritten vs t sound σ k

  abbrev before : ℕ → Assignment
  before n = with_cells σ (computed vs t sound σ (guess (take n order)))

  guess_front : (n i k : ℕ) → i < n → slice_get order i ≡ Some k → guess (take n order) k ≡ σ.cells k
  guess_front n i k l e = ap (λ b. if b then σ.cells k else unwritten vs t sound σ k) (among_front order n i k l e)

  -- the front has the solution's values
  agrees : (n m i k : ℕ) → i < m → i < n → slice_get order i ≡ Some k → σ.cells k ≡ (before n).cells k
  agrees n zero i k l less e = absurd (omega (arith, l))
  agrees n (suc m) i k l less e = by (is_value vs t sound σ k) refl (λ d dep. let q = earlier (compiled vs t).cells order is i k d (there order i k e) e dep in let p = q.below in agrees n m q.place d (omega (arith, p, l)) (omega (arith, p, less)) q.there)
    where
      by : (b : Bool) → is_value vs t sound σ k ≡ b → ((d : ℕ) → DependsOn (compiled vs t).cells k d → σ.cells d ≡ (before n).cells d) → σ.cells k ≡ (before n).cells k
      by true p f = sym (forward_free σ (compiled vs t).cells (is_value vs t sound σ) (guess (take n order)) k p ∙ guess_front n i k less e)
      by false p f =
          let c = cell_at (compiled vs t).cells k (is.in_turn i k e).ready.is_cell in
          solved.solution k c.0 c.1 refl ∙ worth_agrees σ (computed vs t sound σ (guess (take n order))) c.0.tree (λ d named. f d (c.0, c.1, named)) ∙ sym (computed_meets vs t sound σ (guess (take n order)) k c.0 c.1 p)

  -- a tree of a cell in front, or of the next one, has the solution's value
  tree_agrees : (n i k : ℕ) (u : Tree) → i ≤ n → slice_get order i ≡ Some k → HasTree (compiled vs t).cells k u → σ.cells k ≡ worth (before n) u
  tree_agrees n i k u le e h =
      solved.solution k _ h.is refl
      ∙ worth_agrees σ (computed vs t sound σ (guess (take n order))) u (λ d named. let q = earlier (compiled vs t).cells order is i k d (there order i k e) e (_, h.is, named) in let p = q.below in agrees n (suc q.place) q.place d (omega arith) (omega (arith, p, le)) q.there)

  -- value cells in front have the solution's values, which are those of their trees, and the others what they have without writes
  cells_met : (n m : ℕ) (bs : List Defined) (ks : List ℕ) (ts us : List Tree) → ((k : ℕ) (d : Defined) → m ≤ k → slice_get bs k ≡ Some d → slice_get (compiled vs t).cells k ≡ Some d) → HaveTrees m bs ks ts
      → HaveValues σ (unwritten vs t sound σ) ks us → worths_of (before n) us ≡ worths_of σ us → AreMetOrAbsent (before n) ks ts us
  cells_met n m bs [] [] [] kept h v e = tt
  cells_met n m bs (k ∷ ks) (u ∷ ts) (w ∷ us) kept h v e = (by_free (is_value vs t sound σ k) refl, cells_met n m bs ks ts us kept h.2 v.1 (rest e))
    where
      first : {a b : ℤ} {l j : List ℤ} → a ∷ l ≡ b ∷ j → a ≡ b
      first p = cc

      rest : {a b : ℤ} {l j : List ℤ} → a ∷ l ≡ b ∷ j → l ≡ j
      rest p = cc

      tree : HasTree (compiled vs t).cells k u
      tree = record { place = h.1.place; is = kept k _ h.0 h.1.is }

      here : is_value vs t sound σ k ≡ true → (before n).cells k ≡ guess (take n order) k
      here p = forward_free σ (compiled vs t).cells (is_value vs t sound σ) (guess (take n order)) k p

      by_front : (b : Bool) → is_among k (take n order) ≡ b → is_value vs t sound σ k ≡ true → ((before n).cells k ≡ worth (before n) u) ⊎ ((before n).cells k ≡ worth (before n) w)
      by_front true p q =
          let place = front_place order n k p in
          inl (here q ∙ ap (λ b. if b then σ.cells k else unwritten vs t sound σ k) p ∙ tree_agrees n place.0 k u (let l = place.1 in omega (arith, l)) place.2 tree)
      by_front false p q = inr (here q ∙ ap (λ b. if b then σ.cells k else unwritten vs t sound σ k) p ∙ v.0 ∙ sym (first e))

      by_free : (b : Bool) → is_value vs t sound σ k ≡ b → ((before n).cells k ≡ worth (before n) u) ⊎ ((before n).cells k ≡ worth (before n) w)
      by_free true q = by_front (is_among k (take n order)) refl q
      by_free false q = inl (computed_meets vs t sound σ (guess (take n order)) k _ tree.is q)
  cells_met n m bs [] [] (w ∷ us) kept h v e = absurd v
  cells_met n m bs (k ∷ ks) (u ∷ ts) [] kept h v e = absurd v
  cells_met n m bs [] (u ∷ ts) us kept h v e = absurd h
  cells_met n m bs (k ∷ ks) [] us kept h v e = absurd h

  inactive_met : (n : ℕ) (ss : List Scoped) → AllRecorded (length (beginning vs).built.cells) (body_built vs t).cells ss → ScopesHaveValues σ (unwritten vs t sound σ) ss → AllAbsent vs (At' vs t) ss
      → InactiveAreMet (before n) ss
  inactive_met n [] r h a = tt
  inactive_met n (c ∷ ss) r h a = (
    λ e. cells_met n (length (beginning vs).built.cells) (body_built vs t).cells c.cells c.trees c.absent (body_kept vs t) r.0 h.0
        (absent_is vs (At' vs t) σ sound.starts (λ x v b. scope_place vs σ.registers x v t (first_scope vs t) solved.registers.scopes b) (computed vs t sound σ (guess (take n order))) c a.0),
    inactive_met n ss r.2 h.1 a.1,
  )

  opens_at : (n : ℕ) → LieOn vs σ (take n order) (body_built vs t).reserved → IsOpen vs t ins (before n)
  opens_at n h = opens vs t sound σ ins (guess (take n order)) solved.inputs solved.has (either_fit vs σ (take n order) (unwritten vs t sound σ) (body_built vs t).reserved h (unwritten_fit vs t sound σ solved.registers))
      (inactive_met n (body_built vs t).scopes (scopes_recorded vs t sound σ) (unwritten_have vs t sound σ) (body_absent vs t))

  wanted_at : (n : ℕ) → LieOn vs σ (take n order) (body_built vs t).reserved → Wanted vs (before n) (compiled vs t).cells (body_built vs t).reserved
  wanted_at n h =
      let free : IsOpen vs t ins (before n) = opens_at n h in
      all_wanted vs t sound ins (before n) free s solved.registers (opened vs t sound ins (before n) free s stands) stands

  -- one more cell
  more_lie : (n k : ℕ) (rs : List Reserved) → slice_get order n ≡ Some k → Wanted vs (before n) (compiled vs t).cells rs → LieOn vs σ (take n order) rs → LieOn vs σ (take (suc n) order) rs
  more_lie n k [] e w h = tt
  more_lie n k (r ∷ rs) e (u, tree, lies, more) h = (λ a. by (among_next order n k r.cell e a), more_lie n k rs e more h.1)
    where
      by : (is_among r.cell (take n order) ≡ true) ⊎ (r.cell ≡ k) → Lies (range_of vs r.var) (σ.cells r.cell)
      by (inl a) = h.0 a
      by (inr q) = subst (Lies (range_of vs r.var)) (sym (tree_agrees n n r.cell u (omega arith) (e ∙ ap Some (sym q)) tree)) lies

  none_lie : (rs : List Reserved) → LieOn vs σ [] rs
  none_lie [] = tt
  none_lie (r ∷ rs) = (λ a. absurd (cc), none_lie rs)

  front_lie : (n : ℕ) → n ≤ length order → LieOn vs σ (take n order) (body_built vs t).reserved
  front_lie zero le = none_lie (body_built vs t).reserved
  front_lie (suc n) le =
      let h = front_lie n (omega (arith, le)) in
      more_lie n (get_or order n 0) (body_built vs t).reserved (at_place order n 0 (omega (arith, le))) (wanted_at n h) h

  all_lie : (rs : List Reserved) → Wanted vs (before (length order)) (compiled vs t).cells rs → LieOn vs σ (take (length order) order) rs → AllInRange vs σ rs
  all_lie [] w h = tt
  all_lie (r ∷ rs) (u, tree, lies, more) h =
      let p = place_in (compiled vs t).cells order is r.cell (there (compiled vs t).cells r.cell _ tree.is) in
      (h.0 (among_front order (length order) p.0 r.cell (there order p.0 r.cell p.1) p.1), all_lie rs more h.1)

  -- all value cells lie in their ranges
  pub solution_lies : AllInRange vs σ (body_built vs t).reserved
  solution_lies = let h = front_lie (length order) (omega arith) in all_lie (body_built vs t).reserved (wanted_at (length order) h) h
