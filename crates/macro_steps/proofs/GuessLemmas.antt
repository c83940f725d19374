-- Values of value cells from the values that scopes have in a reaction: copies take them one after another where they are
-- active.
use Rattle.std.proofs.Common.{◌≡◌, ◌⊎◌, inl, inr, ◌∙◌, ℕ, zero, suc, ◌+◌, ◌≤◌, ◌<◌, ◌==◌, ◌||◌, ◌&&◌, ℤ, pos, Bool, true, false, List, [], ◌∷◌, ◌++◌, length, map, All, refl, sym, ap, ap₂, subst, arith}
use Rattle.std.specs.Prelude.{if◌then◌else◌}
use Rattle.std.proofs.lemmas.Bool.Decides.{nat_tests}
use Rattle.quartz_expr.specs.Vars.{Vars}
use Rattle.quartz_expr.specs.Intervals.{Lies, range_of}
use Rattle.quartz_expr.specs.Writes.{in_range}
use Rattle.quartz_expr.specs.Terms.{Term}
use Rattle.quartz_expr.specs.React.{Met, meetings}
use Rattle.aif_cells.specs.declared.reference.Ref.{Ref}
use Rattle.aif_cells.specs.declared.reference.Ref.TheVariants as ref
use Rattle.aif_cells.specs.Tree.{Tree}
use Rattle.aif_cells.specs.Built.{Defined}
use Rattle.aif_cells.specs.Worth.{Assignment, truth, worth}
use Rattle.absence_reaction.specs.Meaning.{is_among}
use Rattle.absence_reaction.specs.Earlier.{IsBelow}
use Rattle.reincarnation.specs.Entering.{numbers_from}
use Rattle.statement_cells.specs.Builder.{Activity, started, resumed, Reserved, Scoped, reserved_cells}
use Rattle.statement_cells.specs.Earlier.{ActivityIsBelow}
use Rattle.statement_cells.specs.Walk.{cells_of, cell_values, is_active, met_by, met_if, now, worths_of}
use Rattle.statement_cells.specs.Stands.{some}
use Rattle.statement_cells.specs.Meaning.{IsSoundModule}
use Rattle.statement_cells.proofs.EarlierCompiledLemmas.{compiled_names_before}
use Rattle.statement_cells.proofs.GrowLemmas.{AllRecorded, AreBetween, HaveTrees, between_bounds}
use Rattle.statement_cells.proofs.LiesLemmas.{in_range_lies}
use Rattle.statement_cells.proofs.PlacedLemmas.{reserved_in}
use Rattle.statement_cells.proofs.ScopeEnvLemmas.{length_map}
use Rattle.statement_cells.proofs.ScopeGrowLemmas.{length_numbers}
use Rattle.macro_steps.proofs.AgreeLemmas.{with_cells}
use Rattle.macro_steps.proofs.AbsentLemmas.{AllFit, HaveValues, ScopesHaveValues, fit_both}
use Rattle.macro_steps.proofs.FillLemmas.{Fills}
use Rattle.macro_steps.proofs.ForwardLemmas.{forward_free, forward_same}
use Rattle.macro_steps.proofs.RangeLemmas.{all_cells, computed, is_value}

-- ---- putting values into the cells of a copy

module _ (vs : Vars) (x : ℕ) (f : ℕ → ℤ) where
  put : List ℕ → List ℤ → ℕ → ℤ
  put [] ys q = f q
  put (k ∷ ks) [] q = f q
  put (k ∷ ks) (y ∷ ys) q = if q == k then in_range vs x y else put ks ys q

  put_none : (ks : List ℕ) (q : ℕ) → put ks [] q ≡ f q
  unfolding put
  put_none [] q = refl
  put_none (k ∷ ks) q = refl

  put_own : (k : ℕ) (ks : List ℕ) (y : ℤ) (ys : List ℤ) → put (k ∷ ks) (y ∷ ys) k ≡ in_range vs x y
  unfolding put
  put_own k ks y ys = ap (λ b. if b then in_range vs x y else put ks ys k) (self k)
    where
      self : (k : ℕ) → (k == k) ≡ true
      self k = grind (arith, nat_tests)

  put_other : (k : ℕ) (ks : List ℕ) (y : ℤ) (ys : List ℤ) (q : ℕ) → (q ≡ k → ⊥) → put (k ∷ ks) (y ∷ ys) q ≡ put ks ys q
  unfolding put
  put_other k ks y ys q h = ap (λ b. if b then in_range vs x y else put ks ys q) (apart (q == k) refl)
    where
      same : (q == k) ≡ true → q ≡ k
      same e = grind (arith, nat_tests, e)

      apart : (b : Bool) → (q == k) ≡ b → (q == k) ≡ false
      apart true e = absurd (h (same e))
      apart false e = e

  put_out : (n a : ℕ) (ys : List ℤ) (q : ℕ) → (q < a) ⊎ (a + n ≤ q) → put (numbers_from a n) ys q ≡ f q
  unfolding put
  put_out zero a ys q h = refl
  put_out (suc n) a [] q h = refl
  put_out (suc n) a (y ∷ ys) q h = put_other a (numbers_from (a + 1) n) y ys q (differ h) ∙ put_out n (a + 1) ys q (further h)
    where
      differ : (q < a) ⊎ (a + suc n ≤ q) → q ≡ a → ⊥
      differ (inl l) e = omega (arith, l, e)
      differ (inr l) e = omega (arith, l, e)

      further : (q < a) ⊎ (a + suc n ≤ q) → (q < a + 1) ⊎ (a + 1 + n ≤ q)
      further (inl l) = inl (omega (arith, l))
      further (inr l) = inr (omega (arith, l))

-- the values that are left
left : List ℕ → List ℤ → List ℤ
left [] ys = ys
left (k ∷ ks) [] = []
left (k ∷ ks) (y ∷ ys) = left ks ys

none_fills : (vs : Vars) (ms : List Met) (rest : List ℤ) → Fills vs ms [] rest → [] ≡ rest
none_fills vs [] rest h = h
none_fills vs (m ∷ ms) rest h = h

module _ (vs : Vars) (x : ℕ) (f g h : ℕ → ℤ) where
  -- such a copy is filled
  put_fills : (n a : ℕ) (us : List ℤ) (more : List Met) (ys rest : List ℤ) → length us ≡ n → ((k : ℕ) → a ≤ k → k < a + n → g k ≡ put vs x f (numbers_from a n) ys k) → Fills vs more (left (numbers_from a n) ys) rest
      → Fills vs (meetings x (map g (numbers_from a n)) us ++ more) ys rest
  unfolding left
  put_fills zero a us more ys rest e same q = q
  put_fills (suc n) a [] more ys rest e same q = absurd (omega (arith, e))
  put_fills (suc n) a (u ∷ us) more [] rest e same q = none_fills vs more rest q
  put_fills (suc n) a (u ∷ us) more (y ∷ ys) rest e same q = (
    same a (omega arith) (omega arith) ∙ put_own vs x f a (numbers_from (a + 1) n) y ys,
    put_fills n (a + 1) us more ys rest (omega (arith, e))
        (λ k l m. same k (omega (arith, l)) (omega (arith, m)) ∙ put_other vs x f a (numbers_from (a + 1) n) y ys k (λ r. omega (arith, l, r))) q,
  )

  -- its values lie in the range, if those that it had do
  put_fit : (n a : ℕ) (ys : List ℤ) → ((k : ℕ) → a ≤ k → k < a + n → g k ≡ put vs x f (numbers_from a n) ys k) → ((k : ℕ) → a ≤ k → f k ≡ h k) → AllFit vs h (reserved_cells x (numbers_from a n)) → AllFit vs g (reserved_cells x (numbers_from a n))
  put_fit zero a ys same old q = tt
  put_fit (suc n) a [] same old q = (
    subst (Lies (range_of vs x)) (sym (same a (omega arith) (omega arith) ∙ put_none vs x f (numbers_from a (suc n)) a ∙ old a (omega arith))) q.0,
    put_fit n (a + 1) [] (λ k l m. same k (omega (arith, l)) (omega (arith, m)) ∙ put_none vs x f (numbers_from a (suc n)) k ∙ sym (put_none vs x f (numbers_from (a + 1) n) k)) (λ k l. old k (omega (arith, l))) q.1,
  )
  put_fit (suc n) a (y ∷ ys) same old q = (
    subst (Lies (range_of vs x)) (sym (same a (omega arith) (omega arith) ∙ put_own vs x f a (numbers_from (a + 1) n) y ys)) (in_range_lies vs x y),
    put_fit n (a + 1) ys (λ k l m. same k (omega (arith, l)) (omega (arith, m)) ∙ put_other vs x f a (numbers_from (a + 1) n) y ys k (λ r. omega (arith, l, r))) (λ k l. old k (omega (arith, l))) q.1,
  )

  pub same_fit : (n a : ℕ) → ((k : ℕ) → a ≤ k → k < a + n → g k ≡ h k) → AllFit vs h (reserved_cells x (numbers_from a n)) → AllFit vs g (reserved_cells x (numbers_from a n))
  same_fit zero a same q = tt
  same_fit (suc n) a same q = (subst (Lies (range_of vs x)) (sym (same a (omega arith) (omega arith))) q.0, same_fit n (a + 1) (λ k l m. same k (omega (arith, l)) (omega (arith, m))) q.1)

  pub same_values : (σ : Assignment) (n a : ℕ) (us : List Tree) → ((k : ℕ) → a ≤ k → k < a + n → g k ≡ h k) → HaveValues σ h (numbers_from a n) us → HaveValues σ g (numbers_from a n) us
  same_values σ zero a [] same q = tt
  same_values σ zero a (u ∷ us) same q = absurd q
  same_values σ (suc n) a [] same q = absurd q
  same_values σ (suc n) a (u ∷ us) same q = (same a (omega arith) (omega arith) ∙ q.0, same_values σ n (a + 1) us (λ k l m. same k (omega (arith, l)) (omega (arith, m))) q.1)

  map_same : (n a : ℕ) → ((k : ℕ) → a ≤ k → k < a + n → g k ≡ h k) → map g (numbers_from a n) ≡ map h (numbers_from a n)
  map_same zero a same = refl
  map_same (suc n) a same = ap₂ (λ z l. z ∷ l) (same a (omega arith) (omega arith)) (map_same n (a + 1) (λ k l m. same k (omega (arith, l)) (omega (arith, m))))

-- ---- where copies are active

module _ (σ : Assignment) (g h : ℕ → ℤ) where
  truth_same : (m : ℕ) (r : Ref) → IsBelow m r → ((k : ℕ) → k < m → g k ≡ h k) → truth (with_cells σ g) r ≡ truth (with_cells σ h) r
  truth_same m (ref.Lit z) b same = refl
  truth_same m (ref.Input i) b same = refl
  truth_same m (ref.Reg i) b same = refl
  truth_same m (ref.Cell c) b same = let l : c < m = b 0 0 (omega arith) in ap (λ z. holds' z) (same c l)
    where
      holds' : ℤ → Bool
      holds' z = truth σ (ref.Lit z)

  active_same : (m : ℕ) (a : Activity) → ActivityIsBelow m a → ((k : ℕ) → k < m → g k ≡ h k) → is_active (with_cells σ g) a ≡ is_active (with_cells σ h) a
  active_same m (started go) b same = truth_same m go b same
  active_same m (resumed l n res) b same = ap (λ c. some (now σ) l n && c) (truth_same m res b same)

-- each copy's activity is before its cells
abbrev pub AllActive : List Scoped → Type 0
AllActive [] = Unit {0}
AllActive (s ∷ ss) = All (λ k. ActivityIsBelow k s.active) s.cells × AllActive ss

-- ---- all copies

module _ (vs : Vars) (t : Term) (sound : IsSoundModule vs t) (σ : Assignment) where
  abbrev pub solved_by : (ℕ → ℤ) → Assignment
  solved_by f = with_cells σ (computed vs t sound σ f)

  pub fill : (ℕ → ℤ) → List Scoped → List ℤ → ℕ → ℤ
  fill f [] ys = f
  fill f (s ∷ ss) ys = if is_active (solved_by f) s.active then fill (put vs s.var f s.cells ys) ss (left s.cells ys) else fill f ss ys

  fill_active : (f : ℕ → ℤ) (s : Scoped) (ss : List Scoped) (ys : List ℤ) → is_active (solved_by f) s.active ≡ true → fill f (s ∷ ss) ys ≡ fill (put vs s.var f s.cells ys) ss (left s.cells ys)
  unfolding fill
  fill_active f s ss ys e = ap (λ b. if b then fill (put vs s.var f s.cells ys) ss (left s.cells ys) else fill f ss ys) e

  fill_rests : (f : ℕ → ℤ) (s : Scoped) (ss : List Scoped) (ys : List ℤ) → is_active (solved_by f) s.active ≡ false → fill f (s ∷ ss) ys ≡ fill f ss ys
  unfolding fill
  fill_rests f s ss ys e = ap (λ b. if b then fill (put vs s.var f s.cells ys) ss (left s.cells ys) else fill f ss ys) e

  -- copies that aren't active have what they have where nothing is written
  abbrev pub RestAbsent : (ℕ → ℤ) → List Scoped → Type 0
  RestAbsent g [] = Unit {0}
  RestAbsent g (s ∷ ss) = (is_active (solved_by g) s.active ≡ false → HaveValues σ g s.cells s.absent) × RestAbsent g ss

  pub record Filled (lo top : ℕ) (ss : List Scoped) (f g : ℕ → ℤ) (ys : List ℤ) : Type 0 where
    pub same : (k : ℕ) → k < lo → g k ≡ f k
    pub above : (k : ℕ) → top ≤ k → g k ≡ f k
    pub rest : List ℤ
    pub fills : Fills vs (met_by (solved_by g) ss) ys rest
    pub fit : AllFit vs g (reserved_in ss)
    pub absent : RestAbsent g ss

  have_length : (n : ℕ) (bs : List Defined) (ks : List ℕ) (ts : List Tree) → HaveTrees n bs ks ts → length ts ≡ length ks
  have_length n bs [] [] h = refl
  have_length n bs (k ∷ ks) (u ∷ ts) h = ap suc (have_length n bs ks ts h.2)
  have_length n bs [] (u ∷ ts) h = absurd h
  have_length n bs (k ∷ ks) [] h = absurd h

  -- a copy, and those behind it
  module _ (h : ℕ → ℤ) (x : ℕ) (act : Activity) (ts us : List Tree) (a n lo top : ℕ) (ss : List Scoped) (f : ℕ → ℤ) (ys : List ℤ) where
    abbrev here : Scoped
    here = record { var = x; active = act; cells = numbers_from a n; trees = ts; absent = us }

    module _ (size : length ts ≡ n) (room : a + n ≤ length (all_cells vs t sound σ)) (low : lo ≤ a) (tip : a + n ≤ top) (below : All (λ k. ActivityIsBelow k act) (numbers_from a n))
        (are_values : (k : ℕ) → a ≤ k → k < a + n → is_value vs t sound σ k ≡ true) (old : (k : ℕ) → lo ≤ k → f k ≡ h k)
        (fits : AllFit vs h (reserved_cells x (numbers_from a n))) (haves : HaveValues σ h (numbers_from a n) us) where
      -- where there are cells, the copy is active as it was
      active_then : (g : ℕ → ℤ) → 0 < n → ((k : ℕ) → k < a → g k ≡ f k) → is_active (solved_by g) act ≡ is_active (solved_by f) act
      active_then g some_cells same =
          active_same σ (computed vs t sound σ g) (computed vs t sound σ f) a act (first n some_cells below)
          (forward_same σ (all_cells vs t sound σ) (is_value vs t sound σ) (compiled_names_before vs t).before g f a (omega (arith, room)) same)
        where
          first : (n : ℕ) → 0 < n → All (λ k. ActivityIsBelow k act) (numbers_from a n) → ActivityIsBelow a act
          first zero p b = absurd (omega (arith, p))
          first (suc n) p b = b 0 0 (omega arith)

      values_are : (g : ℕ → ℤ) → cell_values (solved_by g) (numbers_from a n) ≡ map g (numbers_from a n)
      values_are g = map_same vs x f (computed vs t sound σ g) g n a (λ k l m. forward_free σ (all_cells vs t sound σ) (is_value vs t sound σ) g k (are_values k l m))

      counted : (g : ℕ → ℤ) → length (worths_of (solved_by g) ts) ≡ n
      counted g = length_map (worth (solved_by g)) ts ∙ size

      empty : (b : Bool) (k : ℕ) (zs : List ℤ) → (0 < k → ⊥) → met_if b (meetings x (map (λ q. pos 0) (numbers_from a k)) zs) ≡ []
      empty true zero zs e = refl
      empty false zero zs e = refl
      empty b (suc k) zs e = absurd (e (omega arith))

      -- what the copy adds
      fills_active : (g : ℕ → ℤ) (ys' rest : List ℤ) → is_active (solved_by f) act ≡ true → ((k : ℕ) → k < a → g k ≡ f k) → ((k : ℕ) → a ≤ k → k < a + n → g k ≡ put vs x f (numbers_from a n) ys k)
          → Fills vs (met_by (solved_by g) ss) (left (numbers_from a n) ys) rest → Fills vs (met_by (solved_by g) (here ∷ ss)) ys rest
      unfolding met_by left
      fills_active g ys' rest e same own q = by n refl
        where
          full : (b : Bool) → b ≡ true → Fills vs (met_if b (meetings x (cell_values (solved_by g) (numbers_from a n)) (worths_of (solved_by g) ts)) ++ met_by (solved_by g) ss) ys rest
          full true p = subst (λ zs. Fills vs (meetings x zs (worths_of (solved_by g) ts) ++ met_by (solved_by g) ss) ys rest) (sym (values_are g)) (put_fills vs x f g h n a (worths_of (solved_by g) ts) (met_by (solved_by g) ss) ys rest (counted g) own q)
          full false p = absurd (cc)

          none : (m : ℕ) → n ≡ m → m ≡ 0 → (b : Bool) → Fills vs (met_if b (meetings x (cell_values (solved_by g) (numbers_from a n)) (worths_of (solved_by g) ts)) ++ met_by (solved_by g) ss) ys rest
          none m p z true = full true refl
          none m p z false = subst (λ l. Fills vs (met_by (solved_by g) ss) l rest) (ap (λ k. left (numbers_from a k) ys) (p ∙ z)) q

          by : (m : ℕ) → n ≡ m → Fills vs (met_if (is_active (solved_by g) act) (meetings x (cell_values (solved_by g) (numbers_from a n)) (worths_of (solved_by g) ts)) ++ met_by (solved_by g) ss) ys rest
          by zero p = none zero p refl (is_active (solved_by g) act)
          by (suc m) p = full (is_active (solved_by g) act) (active_then g (omega (arith, p)) same ∙ e)

      fills_resting : (g : ℕ → ℤ) (rest : List ℤ) → is_active (solved_by f) act ≡ false → ((k : ℕ) → k < a → g k ≡ f k) → Fills vs (met_by (solved_by g) ss) ys rest → Fills vs (met_by (solved_by g) (here ∷ ss)) ys rest
      unfolding met_by
      fills_resting g rest e same q = by n refl
        where
          gone : (b : Bool) (zs : List ℤ) → b ≡ false → Fills vs (met_if b (meetings x zs (worths_of (solved_by g) ts)) ++ met_by (solved_by g) ss) ys rest
          gone true zs p = absurd (cc)
          gone false zs p = q

          none : (b : Bool) (ks : List ℕ) → ks ≡ [] → Fills vs (met_if b (meetings x (cell_values (solved_by g) ks) (worths_of (solved_by g) ts)) ++ met_by (solved_by g) ss) ys rest
          none true [] p = q
          none true (k ∷ ks) p = absurd (cc)
          none false ks p = q

          by : (m : ℕ) → n ≡ m → Fills vs (met_if (is_active (solved_by g) act) (meetings x (cell_values (solved_by g) (numbers_from a n)) (worths_of (solved_by g) ts)) ++ met_by (solved_by g) ss) ys rest
          by zero p = none (is_active (solved_by g) act) (numbers_from a n) (ap (numbers_from a) p)
          by (suc m) p = gone (is_active (solved_by g) act) (cell_values (solved_by g) (numbers_from a n)) (active_then g (omega (arith, p)) same ∙ e)

      when_active : is_active (solved_by f) act ≡ true → Filled (a + n) top ss (put vs x f (numbers_from a n) ys) (fill (put vs x f (numbers_from a n) ys) ss (left (numbers_from a n) ys)) (left (numbers_from a n) ys)
          → Filled lo top (here ∷ ss) f (fill (put vs x f (numbers_from a n) ys) ss (left (numbers_from a n) ys)) ys
      when_active e r =
          let g : ℕ → ℤ = fill (put vs x f (numbers_from a n) ys) ss (left (numbers_from a n) ys) in
          let under : (k : ℕ) → k < a → g k ≡ f k = λ k l. r.same k (omega (arith, l)) ∙ put_out vs x f n a ys k (inl l) in
          let own : (k : ℕ) → a ≤ k → k < a + n → g k ≡ put vs x f (numbers_from a n) ys k = λ k l m. r.same k m in
          record {
            same = λ k l. under k (omega (arith, l, low));
            above = λ k l. r.above k l ∙ put_out vs x f n a ys k (inr (omega (arith, l, tip)));
            rest = r.rest;
            fills = fills_active g (left (numbers_from a n) ys) r.rest e under own r.fills;
            fit = fit_both vs g (reserved_cells x (numbers_from a n)) (reserved_in ss) (put_fit vs x f g h n a ys own (λ k l. old k (omega (arith, l, low))) fits) r.fit;
            absent = (λ q. rests g under q (is_active (solved_by g) act) n refl, r.absent);
          }
        where
          rests : (g : ℕ → ℤ) → ((k : ℕ) → k < a → g k ≡ f k) → is_active (solved_by g) act ≡ false → (b : Bool) (m : ℕ) → n ≡ m → HaveValues σ g (numbers_from a n) us
          rests g under q b zero p = same_values vs x f g h σ n a us (λ k l m. absurd (omega (arith, l, m, p))) haves
          rests g under q b (suc m) p = absurd (wrong (sym (active_then g (omega (arith, p)) under ∙ e) ∙ q))
            where
              wrong : true ≡ false → ⊥
              wrong z = cc

      when_resting : is_active (solved_by f) act ≡ false → Filled (a + n) top ss f (fill f ss ys) ys → Filled lo top (here ∷ ss) f (fill f ss ys) ys
      when_resting e r =
          let g : ℕ → ℤ = fill f ss ys in
          let own : (k : ℕ) → a ≤ k → k < a + n → g k ≡ h k = λ k l m. r.same k m ∙ old k (omega (arith, l, low)) in
          record {
            same = λ k l. r.same k (omega (arith, l, low));
            above = r.above;
            rest = r.rest;
            fills = fills_resting g r.rest e (λ k l. r.same k (omega (arith, l))) r.fills;
            fit = fit_both vs g (reserved_cells x (numbers_from a n)) (reserved_in ss) (same_fit vs x f g h n a own fits) r.fit;
            absent = (λ q. same_values vs x f g h σ n a us own haves, r.absent);
          }

      pub one_filled : ((f' : ℕ → ℤ) (ys' : List ℤ) → ((k : ℕ) → a + n ≤ k → f' k ≡ h k) → Filled (a + n) top ss f' (fill f' ss ys') ys') → Filled lo top (here ∷ ss) f (fill f (here ∷ ss) ys) ys
      one_filled ih = by (is_active (solved_by f) act) refl
        where
          by : (b : Bool) → is_active (solved_by f) act ≡ b → Filled lo top (here ∷ ss) f (fill f (here ∷ ss) ys) ys
          by true e = subst (λ g. Filled lo top (here ∷ ss) f g ys) (sym (fill_active f here ss ys e))
              (when_active e (ih (put vs x f (numbers_from a n) ys) (left (numbers_from a n) ys) (λ k l. put_out vs x f n a ys k (inr l) ∙ old k (omega (arith, l, low)))))
          by false e = subst (λ g. Filled lo top (here ∷ ss) f g ys) (sym (fill_rests f here ss ys e)) (when_resting e (ih f ys (λ k l. old k (omega (arith, l, low)))))

  pub among_own : (x a n : ℕ) (rs : List Reserved) (k : ℕ) → a ≤ k → k < a + n → is_among k (cells_of (reserved_cells x (numbers_from a n) ++ rs)) ≡ true
  among_own x a zero rs k l m = absurd (omega (arith, l, m))
  among_own x a (suc n) rs k l m = by (k == a) refl (among_own x (a + 1) n rs k)
    where
      apart : (k == a) ≡ false → a + 1 ≤ k
      apart e = grind (arith, nat_tests, e, l)

      by : (b : Bool) → (k == a) ≡ b → (a + 1 ≤ k → k < a + 1 + n → is_among k (cells_of (reserved_cells x (numbers_from (a + 1) n) ++ rs)) ≡ true) → (b || is_among k (cells_of (reserved_cells x (numbers_from (a + 1) n) ++ rs))) ≡ true
      by true e f = refl
      by false e f = f (apart e) (omega (arith, m))

  pub among_more : (ks : List ℕ) (x : ℕ) (rs : List Reserved) (k : ℕ) → is_among k (cells_of rs) ≡ true → is_among k (cells_of (reserved_cells x ks ++ rs)) ≡ true
  among_more [] x rs k e = e
  among_more (j ∷ ks) x rs k e = by (k == j) (among_more ks x rs k e)
    where
      by : (b : Bool) → is_among k (cells_of (reserved_cells x ks ++ rs)) ≡ true → (b || is_among k (cells_of (reserved_cells x ks ++ rs))) ≡ true
      by true f = refl
      by false f = f

  -- all copies are filled
  pub filled : (h : ℕ → ℤ) (m : ℕ) (bs : List Defined) (ss : List Scoped) (lo hi : ℕ) (f : ℕ → ℤ) (ys : List ℤ) → AreBetween lo hi ss → AllRecorded m bs ss → AllActive ss → hi ≤ length (all_cells vs t sound σ)
      → ((k : ℕ) → is_among k (cells_of (reserved_in ss)) ≡ true → is_value vs t sound σ k ≡ true) → ((k : ℕ) → lo ≤ k → f k ≡ h k) → AllFit vs h (reserved_in ss) → ScopesHaveValues σ h ss → Filled lo hi ss f (fill f ss ys) ys
  unfolding fill met_by
  filled h m bs [] lo hi f ys w r p room v old fit have = record { same = λ k l. refl; above = λ k l. refl; rest = ys; fills = refl; fit = tt; absent = tt }
  filled h m bs (s ∷ ss) lo hi f ys (a, n, low, e, more) r p room v old fit have =
      let s' : Scoped = record { var = s.var; active = s.active; cells = numbers_from a n; trees = s.trees; absent = s.absent } in
      let path : s ≡ s' = λ i. record { var = s.var; active = s.active; cells = e i; trees = s.trees; absent = s.absent } in
      let bound = between_bounds (a + n) hi ss more in
      let first = fit_first (reserved_cells s.var (numbers_from a n)) (reserved_in ss) (subst (λ ks. AllFit vs h (reserved_cells s.var ks ++ reserved_in ss)) e fit) in
      subst (λ z. Filled lo hi (z ∷ ss) f (fill f (z ∷ ss) ys) ys) (sym path)
      (one_filled h s.var s.active s.trees s.absent a n lo hi ss f ys
      (have_length m bs s.cells s.trees r.0 ∙ ap length e ∙ length_numbers a n) (omega (arith, room, bound)) low bound (subst (All (λ k. ActivityIsBelow k s.active)) e p.0)
      (λ k l q. v k (subst (λ ks. is_among k (cells_of (reserved_cells s.var ks ++ reserved_in ss)) ≡ true) (sym e) (among_own s.var a n (reserved_in ss) k l q)))
      old first.0 (subst (λ ks. HaveValues σ h ks s.absent) e have.0)
      (λ f' ys' g. filled h m bs ss (a + n) hi f' ys' more r.2 p.1 room (λ k q. v k (among_more s.cells s.var (reserved_in ss) k q)) g first.1 have.1))
    where
      fit_first : (rs qs : List Reserved) → AllFit vs h (rs ++ qs) → AllFit vs h rs × AllFit vs h qs
      fit_first [] qs q = (tt, q)
      fit_first (r ∷ rs) qs q = let z = fit_first rs qs q.1 in ((q.0, z.0), z.1)
