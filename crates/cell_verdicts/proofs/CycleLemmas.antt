-- A cycle is named where there is one. Whether a way of so many cells leads from one cell to another is decided by trying them all; a
-- shortest way has no cell twice, so it is no longer than there are cells; of the ways of one length the least is taken cell by cell.
use Rattle.std.proofs.Common.{◌≡◌, ◌≢◌, ◌∙◌, ◌<◌, ◌≤◌, ◌==◌, ◌⊎◌, inl, inr, ℕ, zero, suc, Bool, false, List, [], ◌∷◌, length, Contains, get_or, Option, Some, None, refl, sym, ap, subst, arith}
use Rattle.std.specs.Prelude.{slice_get}
use Rattle.std.specs.List.{AllByRecursion, IsDistinct}
use Rattle.std.proofs.lemmas.Bool.{cases_lt}
use Rattle.std.proofs.lemmas.Bool.Decides.{nat_tests}
use Rattle.std.proofs.lemmas.Map.Steps.{length-le_from_distinct_below}
use Rattle.quartz_tree.specs.declared.place.Place.{Place}
use Rattle.aif_cells.specs.Built.{Defined}
use Rattle.aif_cells.specs.Dependences.{DependsOn, cells_in}
use Rattle.aif_cells.specs.Order.{IsCycle, IsNotAfter, LeadsTo}
use Rattle.aif_cells.proofs.ItemLemmas.{any_less, in_cases, in_first, in_others}
use Rattle.aif_cells.proofs.SolutionLemmas.{there}
use Rattle.causality_check.specs.Order.{HasNoCycle, IsCycleAt, NamesCells}
use Rattle.causality_check.proofs.GraphLemmas.{not_in_none}
use Rattle.macro_steps.proofs.OrderLemmas.{cell_at}
use Rattle.cell_verdicts.specs.Laws.{CyclesAreNamed}
use Rattle.cell_verdicts.proofs.DecideLemmas.{LeastBelow, both, member, search_below}

unsome : (c d : Defined) → Some c ≡ Some d → c ≡ d
unsome c d e = cc

differ : (a b : ℕ) → a ≢ b → (a == b) ≡ false
differ a b n = grind (arith, nat_tests)

all_apart : (k : ℕ) (js : List ℕ) → (Contains js k → ⊥) → AllByRecursion (λ y. (k == y) ≡ false) js
all_apart k [] n = tt
all_apart k (j ∷ js) n = (differ k j (λ e. n (subst (Contains (j ∷ js)) (sym e) (in_first j js))), all_apart k js (λ c. n (in_others j js k c)))

module _ (cs : List Defined) (names : NamesCells cs) where
  depends : (k d : ℕ) → DependsOn cs k d ⊎ (¬ DependsOn cs k d)
  depends k d = at (slice_get cs k) refl
    where
      named : (c : Defined) → slice_get cs k ≡ Some c → Contains (cells_in c.tree) d ⊎ (¬ Contains (cells_in c.tree) d) → DependsOn cs k d ⊎ (¬ DependsOn cs k d)
      named c e (inl m) = inl (c, e, m)
      named c e (inr n) = inr (λ (f, is, m). n (subst (λ (x : Defined). Contains (cells_in x.tree) d) (unsome f c (sym is ∙ e)) m))

      never : (c : Defined) → None ≡ Some c → ⊥
      never c e = cc

      at : (o : Option Defined) → slice_get cs k ≡ o → DependsOn cs k d ⊎ (¬ DependsOn cs k d)
      at None e = inr (λ (c, is, m). never c (sym e ∙ is))
      at (Some c) e = named c e (member (cells_in c.tree) d)

  -- ---- ways of so many cells

  record Way (n k target : ℕ) : Type 0 where
    path : List ℕ
    leads : LeadsTo cs target k path
    size : length path ≡ n

  -- the next cell of a longer way
  abbrev Next : (n k target : ℕ) → ℕ → Type 0
  Next n k target j = DependsOn cs k j × Way n j target

  no_more : (k target : ℕ) (path : List ℕ) → LeadsTo cs target k path → length path ≡ 0 → DependsOn cs k target
  no_more k target [] l e = l
  no_more k target (j ∷ path) l e = absurd (omega (arith, e))

  one_more : (n k target : ℕ) (path : List ℕ) → LeadsTo cs target k path → length path ≡ suc n → (j : ℕ) × Next n k target j
  one_more n k target [] l e = absurd (omega (arith, e))
  one_more n k target (j ∷ path) l e = (j, (l.0, record { path = path; leads = l.1; size = omega (arith, e) }))

  way : (n k target : ℕ) → Way n k target ⊎ (¬ Way n k target)
  way zero k target = at (depends k target)
    where
      at : DependsOn cs k target ⊎ (¬ DependsOn cs k target) → Way zero k target ⊎ (¬ Way zero k target)
      at (inl d) = inl (record { path = []; leads = d; size = refl })
      at (inr n) = inr (λ w. n (no_more k target w.path w.leads w.size))
  way (suc n) k target = at (search_below (Next n k target) (λ j. both (depends k j) (way n j target)) (length cs))
    where
      at : LeastBelow (Next n k target) (length cs) ⊎ ((j : ℕ) → j < length cs → ¬ Next n k target j) → Way (suc n) k target ⊎ (¬ Way (suc n) k target)
      at (inl s) = let more : Way n s.number target = s.holds.1 in let e = more.size in inl (record { path = s.number ∷ more.path; leads = (s.holds.0, more.leads); size = omega (arith, e) })
      at (inr none) = inr (λ w. let next = one_more n k target w.path w.leads w.size in none next.0 (names k next.0 next.1.0) next.1)

  -- the least way of this length
  record BestWay (n k target : ℕ) : Type 0 where
    path : List ℕ
    leads : LeadsTo cs target k path
    size : length path ≡ n
    best : (other : List ℕ) → LeadsTo cs target k other → length other ≡ n → IsNotAfter path other

  best_way : (n k target : ℕ) → Way n k target → BestWay n k target
  best_way zero k target w = record { path = []; leads = no_more k target w.path w.leads w.size; size = refl; best = λ other l e. tt }
  best_way (suc n) k target w = at (search_below (Next n k target) (λ j. both (depends k j) (way n j target)) (length cs)) (λ j v. best_way n j target v)
    where
      at : LeastBelow (Next n k target) (length cs) ⊎ ((j : ℕ) → j < length cs → ¬ Next n k target j) → ((j : ℕ) → Way n j target → BestWay n j target) → BestWay (suc n) k target
      at (inr none) more = let next = one_more n k target w.path w.leads w.size in absurd (none next.0 (names k next.0 next.1.0) next.1)
      at (inl s) more = least (more s.number s.holds.1)
        where
          least : BestWay n s.number target → BestWay (suc n) k target
          least rest = let e = rest.size in record { path = s.number ∷ rest.path; leads = (s.holds.0, rest.leads); size = omega (arith, e); best = compare }
            where
              compare : (other : List ℕ) → LeadsTo cs target k other → length other ≡ suc n → IsNotAfter (s.number ∷ rest.path) other
              compare [] l z = absurd (omega (arith, z))
              compare (j ∷ others) l z = elim (cases_lt s.number j) [
                | inl less ↦ inl less
                | inr above ↦ (let le : s.number ≤ j = s.least j (l.0, record { path = others; leads = l.1; size = omega (arith, z) }) in
                    let same : s.number ≡ j = omega (arith, above, le) in
                    inr (same, rest.best others (subst (λ (i : ℕ). LeadsTo cs target i others) (sym same) l.1) (omega (arith, z))))
              ]

  -- ---- shortest ways

  abbrev IsShortest : (target k : ℕ) → List ℕ → Type 0
  IsShortest target k path = (other : List ℕ) → LeadsTo cs target k other → length path ≤ length other

  -- from a cell on a way the rest of it leads on
  rest_from : (target k x : ℕ) (js : List ℕ) → LeadsTo cs target k js → Contains js x → (rest : List ℕ) × LeadsTo cs target x rest × (length rest < length js)
  rest_from target k x [] l c = absurd (not_in_none x c)
  rest_from target k x (j ∷ js) l c = elim (in_cases j js x c) [
    | inl e ↦ (js, subst (λ (i : ℕ). LeadsTo cs target i js) e l.1, omega arith)
    | inr d ↦ (let r = rest_from target j x js l.1 d in let less = r.2 in (r.0, r.1, omega (arith, less)))
  ]

  tail_is_shortest : (target k j : ℕ) (js : List ℕ) → LeadsTo cs target k (j ∷ js) → IsShortest target k (j ∷ js) → IsShortest target j js
  tail_is_shortest target k j js l s other o = let le : length (j ∷ js) ≤ length (j ∷ other) = s (j ∷ other) (l.0, o) in omega (arith, le)

  distinct : (target k : ℕ) (js : List ℕ) → LeadsTo cs target k js → IsShortest target k js → IsDistinct (λ a b. a == b) js
  unfolding IsDistinct
  distinct target k [] l s = tt
  distinct target k (j ∷ js) l s = (all_apart j js (λ c. twice c), distinct target j js l.1 (tail_is_shortest target k j js l s))
    where
      twice : Contains js j → ⊥
      twice c =
          let r = rest_from target j j js l.1 c in
          let le : length js ≤ length r.0 = tail_is_shortest target k j js l s r.0 r.1 in
          let less = r.2 in
          omega (arith, le, less)

  below : (target k : ℕ) (js : List ℕ) → LeadsTo cs target k js → (i : ℕ) → i < length js → get_or js i 0 < length cs
  below target k [] l i h = absurd (omega (arith, h))
  below target k (j ∷ js) l zero h = names k j l.0
  below target k (j ∷ js) l (suc i) h = below target j js l.1 i (omega (arith, h))

  short : (target k : ℕ) (js : List ℕ) → LeadsTo cs target k js → IsShortest target k js → length js ≤ length cs
  short target k js l s = length-le_from_distinct_below js (length cs) (distinct target k js l s) (any_less js (length cs) (below target k js l))

  -- ---- cycles

  -- the length of a shortest cycle through the cell
  abbrev OnCycle : ℕ → Type 0
  OnCycle k = LeastBelow (λ n. Way n k k) (suc (length cs))

  on_cycle : (k : ℕ) → OnCycle k ⊎ (¬ OnCycle k)
  on_cycle k = at (search_below (λ n. Way n k k) (λ n. way n k k) (suc (length cs)))
    where
      at : OnCycle k ⊎ ((n : ℕ) → n < suc (length cs) → ¬ Way n k k) → OnCycle k ⊎ (¬ OnCycle k)
      at (inl s) = inl s
      at (inr none) = inr (λ s. none s.number s.below s.holds)

  is_on_cycle : (k : ℕ) (path : List ℕ) → IsCycle cs k path → OnCycle k
  is_on_cycle k path c = at (search_below (λ n. Way n k k) (λ n. way n k k) (suc (length path)))
    where
      at : LeastBelow (λ n. Way n k k) (suc (length path)) ⊎ ((n : ℕ) → n < suc (length path) → ¬ Way n k k) → OnCycle k
      at (inr none) = absurd (none (length path) (omega arith) (record { path = path; leads = c; size = refl }))
      at (inl s) =
          let w : Way s.number k k = s.holds in
          let size : length w.path ≡ s.number = w.size in
          let few : length w.path ≤ length cs = short k k w.path w.leads (λ other o. let le : s.number ≤ length other = s.least (length other) (record { path = other; leads = o; size = refl }) in omega (arith, le, size)) in
          record { number = s.number; below = omega (arith, size, few); holds = w; least = s.least }

  first_exists : (k : ℕ) (path : List ℕ) → IsCycle cs k path → k < length cs
  first_exists k [] (c, is, m) = there cs k c is
  first_exists k (j ∷ path) ((c, is, m), more) = there cs k c is

  none_or_named : HasNoCycle cs ⊎ ((cells : List ℕ) × (p : Place) × IsCycleAt cs cells p)
  none_or_named = at (search_below OnCycle on_cycle (length cs))
    where
      at : LeastBelow OnCycle (length cs) ⊎ ((k : ℕ) → k < length cs → ¬ OnCycle k) → HasNoCycle cs ⊎ ((cells : List ℕ) × (p : Place) × IsCycleAt cs cells p)
      at (inr none) = inl (λ k path c. none k (first_exists k path c) (is_on_cycle k path c))
      at (inl s) = inr (
        s.number ∷ b.path,
        c.0.place,
        (
          record {
            cycle = b.leads;
            first = λ j other o. s.least j (is_on_cycle j other o);
            shortest = λ other o. let le : s.holds.number ≤ length other = s.holds.least (length other) (record { path = other; leads = o; size = refl }) in omega (arith, le, size);
            least = λ other o e. b.best other o (e ∙ size);
          },
          (c.0, c.1, refl),
        ),
      )
        where
          b : BestWay s.holds.number s.number s.number
          b = best_way s.holds.number s.number s.number s.holds.holds

          size : length b.path ≡ s.holds.number
          size = b.size

          c : (c : Defined) × (slice_get cs s.number ≡ Some c)
          c = cell_at cs s.number s.below

pub cycles_are_named : CyclesAreNamed
cycles_are_named cs names = none_or_named cs names
