-- Cells without a cycle have an order: while some are left, one of them depends on none that is left, since a way along
-- those that are left would come back to itself.
use Rattle.std.proofs.Common.{◌≡◌, ◌∙◌, ◌⊎◌, inl, inr, ℕ, zero, suc, ◌+◌, ◌<◌, ◌≤◌, ◌==◌, ◌&&◌, ◌||◌, not, nat_lt, Bool, true, false, List, [], ◌∷◌, ◌++◌, length, take, Contains, get_or, Some, refl, sym, ap, subst, arith, length-append}
use Rattle.std.specs.Prelude.{slice_get}
use Rattle.std.specs.List.{AllByRecursion, IsDistinct, list_any}
use Rattle.std.proofs.lemmas.Bool.Decides.{nat_tests}
use Rattle.std.proofs.lemmas.List.{get_or-take, length-take-le, take-append-le}
use Rattle.std.proofs.lemmas.Map.Steps.{le-length_from_below, length-le_from_distinct_below}
use Rattle.std.proofs.Math.Seq.{take-append_seam}
use Rattle.aif_cells.specs.Built.{Defined}
use Rattle.aif_cells.specs.Dependences.{DependsOn, cells_in}
use Rattle.aif_cells.specs.Order.{IsNext, IsOrder, IsReady, LeadsTo, TakesInTurn}
use Rattle.aif_cells.proofs.SolutionLemmas.{there}
use Rattle.absence_reaction.specs.Meaning.{is_among}
use Rattle.causality_check.specs.Order.{HasNoCycle, NamesCells}
use Rattle.statement_cells.specs.Builder.{tree_at}
use Rattle.macro_steps.specs.Laws.{AcyclicHasOrder, OrderedIsAcyclic}
use Rattle.macro_steps.proofs.AgreeLemmas.{among_contained}
use Rattle.macro_steps.proofs.OrderLemmas.{Earlier, earlier, place_in, cell_at}
use Rattle.aif_cells.proofs.ItemLemmas.{any_less}

-- ---- numbers of a list

contained_among : (xs : List ℕ) (d : ℕ) → is_among d xs ≡ true → Contains xs d
contained_among [] d e = absurd (cc)
contained_among (x ∷ xs) d e = at (d == x) refl (contained_among xs d)
  where
    same : (d == x) ≡ true → x ≡ d
    same p = grind (arith, nat_tests, p)

    at : (b : Bool) → (d == x) ≡ b → (is_among d xs ≡ true → Contains xs d) → Contains (x ∷ xs) d
    at true p f = (0, omega arith, same p)
    at false p f = let r = f (sym (ap (λ b. b || is_among d xs) p) ∙ e) in let l = r.1 in (suc r.0, omega (arith, l), r.2)

not_contained : (xs : List ℕ) (d : ℕ) → is_among d xs ≡ false → Contains xs d → ⊥
not_contained xs d e c = wrong (sym (among_contained xs d c) ∙ e)
  where
    wrong : true ≡ false → ⊥
    wrong p = cc

not_among : (xs : List ℕ) (d : ℕ) → (Contains xs d → ⊥) → is_among d xs ≡ false
not_among xs d h = at (is_among d xs) refl
  where
    at : (b : Bool) → is_among d xs ≡ b → is_among d xs ≡ false
    at true e = absurd (h (contained_among xs d e))
    at false e = e

all_among : List ℕ → List ℕ → Bool
all_among [] taken = true
all_among (d ∷ ds) taken = is_among d taken && all_among ds taken

all_there : (ds taken : List ℕ) (d : ℕ) → all_among ds taken ≡ true → Contains ds d → is_among d taken ≡ true
unfolding all_among
all_there [] taken d e (i, l, p) = absurd (omega (arith, l))
all_there (x ∷ ds) taken d e (zero, l, p) = ap (λ q. is_among q taken) (sym p) ∙ first (is_among x taken) (all_among ds taken) e
  where
    first : (a b : Bool) → (a && b) ≡ true → a ≡ true
    first true b q = refl
    first false b q = absurd (cc)
all_there (x ∷ ds) taken d e (suc i, l, p) = all_there ds taken d (second (is_among x taken) (all_among ds taken) e) (i, omega (arith, l), p)
  where
    second : (a b : Bool) → (a && b) ≡ true → b ≡ true
    second true b q = q
    second false b q = absurd (cc)

there_all : (ds taken : List ℕ) → ((d : ℕ) → Contains ds d → is_among d taken ≡ true) → all_among ds taken ≡ true
unfolding all_among
there_all [] taken h = refl
there_all (x ∷ ds) taken h = ap (λ b. b && all_among ds taken) (h x (0, omega arith, refl)) ∙ there_all ds taken (λ d (i, l, p). h d (suc i, omega (arith, l), p))

one_missing : (ds taken : List ℕ) → all_among ds taken ≡ false → (d : ℕ) × Contains ds d × (is_among d taken ≡ false)
unfolding all_among
one_missing [] taken e = absurd (cc)
one_missing (x ∷ ds) taken e = at (is_among x taken) refl (one_missing ds taken)
  where
    at : (b : Bool) → is_among x taken ≡ b → (all_among ds taken ≡ false → (d : ℕ) × Contains ds d × (is_among d taken ≡ false)) → (d : ℕ) × Contains (x ∷ ds) d × (is_among d taken ≡ false)
    at true p f = let r = f (sym (ap (λ b. b && all_among ds taken) p) ∙ e) in let i = r.1 in let l = i.1 in (r.0, (suc i.0, omega (arith, l), i.2), r.2)
    at false p f = (x, (0, omega arith, refl), p)

-- the least number below a bound that passes a test
pub record Least (p : ℕ → Bool) (n : ℕ) : Type 0 where
  pub number : ℕ
  pub below : number < n
  pub passes : p number ≡ true
  pub least : (j : ℕ) → j < number → p j ≡ false

search_least : (p : ℕ → Bool) (n : ℕ) → Least p n ⊎ ((j : ℕ) → j < n → p j ≡ false)
search_least p zero = inr (λ j l. absurd (omega (arith, l)))
search_least p (suc n) = at (search_least p n) (p n) refl
  where
    at : Least p n ⊎ ((j : ℕ) → j < n → p j ≡ false) → (b : Bool) → p n ≡ b → Least p (suc n) ⊎ ((j : ℕ) → j < suc n → p j ≡ false)
    at (inl s) b e = let l = s.below in inl (record { number = s.number; below = omega (arith, l); passes = s.passes; least = s.least })
    at (inr h) true e = inl (record { number = n; below = omega arith; passes = e; least = h })
    at (inr h) false e = inr (λ j l. either j (nat_lt j n) refl l)
      where
        less : (j : ℕ) → nat_lt j n ≡ true → j < n
        less j q = grind (arith, nat_tests, q)

        same : (j : ℕ) → nat_lt j n ≡ false → j < suc n → n ≡ j
        same j q l = let m : n ≤ j = grind (arith, nat_tests, q) in omega (arith, m, l)

        either : (j : ℕ) (b : Bool) → nat_lt j n ≡ b → j < suc n → p j ≡ false
        either j true q l = h j (less j q)
        either j false q l = ap p (sym (same j q l)) ∙ e

-- ---- ways along cells

module _ (cs : List Defined) (names : NamesCells cs) (acyclic : HasNoCycle cs) where
  -- each cell depends on the next one
  Chain : ℕ → List ℕ → Type 0
  Chain k [] = Unit {0}
  Chain k (j ∷ js) = DependsOn cs k j × Chain j js

  -- a way that comes back is a cycle
  comes_back : (target k : ℕ) (js : List ℕ) → Chain k js → is_among target js ≡ true → (path : List ℕ) × LeadsTo cs target k path
  unfolding Chain
  comes_back target k [] c e = absurd (cc)
  comes_back target k (j ∷ js) c e = at (target == j) refl (comes_back target j js c.1)
    where
      same : (target == j) ≡ true → j ≡ target
      same p = grind (arith, nat_tests, p)

      at : (b : Bool) → (target == j) ≡ b → (is_among target js ≡ true → (path : List ℕ) × LeadsTo cs target j path) → (path : List ℕ) × LeadsTo cs target k path
      at true p f = ([], subst (DependsOn cs k) (same p) c.0)
      at false p f = let r = f (sym (ap (λ b. b || is_among target js) p) ∙ e) in (j ∷ r.0, (c.0, r.1))

  no_return : (k : ℕ) (js : List ℕ) → Chain k js → is_among k js ≡ false
  no_return k js c = at (is_among k js) refl
    where
      at : (b : Bool) → is_among k js ≡ b → is_among k js ≡ false
      at true e = let r = comes_back k k js c e in absurd (acyclic k r.0 r.1)
      at false e = e

  apart_all : (k : ℕ) (js : List ℕ) → is_among k js ≡ false → AllByRecursion (λ y. (k == y) ≡ false) js
  apart_all k [] e = tt
  apart_all k (j ∷ js) e = (first (k == j) (is_among k js) e, apart_all k js (second (k == j) (is_among k js) e))
    where
      first : (a b : Bool) → (a || b) ≡ false → a ≡ false
      first true b q = absurd (cc)
      first false b q = refl

      second : (a b : Bool) → (a || b) ≡ false → b ≡ false
      second true b q = absurd (cc)
      second false b q = q

  distinct_way : (k : ℕ) (js : List ℕ) → Chain k js → IsDistinct (λ a b. a == b) (k ∷ js)
  unfolding Chain IsDistinct
  distinct_way k [] c = (tt, tt)
  distinct_way k (j ∷ js) c = (apart_all k (j ∷ js) (no_return k (j ∷ js) c), distinct_way j js c.1)

  -- ---- what is left

  module _ (taken : List ℕ) where
    is_ready : ℕ → Bool
    is_ready k = not (is_among k taken) && all_among (cells_in (tree_at cs k)) taken

    tree_is : (k : ℕ) (c : Defined) → slice_get cs k ≡ Some c → tree_at cs k ≡ c.tree
    tree_is k c e = rw e refl

    -- a cell that is left depends on one that is left, if none is ready
    held_up : ((j : ℕ) → j < length cs → is_ready j ≡ false) → (k : ℕ) → k < length cs → is_among k taken ≡ false → (d : ℕ) × DependsOn cs k d × (is_among d taken ≡ false)
    unfolding is_ready
    held_up none k l e =
        let c = cell_at cs k l in
        let missing = one_missing (cells_in (tree_at cs k)) taken (sym (ap (λ b. not b && all_among (cells_in (tree_at cs k)) taken) e) ∙ none k l) in
        (missing.0, (c.0, c.1, subst (λ t. Contains (cells_in t) missing.0) (tree_is k c.0 c.1) missing.1), missing.2)

    way : ((j : ℕ) → j < length cs → is_ready j ≡ false) → (m k : ℕ) → k < length cs → is_among k taken ≡ false
        → (js : List ℕ) × Chain k js × (length js ≡ m) × ((i : ℕ) → i < length js → get_or js i 0 < length cs)
    unfolding Chain
    way none zero k l e = ([], tt, refl, λ i p. absurd (omega (arith, p)))
    way none (suc m) k l e =
        let d = held_up none k l e in
        let less : d.0 < length cs = names k d.0 d.1 in
        let r = way none m d.0 less d.2 in
        (d.0 ∷ r.0, (d.1, r.1), ap suc r.2, bound d.0 r.0 less r.3)
      where
        bound : (d : ℕ) (js : List ℕ) → d < length cs → ((i : ℕ) → i < length js → get_or js i 0 < length cs) → (i : ℕ) → i < length (d ∷ js) → get_or (d ∷ js) i 0 < length cs
        bound d js l h zero p = l
        bound d js l h (suc i) p = h i (omega (arith, p))

    -- so one is ready
    some_ready : (k : ℕ) → k < length cs → is_among k taken ≡ false → Least is_ready (length cs)
    some_ready k l e = at (search_least is_ready (length cs))
      where
        at : Least is_ready (length cs) ⊎ ((j : ℕ) → j < length cs → is_ready j ≡ false) → Least is_ready (length cs)
        at (inl s) = s
        at (inr none) =
            let w = way none (length cs) k l e in
            let size = w.2 in
            let most : length (k ∷ w.0) ≤ length cs = length-le_from_distinct_below (k ∷ w.0) (length cs) (distinct_way k w.0 w.1) (any_less (k ∷ w.0) (length cs) (bound w.0 w.3)) in
            absurd (omega (arith, most, size))
          where
            bound : (js : List ℕ) → ((i : ℕ) → i < length js → get_or js i 0 < length cs) → (i : ℕ) → i < length (k ∷ js) → get_or (k ∷ js) i 0 < length cs
            bound js h zero p = l
            bound js h (suc i) p = h i (omega (arith, p))

    and_left : (a b : Bool) → (a && b) ≡ true → a ≡ true
    and_left true b q = refl
    and_left false b q = absurd (cc)

    and_right : (a b : Bool) → (a && b) ≡ true → b ≡ true
    and_right true b q = q
    and_right false b q = absurd (cc)

    not_true : (a : Bool) → not a ≡ true → a ≡ false
    not_true true q = absurd (cc)
    not_true false q = refl

    ready_is : (k : ℕ) → k < length cs → is_ready k ≡ true → IsReady cs taken k
    unfolding is_ready
    ready_is k l e = record {
      is_cell = l;
      left = not_contained taken k (not_true (is_among k taken) (and_left (not (is_among k taken)) (all_among (cells_in (tree_at cs k)) taken) e));
      free = λ d (c, is, named). contained_among taken d (all_there (cells_in (tree_at cs k)) taken d (and_right (not (is_among k taken)) (all_among (cells_in (tree_at cs k)) taken) e) (subst (λ t. Contains (cells_in t) d) (sym (tree_is k c is)) named));
    }

    is_ready_is : (k : ℕ) → IsReady cs taken k → is_ready k ≡ true
    unfolding is_ready
    is_ready_is k r =
        let c = cell_at cs k r.is_cell in
        ap (λ b. not b && all_among (cells_in (tree_at cs k)) taken) (not_among taken k r.left)
        ∙ there_all (cells_in (tree_at cs k)) taken (λ d named. among_contained taken d (r.free d (c.0, c.1, subst (λ t. Contains (cells_in t) d) (tree_is k c.0 c.1) named)))

    next_is : (s : Least is_ready (length cs)) → IsNext cs taken s.number
    next_is s = record { ready = ready_is s.number s.below s.passes; least = λ j r. least j r (nat_lt j s.number) refl }
      where
        less : (j : ℕ) → nat_lt j s.number ≡ true → j < s.number
        less j q = grind (arith, nat_tests, q)

        more : (j : ℕ) → nat_lt j s.number ≡ false → s.number ≤ j
        more j q = grind (arith, nat_tests, q)

        least : (j : ℕ) → IsReady cs taken j → (b : Bool) → nat_lt j s.number ≡ b → s.number ≤ j
        least j r true q = absurd (wrong (sym (is_ready_is j r) ∙ s.least j (less j q)))
          where
            wrong : true ≡ false → ⊥
            wrong p = cc
        least j r false q = more j q

    -- one more cell
    one_more : (k : ℕ) → TakesInTurn cs taken → IsNext cs taken k → TakesInTurn cs (taken ++ k ∷ [])
    one_more k h n i j e = at (nat_lt i (length taken)) refl
      where
        size : length (taken ++ k ∷ []) ≡ length taken + 1
        size = length-append taken (k ∷ [])

        less : nat_lt i (length taken) ≡ true → i < length taken
        less q = grind (arith, nat_tests, q)

        last : nat_lt i (length taken) ≡ false → length taken ≡ i
        last q = let m : length taken ≤ i = grind (arith, nat_tests, q) in let l = there (taken ++ k ∷ []) i j e in omega (arith, m, l, size)

        front : (xs : List ℕ) (i : ℕ) → i < length xs → slice_get (xs ++ k ∷ []) i ≡ slice_get xs i
        front [] i l = absurd (omega (arith, l))
        front (x ∷ xs) zero l = refl
        front (x ∷ xs) (suc i) l = front xs i (omega (arith, l))

        seam : (xs : List ℕ) → slice_get (xs ++ k ∷ []) (length xs) ≡ Some k
        seam [] = refl
        seam (x ∷ xs) = seam xs

        unsome : {a b : ℕ} → Some a ≡ Some b → a ≡ b
        unsome p = cc

        at : (b : Bool) → nat_lt i (length taken) ≡ b → IsNext cs (take i (taken ++ k ∷ [])) j
        at true q =
            let l = less q in
            subst (λ xs. IsNext cs xs j) (sym (take-append-le i taken (k ∷ []) (omega (arith, l)))) (h i j (sym (front taken i l) ∙ e))
        at false q =
            let same : k ≡ j = unsome (sym (seam taken) ∙ ap (slice_get (taken ++ k ∷ [])) (last q) ∙ e) in
            subst (λ m. IsNext cs (take m (taken ++ k ∷ [])) j) (last q) (subst (λ xs. IsNext cs xs j) (sym (take-append_seam taken (k ∷ []))) (subst (IsNext cs taken) same n))

    -- some cell is left where fewer are taken than there are
    some_left : length taken < length cs → (k : ℕ) × (k < length cs) × (is_among k taken ≡ false)
    some_left l = at (search_least (λ k. not (is_among k taken)) (length cs))
      where
        among_any : (xs : List ℕ) (q : ℕ) → is_among q xs ≡ true → list_any (λ b. q == b) xs ≡ true
        among_any [] q e = e
        among_any (x ∷ xs) q e = by (q == x) e (among_any xs q)
          where
            by : (b : Bool) → (b || is_among q xs) ≡ true → (is_among q xs ≡ true → list_any (λ b. q == b) xs ≡ true) → (b || list_any (λ b. q == b) xs) ≡ true
            by true p f = refl
            by false p f = f p

        not_false : (a : Bool) → not a ≡ false → a ≡ true
        not_false true q = refl
        not_false false q = absurd (cc)

        at : Least (λ k. not (is_among k taken)) (length cs) ⊎ ((j : ℕ) → j < length cs → not (is_among j taken) ≡ false) → (k : ℕ) × (k < length cs) × (is_among k taken ≡ false)
        at (inl s) = (s.number, s.below, not_true (is_among s.number taken) s.passes)
        at (inr h) =
            let all : length cs ≤ length taken = le-length_from_below taken (length cs) (λ q m. among_any taken q (not_false (is_among q taken) (h q m))) in
            absurd (omega (arith, all, l))

  -- ---- all cells

  grow : (m : ℕ) (taken : List ℕ) → TakesInTurn cs taken → length taken + m ≡ length cs → (order : List ℕ) × IsOrder cs order
  grow zero taken h e = (taken, record { in_turn = h; all = omega (arith, e) })
  grow (suc m) taken h e =
      let left = some_left taken (omega (arith, e)) in
      let s = some_ready taken left.0 left.1 left.2 in
      let size : length (taken ++ s.number ∷ []) ≡ length taken + 1 = length-append taken (s.number ∷ []) in
      grow m (taken ++ s.number ∷ []) (one_more taken s.number h (next_is taken s)) (omega (arith, e, size))

pub acyclic_has_order : AcyclicHasOrder
acyclic_has_order cs names acyclic = grow cs names acyclic (length cs) [] (λ i k e. absurd (none i e)) (omega arith)
  where
    none : (i : ℕ) {k : ℕ} → slice_get [] i ≡ Some k → ⊥
    none i e = cc

-- ---- an order leaves no cycle

-- a way along cells goes back in the order
leads_back : (cs : List Defined) (order : List ℕ) (is : IsOrder cs order) (target k : ℕ) (path : List ℕ) (i : ℕ) → slice_get order i ≡ Some k → LeadsTo cs target k path → Earlier cs order is i target
leads_back cs order is target k [] i e l = earlier cs order is i k target (there order i k e) e l
leads_back cs order is target k (j ∷ path) i e l =
    let p = earlier cs order is i k j (there order i k e) e l.0 in
    let q = leads_back cs order is target j path p.place p.there l.1 in
    let a = p.below in
    let b = q.below in
    record { place = q.place; below = omega (arith, a, b); there = q.there }

first_cell : (cs : List Defined) (target k : ℕ) (path : List ℕ) → LeadsTo cs target k path → k < length cs
first_cell cs target k [] (c, is, named) = there cs k c is
first_cell cs target k (j ∷ path) ((c, is, named), more) = there cs k c is

pub ordered_is_acyclic : OrderedIsAcyclic
ordered_is_acyclic cs order is k path cycle =
    let p = place_in cs order is k (first_cell cs k k path cycle) in
    let q = leads_back cs order is k k path p.0 p.1 cycle in
    let l = q.below in
    let m = there order p.0 k p.1 in
    let size : length (take p.0 order) ≡ p.0 = length-take-le p.0 order (omega (arith, m)) in
    (is.in_turn p.0 k p.1).ready.left (q.place, omega (arith, l, size), get_or-take p.0 order q.place k l ∙ got order q.place k q.there)
  where
    got : (xs : List ℕ) (i k : ℕ) → slice_get xs i ≡ Some k → get_or xs i k ≡ k
    got [] i k e = refl
    got (x ∷ xs) zero k e = unsome e
      where
        unsome : {a b : ℕ} → Some a ≡ Some b → a ≡ b
        unsome p = cc
    got (x ∷ xs) (suc i) k e = got xs i k e
