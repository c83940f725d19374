-- The loose pairs of actions are the elements of a list: whether two guards clash is decided by the lists of what they say, and there are
-- finitely many pairs of actions.
use Rattle.std.proofs.Common.{◌≡◌, ◌∙◌, ◌⊎◌, ◌↔◌, ◌<◌, ◌≤◌, inl, inr, ℕ, zero, suc, Bool, true, false, not, List, [], ◌∷◌, ◌++◌, length, map, Contains, Option, Some, None, refl, sym, ap, ap₂, subst, subst₂, arith}
use Rattle.std.specs.Prelude.{slice_get}
use Rattle.std.proofs.lemmas.Bool.{cases_eq, cases_lt}
use Rattle.std.proofs.lemmas.List.Elements.{Contains-append_cases, Contains-append_left, Contains-append_right}
use Rattle.aif_cells.specs.declared.cells.Action.{Action}
use Rattle.aif_cells.specs.declared.reference.Ref.{Ref}
use Rattle.aif_cells.specs.declared.reference.Ref.TheVariants as ref
use Rattle.aif_cells.specs.Tree.{value}
use Rattle.aif_cells.specs.Order.{IsOrder}
use Rattle.aif_cells.proofs.ItemLemmas.{in_cases, in_first, in_others}
use Rattle.aif_cells.proofs.SolutionLemmas.{there}
use Rattle.causality_check.proofs.GraphLemmas.{not_in_none}
use Rattle.write_conflicts.specs.Must.{Must}
use Rattle.write_conflicts.specs.Clash.{Clash, Excludes, GuardsClash, Step, are_apart, indexes_differ, way_to, opposite, at_start, behind_start, apart}
use Rattle.write_conflicts.specs.Claims.{is_way, registers_exclude, ways_part}
use Rattle.write_conflicts.specs.Loose.{AreLoose, IsLoosePair, Scene, alike as both_alike, is_stored, pending_first, pending_second}
use Rattle.cell_verdicts.specs.Laws.{LoosePairsAreListed}
use Rattle.cell_verdicts.proofs.DecideLemmas.{SomeItem, alike, both, either, is_not, same_bool, some_item}
use Rattle.cell_verdicts.proofs.FactLemmas.{Fact, Told, fact, same_ref, told_of}

is_true : (b : Bool) → (b ≡ true) ⊎ (¬ (b ≡ true))
is_true b = same_bool b true

-- ---- signed references that exclude one another

registers_out : (ps : List (List Step)) (l m : ℕ) → registers_exclude ps l m ≡ true → Excludes ps (ref.Reg l) true (ref.Reg m) true
registers_out ps zero m e = at (way_to ps m) refl e
  where
    at : (o : Option (List Step)) → way_to ps m ≡ o → is_way o ≡ true → Excludes ps (ref.Reg 0) true (ref.Reg m) true
    at None f g = absurd (cc)
    at (Some p) f g = at_start m p f
registers_out ps (suc l) zero e = at (way_to ps (suc l)) refl e
  where
    at : (o : Option (List Step)) → way_to ps (suc l) ≡ o → is_way o ≡ true → Excludes ps (ref.Reg (suc l)) true (ref.Reg 0) true
    at None f g = absurd (cc)
    at (Some p) f g = behind_start (suc l) p f
registers_out ps (suc l) (suc m) e = at (way_to ps (suc l)) (way_to ps (suc m)) refl refl e
  where
    at : (o q : Option (List Step)) → way_to ps (suc l) ≡ o → way_to ps (suc m) ≡ q → ways_part o q ≡ true → Excludes ps (ref.Reg (suc l)) true (ref.Reg (suc m)) true
    at None q f g h = absurd (cc)
    at (Some p) None f g h = absurd (cc)
    at (Some p) (Some q) f g h = apart (suc l) (suc m) p q f g h

start_excludes : (ps : List (List Step)) (l : ℕ) (p : List Step) → way_to ps l ≡ Some p → registers_exclude ps 0 l ≡ true
start_excludes ps l p e = ap is_way e

label_excludes : (ps : List (List Step)) (l : ℕ) (p : List Step) → way_to ps l ≡ Some p → registers_exclude ps l 0 ≡ true
label_excludes ps zero p e = absurd (cc)
label_excludes ps (suc l) p e = ap is_way e

labels_exclude : (ps : List (List Step)) (l m : ℕ) (p q : List Step) → way_to ps l ≡ Some p → way_to ps m ≡ Some q → are_apart p q ≡ true → registers_exclude ps l m ≡ true
labels_exclude ps zero m p q e f h = absurd (cc)
labels_exclude ps (suc l) zero p q e f h = absurd (cc)
labels_exclude ps (suc l) (suc m) p q e f h = ap (λ (o : Option (List Step)). ways_part o (way_to ps (suc m))) e ∙ (ap (ways_part (Some p)) f ∙ h)

-- whether registers exclude one another, of two references
abbrev test : List (List Step) → (x y : Ref) → Bool
test ps (ref.Reg l) (ref.Reg m) = registers_exclude ps l m
test ps _ _ = false

abbrev IsOut : List (List Step) → (x y : Ref) → (s t : Bool) → Type 0
IsOut ps x y s t = ((x ≡ y) × (t ≡ not s)) ⊎ ((s ≡ true) × ((t ≡ true) × (test ps x y ≡ true)))

out : (ps : List (List Step)) (x y : Ref) (s t : Bool) → IsOut ps x y s t → Excludes ps x s y t
out ps x y s t (inl e) = subst₂ (λ (z : Ref) (u : Bool). Excludes ps x s z u) e.0 (sym e.1) (opposite x s)
out ps x y s t (inr e) = subst₂ (λ (v u : Bool). Excludes ps x v y u) (sym e.0) (sym e.1.0) (by_test x y e.1.1)
  where
    by_test : (x y : Ref) → test ps x y ≡ true → Excludes ps x true y true
    by_test (ref.Reg l) (ref.Reg m) f = registers_out ps l m f
    by_test x y f = cc

back : (ps : List (List Step)) (x y : Ref) (s t : Bool) → Excludes ps x s y t → IsOut ps x y s t
back ps x y s t (opposite _ _) = inl (refl, refl)
back ps x y s t (at_start l p e) = inr (refl, (refl, start_excludes ps l p e))
back ps x y s t (behind_start l p e) = inr (refl, (refl, label_excludes ps l p e))
back ps x y s t (apart l m p q e f h) = inr (refl, (refl, labels_exclude ps l m p q e f h))

excludes : (ps : List (List Step)) (x y : Ref) (s t : Bool) → Excludes ps x s y t ⊎ (¬ Excludes ps x s y t)
excludes ps x y s t =
    alike (out ps x y s t) (back ps x y s t)
    (either (both (same_ref x y) (same_bool t (not s))) (both (is_true s) (both (is_true t) (is_true (test ps x y)))))

-- ---- guards

-- a signed reference of the one list excludes one of the other
abbrev Against : List (List Step) → Fact → Fact → Type 0
Against ps f k = Excludes ps f.0 f.1 k.0 k.1

abbrev Meets : List (List Step) → List Fact → Fact → Type 0
Meets ps ks f = SomeItem Fact (Against ps f) ks

meet : (ps : List (List Step)) (fs ks : List Fact) → SomeItem Fact (Meets ps ks) fs ⊎ (¬ SomeItem Fact (Meets ps ks) fs)
meet ps fs ks = some_item Fact (Meets ps ks) (λ f. some_item Fact (Against ps f) (λ k. excludes ps f.0 k.0 f.1 k.1) ks) fs

module _ (s : Scene) (order : List ℕ) (is : IsOrder s.cells order) where
  guards_clash : (g h : Ref) → GuardsClash s.cells s.ways g h ⊎ (¬ GuardsClash s.cells s.ways g h)
  guards_clash g h = alike forth goes_back (meet s.ways first.facts second.facts)
    where
      first : Told s.cells (value g) true
      first = told_of s.cells order is (value g) true

      second : Told s.cells (value h) true
      second = told_of s.cells order is (value h) true

      forth : SomeItem Fact (Meets s.ways second.facts) first.facts → GuardsClash s.cells s.ways g h
      forth a = record {
        first = a.item.0;
        first_sign = a.item.1;
        second = a.holds.item.0;
        second_sign = a.holds.item.1;
        says_first = (first.exact a.item.0 a.item.1).0 a.is_in;
        says_second = (second.exact a.holds.item.0 a.holds.item.1).0 a.holds.is_in;
        excludes = a.holds.holds;
      }

      goes_back : GuardsClash s.cells s.ways g h → SomeItem Fact (Meets s.ways second.facts) first.facts
      goes_back c = record {
        item = fact c.first c.first_sign;
        is_in = (first.exact c.first c.first_sign).1 c.says_first;
        holds = record { item = fact c.second c.second_sign; is_in = (second.exact c.second c.second_sign).1 c.says_second; holds = c.excludes };
      }

  -- ---- actions

  clash : (a b : Action) → Clash s.cells s.ways a b ⊎ (¬ Clash s.cells s.ways a b)
  clash a b = either (guards_clash a.guard b.guard) (is_true (indexes_differ a.index b.index))

  -- the three ways to be loose
  abbrev Alike : (a b : Action) → Type 0
  Alike a b = (a.var ≡ b.var) × ((a.copy ≡ b.copy) × ((a.delayed ≡ b.delayed) × (¬ Clash s.cells s.ways a b)))

  abbrev First : (a b : Action) → Type 0
  First a b = (a.var ≡ b.var) × ((a.delayed ≡ true) × ((b.delayed ≡ false) × (is_stored s.made b.var b.copy ≡ true)))

  abbrev Second : (a b : Action) → Type 0
  Second a b = (a.var ≡ b.var) × ((a.delayed ≡ false) × ((b.delayed ≡ true) × (is_stored s.made a.var a.copy ≡ true)))

  loose_out : (a b : Action) → Alike a b ⊎ (First a b ⊎ Second a b) → AreLoose s a b
  loose_out a b (inl (v, (c, (d, n)))) = both_alike v c d n
  loose_out a b (inr (inl (v, (d, (e, f))))) = pending_first v d e f
  loose_out a b (inr (inr (v, (d, (e, f))))) = pending_second v d e f

  loose_back : (a b : Action) → AreLoose s a b → Alike a b ⊎ (First a b ⊎ Second a b)
  loose_back a b (both_alike v c d n) = inl (v, (c, (d, n)))
  loose_back a b (pending_first v d e f) = inr (inl (v, (d, (e, f))))
  loose_back a b (pending_second v d e f) = inr (inr (v, (d, (e, f))))

  loose : (a b : Action) → AreLoose s a b ⊎ (¬ AreLoose s a b)
  loose a b =
      alike (loose_out a b) (loose_back a b)
      (either (both (cases_eq a.var b.var) (both (cases_eq a.copy b.copy) (both (same_bool a.delayed b.delayed) (is_not (clash a b)))))
      (either (both (cases_eq a.var b.var) (both (same_bool a.delayed true) (both (same_bool b.delayed false) (is_true (is_stored s.made b.var b.copy)))))
      (both (cases_eq a.var b.var) (both (same_bool a.delayed false) (both (same_bool b.delayed true) (is_true (is_stored s.made a.var a.copy)))))))

  -- ---- pairs

  module _ (actions : List Action) where
    abbrev Pair : (i j : ℕ) → Type 0
    Pair i j = IsLoosePair s actions i j

    unsome : (a b : Action) → Some a ≡ Some b → a ≡ b
    unsome a b e = cc

    no_action : (a : Action) → None ≡ Some a → ⊥
    no_action a e = cc

    pair : (i j : ℕ) → Pair i j ⊎ (¬ Pair i j)
    pair i j = at (cases_lt i j) (slice_get actions i) (slice_get actions j) refl refl
      where
        looks : (a b : Action) → i < j → slice_get actions i ≡ Some a → slice_get actions j ≡ Some b → AreLoose s a b ⊎ (¬ AreLoose s a b) → Pair i j ⊎ (¬ Pair i j)
        looks a b l e f (inl w) = inl (record { in_turn = l; first = a; second = b; is_first = e; is_second = f; loose = w })
        looks a b l e f (inr n) = inr (λ p. n (subst₂ (λ (x y : Action). AreLoose s x y) (unsome p.first a (sym p.is_first ∙ e)) (unsome p.second b (sym p.is_second ∙ f)) p.loose))

        at : (i < j) ⊎ (j ≤ i) → (o q : Option Action) → slice_get actions i ≡ o → slice_get actions j ≡ q → Pair i j ⊎ (¬ Pair i j)
        at (inr le) o q e f = inr (λ p. let l = p.in_turn in omega (arith, l, le))
        at (inl l) None q e f = inr (λ p. no_action p.first (sym e ∙ p.is_first))
        at (inl l) (Some a) None e f = inr (λ p. no_action p.second (sym f ∙ p.is_second))
        at (inl l) (Some a) (Some b) e f = looks a b l e f (loose a b)

    -- the pairs with this second action and a first one below a bound
    record Firsts (j n : ℕ) : Type 0 where
      pairs : List (ℕ × ℕ)
      exact : (i k : ℕ) → Contains pairs (i, k) ↔ ((k ≡ j) × (i < n) × Pair i j)

    abbrev two : (i j : ℕ) → ℕ × ℕ
    two i j = (i, j)

    same_two : (i j k l : ℕ) → two i j ≡ two k l → (i ≡ k) × (j ≡ l)
    same_two i j k l e = (ap (λ (p : ℕ × ℕ). p.0) e, ap (λ (p : ℕ × ℕ). p.1) e)

    firsts : (j n : ℕ) → Firsts j n
    firsts j zero = record { pairs = []; exact = λ i k. (λ c. absurd (not_in_none (two i k) c), λ h. absurd (omega (arith, h.1))) }
    firsts j (suc n) = at (pair n j) (firsts j n)
      where
        at : Pair n j ⊎ (¬ Pair n j) → Firsts j n → Firsts j (suc n)
        at (inl p) rest = record { pairs = two n j ∷ rest.pairs; exact = λ i k. (forth i k, goes_back i k) }
          where
            forth : (i k : ℕ) → Contains (two n j ∷ rest.pairs) (two i k) → (k ≡ j) × (i < suc n) × Pair i j
            forth i k c = elim (in_cases (two n j) rest.pairs (two i k) c) [
              | inl e ↦ (let q = same_two n j i k e in let same : n ≡ i = q.0 in (sym q.1, omega (arith, same), subst (λ (m : ℕ). Pair m j) same p))
              | inr d ↦ (let h = (rest.exact i k).0 d in let less : i < n = h.1 in (h.0, omega (arith, less), h.2))
            ]

            goes_back : (i k : ℕ) → (k ≡ j) × (i < suc n) × Pair i j → Contains (two n j ∷ rest.pairs) (two i k)
            goes_back i k (e, l, q) = elim (cases_lt i n) [
              | inl less ↦ in_others (two n j) rest.pairs (two i k) ((rest.exact i k).1 (e, less, q))
              | inr le ↦ (let same : n ≡ i = omega (arith, l, le) in subst (Contains (two n j ∷ rest.pairs)) (ap₂ two same (sym e)) (in_first (two n j) rest.pairs))
            ]
        at (inr not_this) rest = record {
          pairs = rest.pairs;
          exact = λ i k. (
            λ d. let h = (rest.exact i k).0 d in let less : i < n = h.1 in (h.0, omega (arith, less), h.2),
            λ h. elim (cases_lt i n) [
              | inl less ↦ (rest.exact i k).1 (h.0, less, h.2)
              | inr le ↦ (let l : i < suc n = h.1 in let same : i ≡ n = omega (arith, l, le) in absurd (not_this (subst (λ (m : ℕ). Pair m j) same h.2)))
            ],
          );
        }

    -- the pairs with a second action below a bound
    record Pairs (n : ℕ) : Type 0 where
      pairs : List (ℕ × ℕ)
      exact : (i j : ℕ) → Contains pairs (i, j) ↔ ((j < n) × Pair i j)

    pairs_below : (n : ℕ) → Pairs n
    pairs_below zero = record { pairs = []; exact = λ i j. (λ c. absurd (not_in_none (two i j) c), λ h. absurd (omega (arith, h.0))) }
    pairs_below (suc n) = more (firsts n n) (pairs_below n)
      where
        more : Firsts n n → Pairs n → Pairs (suc n)
        more row rest = record { pairs = row.pairs ++ rest.pairs; exact = λ i j. (forth i j, goes_back i j) }
          where
            forth : (i j : ℕ) → Contains (row.pairs ++ rest.pairs) (two i j) → (j < suc n) × Pair i j
            forth i j c = elim (Contains-append_cases row.pairs rest.pairs (two i j) c) [
              | inl d ↦ (let h = (row.exact i j).0 d in let same : j ≡ n = h.0 in (omega (arith, same), subst (λ (m : ℕ). Pair i m) (sym same) h.2))
              | inr d ↦ (let h = (rest.exact i j).0 d in let less : j < n = h.0 in (omega (arith, less), h.1))
            ]

            goes_back : (i j : ℕ) → (j < suc n) × Pair i j → Contains (row.pairs ++ rest.pairs) (two i j)
            goes_back i j (l, p) = elim (cases_lt j n) [
              | inl less ↦ Contains-append_right row.pairs rest.pairs (two i j) ((rest.exact i j).1 (less, p))
              | inr le ↦ (let same : j ≡ n = omega (arith, l, le) in let turn : i < j = p.in_turn in
                  Contains-append_left row.pairs rest.pairs (two i j) ((row.exact i j).1 (same, omega (arith, turn, same), subst (λ (m : ℕ). Pair i m) same p)))
            ]

    all_pairs : (pairs : List (ℕ × ℕ)) × ((i j : ℕ) → Contains pairs (i, j) ↔ IsLoosePair s actions i j)
    all_pairs = (whole.pairs, λ i j. (λ c. ((whole.exact i j).0 c).1, λ p. (whole.exact i j).1 (there actions j p.second p.is_second, p)))
      where
        whole : Pairs (length actions)
        whole = pairs_below (length actions)

pub loose_pairs_are_listed : LoosePairsAreListed
loose_pairs_are_listed s order actions is = all_pairs s order is actions
