-- The loose pairs among more and more of those that were looked at.
use Rattle.std.proofs.Common.{◌≡◌, ◌∙◌, ℕ, zero, suc, ◌<◌, ◌≤◌, ◌+◌, min, inl, inr, Bool, true, false, List, [], ◌∷◌, ◌++◌, length, map, set, take, replicate, Contains, get_or, Option, Some, None, refl, sym, ap, subst, arith}
use Rattle.std.specs.Prelude.{◌⊎◌, ◌==◌, slice_get, slice_index_or}
use Rattle.std.proofs.Math.ListN.{length-set, length-replicate}
use Rattle.std.proofs.lemmas.Bool.Decides.{nat_tests}
use Rattle.quartz_tree.specs.declared.place.Place.{Place}
use Rattle.quartz_tree.specs.Least.{least_place, lesser_place}
use Rattle.aif_cells.specs.declared.aif.Aif.{Aif}
use Rattle.aif_cells.specs.declared.cells.Action.{Action}
use Rattle.write_conflicts.specs.declared.pairs.Pairs.{Pairs}
use Rattle.write_conflicts.specs.declared.claims.Claims.{Claims}
use Rattle.write_conflicts.specs.Claims.{AreBothClaimed, AreClaimsOf}
use Rattle.write_conflicts.specs.Loose.{AreLoose, IsLoosePair, IsLooseVar, Scene, later_place}
use Rattle.write_conflicts.specs.Pairs.{ArePairsOf, greatest_count, place_in, place_of, scene}
use Rattle.write_conflicts.specs.Tallies.{AreByVariable, AreEarlier, AreRising, IsSeen, IsTally, IsWrittenIn, row_of}
use Rattle.write_conflicts.proofs.OrderLemmas.{new_item, old_item, set_other, set_same, split}
use Rattle.write_conflicts.proofs.ClashLemmas.{loose_vars}
use Rattle.std.proofs.lemmas.List.{get_or_default, get_or-set_other, get_or-set_same, get_or-take, length-append, length-take-le, take_all, take_more}
use Rattle.std.proofs.lemmas.List.Elements.{Contains-append_left, Contains-get_or, Contains-push, Contains-push_cases}
use Rattle.aif_cells.proofs.ItemLemmas.{at_place, in_first, in_others, in_cases}
use Rattle.aif_cells.proofs.SolutionLemmas.{there}

all_false : (n x : ℕ) → slice_get (replicate n false) x ≡ Some true → ⊥
all_false zero x e = cc
all_false (suc n) zero e = cc
all_false (suc n) (suc x) e = all_false n x e

same_number : (i j : ℕ) → (i ≡ j) ⊎ (i ≡ j → ⊥)
same_number i j = at (i == j) refl
  where
    at : (b : Bool) → (i == j) ≡ b → (i ≡ j) ⊎ (i ≡ j → ⊥)
    at true e = inl (grind (arith, nat_tests, e))
    at false e = inr (λ q. grind (arith, nat_tests, e, q))

same_item : {A : Type 0} (xs : List A) (i : ℕ) (x y : A) → slice_get xs i ≡ Some x → slice_get xs i ≡ Some y → x ≡ y
same_item xs i x y e f = at (sym e ∙ f)
  where
    at : Some x ≡ Some y → x ≡ y
    at q = cc

module _ (s : Scene) (actions : List Action) (variables : ℕ) where
  -- what was looked at may be said otherwise
  pub tally_same : (Seen Other : ℕ → ℕ → Type 0) (found : Pairs) → ((i j : ℕ) → IsLoosePair s actions i j → Seen i j → Other i j) → ((i j : ℕ) → IsLoosePair s actions i j → Other i j → Seen i j) → IsTally s actions variables Seen found → IsTally s actions variables Other found
  tally_same Seen Other found f g p = record {
    pairs = p.pairs;
    once = p.once;
    sound = λ i j m. (let q = p.sound i j m in (q.0, f i j q.0 q.1));
    complete = λ i j q o. p.complete i j q (g i j q o);
    counted = p.counted;
    least = p.least;
    flags = p.flags;
    flagged = p.flagged;
  }

  pub tally_none : (Seen : ℕ → ℕ → Type 0) (found : Pairs) → ((i j : ℕ) → i < j → Seen i j → ⊥) → found.count ≡ 0 → found.least ≡ None → found.loose ≡ replicate variables false → IsTally s actions variables Seen found
  tally_none Seen found f c l o = record {
    pairs = [];
    once = tt;
    sound = λ i j m. absurd (omega (arith, m.1));
    complete = λ i j q h. absurd (f i j q.in_turn h);
    counted = omega (arith, c);
    least = l;
    flags = ap length o ∙ length-replicate variables false;
    flagged = λ x h. (λ e. absurd (all_false variables x (ap (λ (xs : List Bool). slice_get xs x) (sym o) ∙ e)), λ w. absurd (let m = w.among in omega (arith, m.1)));
  }

  module _ (Seen : ℕ → ℕ → Type 0) (found : Pairs) (i j : ℕ) (a b : Action) (is_a : slice_get actions i ≡ Some a) (is_b : slice_get actions j ≡ Some b) where
    -- what was looked at, and this pair
    abbrev pub WithThis : ℕ → ℕ → Type 0
    WithThis x y = Seen x y ⊎ ((x ≡ i) × (y ≡ j))

    loose_here : (x y : ℕ) → (x ≡ i) × (y ≡ j) → IsLoosePair s actions x y → AreLoose s a b
    loose_here x y e q =
        let f : q.first ≡ a = same_item actions i q.first a (ap (slice_get actions) (sym e.0) ∙ q.is_first) is_a in
        let g : q.second ≡ b = same_item actions j q.second b (ap (slice_get actions) (sym e.1) ∙ q.is_second) is_b in
        subst (λ (y : Action). AreLoose s a y) g (subst (λ (x : Action). AreLoose s x q.second) f q.loose)

    pub tally_skipped : (AreLoose s a b → ⊥) → IsTally s actions variables Seen found → IsTally s actions variables WithThis found
    tally_skipped no_pair p = record {
      pairs = p.pairs;
      once = p.once;
      sound = λ x y m. (let q = p.sound x y m in (q.0, inl q.1));
      complete = λ x y q o. (elim o [
        | inl h ↦ p.complete x y q h
        | inr e ↦ absurd (no_pair (loose_here x y e q))
      ]);
      counted = p.counted;
      least = p.least;
      flags = p.flags;
      flagged = p.flagged;
    }

    module _ (new : Pairs) (in_turn : i < j) (loose : AreLoose s a b) (unseen : Seen i j → ⊥) (p : IsTally s actions variables Seen found)
        (count : new.count ≡ min (found.count + 1) greatest_count) (least : new.least ≡ lesser_place (Some (later_place a.place b.place)) found.least) (flags : new.loose ≡ set found.loose a.var true) where
      sound_now : (x y : ℕ) → Contains ((i, j) ∷ p.pairs) (x, y) → IsLoosePair s actions x y × WithThis x y
      sound_now x y m = at (in_cases (i, j) p.pairs (x, y) m)
        where
          here : ◌≡◌ {A = ℕ × ℕ} (i, j) (x, y) → IsLoosePair s actions x y × WithThis x y
          here e = subst (λ (q : ℕ × ℕ). IsLoosePair s actions q.0 q.1 × WithThis q.0 q.1) e (record { in_turn = in_turn; first = a; second = b; is_first = is_a; is_second = is_b; loose = loose }, inr (refl, refl))

          at : (◌≡◌ {A = ℕ × ℕ} (i, j) (x, y)) ⊎ Contains p.pairs (x, y) → IsLoosePair s actions x y × WithThis x y
          at (inl e) = here e
          at (inr n) = let q = p.sound x y n in (q.0, inl q.1)

      complete_now : (x y : ℕ) → IsLoosePair s actions x y → WithThis x y → Contains ((i, j) ∷ p.pairs) (x, y)
      complete_now x y q (inl h) = in_others (i, j) p.pairs (x, y) (p.complete x y q h)
      complete_now x y q (inr e) = subst (λ (k : ℕ). Contains ((i, j) ∷ p.pairs) (k, y)) (sym e.0) (subst (λ (k : ℕ). Contains ((i, j) ∷ p.pairs) (i, k)) (sym e.1) (in_first (i, j) p.pairs))

      places_are : place_of actions (i, j) ≡ later_place a.place b.place
      places_are = ap (λ (o : Option Action). later_place (place_in o) (place_in (slice_get actions j))) is_a ∙ ap (λ (o : Option Action). later_place a.place (place_in o)) is_b

      flag_there : (x : ℕ) → x < variables → slice_get new.loose x ≡ Some true → IsWrittenIn actions ((i, j) ∷ p.pairs) x
      flag_there x l e = at (same_number a.var x)
        where
          older : IsWrittenIn actions p.pairs x → IsWrittenIn actions ((i, j) ∷ p.pairs) x
          older w = record { i = w.i; j = w.j; among = in_others (i, j) p.pairs (w.i, w.j) w.among; action = w.action; is_action = w.is_action; writes = w.writes }

          at : (a.var ≡ x) ⊎ (a.var ≡ x → ⊥) → IsWrittenIn actions ((i, j) ∷ p.pairs) x
          at (inl q) = record { i = i; j = j; among = in_first (i, j) p.pairs; action = a; is_action = is_a; writes = q }
          at (inr f) = older ((p.flagged x l).0 (sym (ap (λ (xs : List Bool). slice_get xs x) flags ∙ set_other found.loose a.var x true f) ∙ e))

      flag_back : (x : ℕ) → x < variables → IsWrittenIn actions ((i, j) ∷ p.pairs) x → slice_get new.loose x ≡ Some true
      flag_back x l w = ap (λ (xs : List Bool). slice_get xs x) flags ∙ by_number (same_number a.var x)
        where
          fits : x < length found.loose
          fits = let h = p.flags in omega (arith, l, h)

          of_this : ◌≡◌ {A = ℕ × ℕ} (i, j) (w.i, w.j) → a.var ≡ x
          of_this e = ap (λ (y : Action). y.var) (same_item actions i a w.action is_a (ap (λ (q : ℕ × ℕ). slice_get actions q.0) e ∙ w.is_action)) ∙ w.writes

          other : (a.var ≡ x → ⊥) → (◌≡◌ {A = ℕ × ℕ} (i, j) (w.i, w.j)) ⊎ Contains p.pairs (w.i, w.j) → slice_get found.loose x ≡ Some true
          other f (inl e) = absurd (f (of_this e))
          other f (inr n) = (p.flagged x l).1 (record { i = w.i; j = w.j; among = n; action = w.action; is_action = w.is_action; writes = w.writes })

          by_number : (a.var ≡ x) ⊎ (a.var ≡ x → ⊥) → slice_get (set found.loose a.var true) x ≡ Some true
          by_number (inl q) = ap (λ (k : ℕ). slice_get (set found.loose k true) x) q ∙ set_same found.loose x true fits
          by_number (inr f) = set_other found.loose a.var x true f ∙ other f (in_cases (i, j) p.pairs (w.i, w.j) w.among)

      pub tally_added : IsTally s actions variables WithThis new
      tally_added = record {
        pairs = (i, j) ∷ p.pairs;
        once = (λ m. unseen (p.sound i j m).1, p.once);
        sound = sound_now;
        complete = complete_now;
        counted = (let h = p.counted in omega (arith, h, count));
        least = least ∙ (ap (lesser_place (Some (later_place a.place b.place))) p.least ∙ ap (λ (q : Place). lesser_place (Some q) (least_place (map (place_of actions) p.pairs))) (sym places_are));
        flags = ap length flags ∙ (length-set found.loose a.var true ∙ p.flags);
        flagged = λ x l. (flag_there x l, flag_back x l);
      }

-- ---- the order in which pairs are looked at
pub this_next : (seen : List ℕ) (first second i j : ℕ) → IsSeen seen second i j ⊎ ((i ≡ first) × (j ≡ second)) → IsSeen (seen ++ first ∷ []) second i j
this_next seen first second i j (inl (inl h)) = inl h
this_next seen first second i j (inl (inr h)) = inr (h.0, Contains-append_left seen (first ∷ []) i h.1)
this_next seen first second i j (inr e) = inr (e.1, subst (Contains (seen ++ first ∷ [])) (sym e.0) (Contains-push seen first))

pub next_this : (seen : List ℕ) (first second i j : ℕ) → IsSeen (seen ++ first ∷ []) second i j → IsSeen seen second i j ⊎ ((i ≡ first) × (j ≡ second))
next_this seen first second i j (inl h) = inl (inl h)
next_this seen first second i j (inr h) = elim (Contains-push_cases seen first i h.1) [
  | inl m ↦ inl (inr (h.0, m))
  | inr e ↦ inr (sym e, h.0)
]

unseen_yet : (seen : List ℕ) (first second : ℕ) → (Contains seen first → ⊥) → IsSeen seen second first second → ⊥
unseen_yet seen first second f (inl h) = omega (arith, h)
unseen_yet seen first second f (inr h) = f h.1

pub none_before : (i j : ℕ) → IsSeen [] 0 i j → ⊥
none_before i j (inl h) = omega (arith, h)
none_before i j (inr h) = omega (arith, h.1.1)

module _ (s : Scene) (actions : List Action) (earlier : List ℕ) (second : ℕ) (p : AreEarlier actions second earlier) where
  row_next : (i j : ℕ) → IsLoosePair s actions i j → IsSeen earlier second i j → IsSeen [] (second + 1) i j
  row_next i j q (inl h) = inl (omega (arith, h))
  row_next i j q (inr h) = inl (omega (arith, h.0))

  next_row : (i j : ℕ) → IsLoosePair s actions i j → IsSeen [] (second + 1) i j → IsSeen earlier second i j
  next_row i j q (inl h) = elim (split j second h) [
    | inl l ↦ inl l
    | inr e ↦ inr (e, p.complete i q.first q.second (let t = q.in_turn in omega (arith, t, e)) q.is_first (ap (slice_get actions) (sym e) ∙ q.is_second) (loose_vars s q.first q.second q.loose))
  ]
  next_row i j q (inr h) = absurd (omega (arith, h.1.1))

  pub row_done : (variables n : ℕ) (found : Pairs) → length earlier ≤ n → IsTally s actions variables (IsSeen (take n earlier) second) found → IsTally s actions variables (IsSeen [] (second + 1)) found
  row_done variables n found l t = tally_same s actions variables (IsSeen earlier second) (IsSeen [] (second + 1)) found row_next next_row (subst (λ (xs : List ℕ). IsTally s actions variables (IsSeen xs second) found) (take_all n earlier l) t)

  pub row_starts : (variables : ℕ) (found : Pairs) → IsTally s actions variables (IsSeen [] second) found → IsTally s actions variables (IsSeen (take 0 earlier) second) found
  row_starts variables found t = t

  pub first_less : (n d : ℕ) → n < length earlier → get_or earlier n d < second
  first_less n d l = p.before (get_or earlier n d) (Contains-get_or earlier n d l)

  pub first_new : (n : ℕ) → n < length earlier → Contains (take n earlier) (get_or earlier n 0) → ⊥
  first_new n l m =
      let size : length (take n earlier) ≡ n = length-take-le n earlier (omega (arith, l)) in
      let less : m.0 < n = omega (arith, m.1, size) in
      let rises : get_or earlier m.0 0 < get_or earlier n 0 = p.rising m.0 n less l in
      let same : get_or earlier m.0 0 ≡ get_or earlier n 0 = get_or_default earlier m.0 0 (get_or earlier n 0) (omega (arith, less, l)) ∙ (sym (get_or-take n earlier m.0 (get_or earlier n 0) less) ∙ m.2) in
      omega (arith, rises, same)

  pub row_more : (variables n : ℕ) (old new : Pairs) → n < length earlier → IsTally s actions variables (IsSeen (take n earlier) second) old
      → ((seen : List ℕ) → (Contains seen (get_or earlier n 0) → ⊥) → IsTally s actions variables (IsSeen seen second) old → IsTally s actions variables (IsSeen (seen ++ get_or earlier n 0 ∷ []) second) new)
      → IsTally s actions variables (IsSeen (take (n + 1) earlier) second) new
  row_more variables n old new l t f = subst (λ (xs : List ℕ). IsTally s actions variables (IsSeen xs second) new) (sym (take_more earlier n 0 l)) (f (take n earlier) (first_new n l) t)

-- ---- the rows of the variables
rising_push : (xs : List ℕ) (n : ℕ) → AreRising xs → ((i : ℕ) → Contains xs i → i < n) → AreRising (xs ++ n ∷ [])
rising_push xs n p below a b lt within = at (split b (length xs) (let e = length-append xs (n ∷ []) in omega (arith, within, e)))
  where
    at : (b < length xs) ⊎ (b ≡ length xs) → get_or (xs ++ n ∷ []) a 0 < get_or (xs ++ n ∷ []) b 0
    at (inl h) =
        let e : get_or (xs ++ n ∷ []) a 0 ≡ get_or xs a 0 = old_item xs n a 0 (omega (arith, lt, h)) in
        let f : get_or (xs ++ n ∷ []) b 0 ≡ get_or xs b 0 = old_item xs n b 0 h in
        let r : get_or xs a 0 < get_or xs b 0 = p a b lt h in
        omega (arith, e, f, r)
    at (inr h) =
        let e : get_or (xs ++ n ∷ []) a 0 ≡ get_or xs a 0 = old_item xs n a 0 (omega (arith, lt, h)) in
        let f : get_or (xs ++ n ∷ []) b 0 ≡ n = ap (λ (k : ℕ). get_or (xs ++ n ∷ []) k 0) h ∙ new_item xs n 0 in
        let r : get_or xs a 0 < n = below (get_or xs a 0) (Contains-get_or xs a 0 (omega (arith, lt, h))) in
        omega (arith, e, f, r)

module _ (actions : List Action) (variables second : ℕ) (rows : List (List ℕ)) (p : AreByVariable actions variables second rows) where
  pub row_within : (x : ℕ) → row_of variables x < length rows
  row_within x = let size = p.size in omega (arith, size)

  -- the row of an action's variable has those before it
  pub row_is : (b : Action) → slice_get actions second ≡ Some b → (r : ℕ) (row : List ℕ) (d : List ℕ) → r ≡ row_of variables b.var → row ≡ get_or rows r d → AreEarlier actions second row
  row_is b e r row d q f = record {
    complete = λ i a c l g h v. subst (λ (xs : List ℕ). Contains xs i) (sym here) (subst (λ (x : ℕ). Contains (get_or rows (row_of variables x) []) i) (v ∙ ap (λ (y : Action). y.var) (same_item actions second c b h e)) (p.complete i a l g));
    before = λ i m. p.before (row_of variables b.var) i (subst (λ (xs : List ℕ). Contains xs i) here m);
    rising = subst AreRising (sym here) (p.rising (row_of variables b.var));
  }
    where
      here : row ≡ get_or rows (row_of variables b.var) []
      here = f ∙ (get_or_default rows r d [] (let l : row_of variables b.var < length rows = row_within b.var in omega (arith, l, q)) ∙ ap (λ (k : ℕ). get_or rows k []) q)

  -- one more action in its row
  pub rows_more : (b : Action) → slice_get actions second ≡ Some b → (r : ℕ) (row new : List ℕ) (d : List ℕ) → r ≡ row_of variables b.var → row ≡ get_or rows r d → new ≡ row ++ second ∷ [] → AreByVariable actions variables (second + 1) (set rows r new)
  rows_more b e r row new d q f g = record { size = length-set rows r new ∙ p.size; complete = complete; before = before; rising = rising }
    where
      within : r < length rows
      within = let l : row_of variables b.var < length rows = row_within b.var in omega (arith, l, q)

      old : row ≡ get_or rows r []
      old = f ∙ get_or_default rows r d [] within

      at_row : get_or (set rows r new) r [] ≡ get_or rows r [] ++ second ∷ []
      at_row = get_or-set_same rows r new [] within ∙ (g ∙ ap (λ (xs : List ℕ). xs ++ second ∷ []) old)

      complete : (i : ℕ) (a : Action) → i < second + 1 → slice_get actions i ≡ Some a → Contains (slice_index_or (set rows r new) (row_of variables a.var) []) i
      complete i a l h = at (split i second l)
        where
          older : i < second → (row_of variables a.var ≡ r) ⊎ (row_of variables a.var ≡ r → ⊥) → Contains (slice_index_or (set rows r new) (row_of variables a.var) []) i
          older m (inl k) = subst (λ (j : ℕ). Contains (get_or (set rows r new) j []) i) (sym k) (subst (λ (xs : List ℕ). Contains xs i) (sym at_row) (Contains-append_left (get_or rows r []) (second ∷ []) i (subst (λ (j : ℕ). Contains (get_or rows j []) i) k (p.complete i a m h))))
          older m (inr k) = subst (λ (xs : List ℕ). Contains xs i) (sym (get_or-set_other rows r (row_of variables a.var) new [] k)) (p.complete i a m h)

          at : (i < second) ⊎ (i ≡ second) → Contains (slice_index_or (set rows r new) (row_of variables a.var) []) i
          at (inl m) = older m (same_number (row_of variables a.var) r)
          at (inr m) =
              let k : row_of variables a.var ≡ r = ap (λ (y : Action). row_of variables y.var) (same_item actions second a b (ap (slice_get actions) (sym m) ∙ h) e) ∙ sym q in
              subst (λ (j : ℕ). Contains (get_or (set rows r new) j []) i) (sym k) (subst (λ (xs : List ℕ). Contains xs i) (sym at_row) (subst (Contains (get_or rows r [] ++ second ∷ [])) (sym m) (Contains-push (get_or rows r []) second)))

      before : (k i : ℕ) → Contains (slice_index_or (set rows r new) k []) i → i < second + 1
      before k i m = at (same_number k r)
        where
          in_this : Contains (get_or rows r [] ++ second ∷ []) i → i < second + 1
          in_this n = elim (Contains-push_cases (get_or rows r []) second i n) [
            | inl o ↦ (let l : i < second = p.before r i o in omega (arith, l))
            | inr o ↦ omega (arith, o)
          ]

          at : (k ≡ r) ⊎ (k ≡ r → ⊥) → i < second + 1
          at (inl h) = in_this (subst (λ (xs : List ℕ). Contains xs i) at_row (subst (λ (j : ℕ). Contains (get_or (set rows r new) j []) i) h m))
          at (inr h) = let l : i < second = p.before k i (subst (λ (xs : List ℕ). Contains xs i) (get_or-set_other rows r k new [] h) m) in omega (arith, l)

      rising : (k : ℕ) → AreRising (slice_index_or (set rows r new) k [])
      rising k = at (same_number k r)
        where
          at : (k ≡ r) ⊎ (k ≡ r → ⊥) → AreRising (slice_index_or (set rows r new) k [])
          at (inl h) = subst (λ (j : ℕ). AreRising (get_or (set rows r new) j [])) (sym h) (subst AreRising (sym at_row) (rising_push (get_or rows r []) second (p.rising r) (p.before r)))
          at (inr h) = subst AreRising (sym (get_or-set_other rows r k new [] h)) (p.rising k)

  -- so for the action at this place of a list that is that of the actions
  module _ (xs : List Action) (e : xs ≡ actions) (n : ℕ) (m : n ≡ variables) (d : Action) (l : second < length actions) (r : ℕ) (q : r ≡ row_of n (get_or xs second d).var) where
    here_is : slice_get actions second ≡ Some (get_or xs second d)
    here_is = at_place actions second d l ∙ ap (λ (ys : List Action). Some (get_or ys second d)) (sym e)

    row_of_it : r ≡ row_of variables (get_or xs second d).var
    row_of_it = q ∙ ap (λ (k : ℕ). row_of k (get_or xs second d).var) m

    pub row_here : (row old : List ℕ) → row ≡ get_or rows r old → AreEarlier actions second row
    row_here row old f = row_is (get_or xs second d) here_is r row old row_of_it f

    pub rows_here : (row new : List ℕ) → row ≡ get_or rows r row → new ≡ row ++ second ∷ [] → AreByVariable actions variables (second + 1) (set rows r new)
    rows_here row new f g = rows_more (get_or xs second d) here_is r row new row row_of_it f g

empty_row : (n k : ℕ) → get_or {A = List ℕ} (replicate n []) k [] ≡ []
empty_row zero k = refl
empty_row (suc n) zero = refl
empty_row (suc n) (suc k) = empty_row n k

pub rows_none : (actions : List Action) (variables : ℕ) (rows : List (List ℕ)) → rows ≡ replicate (variables + 1) [] → AreByVariable actions variables 0 rows
rows_none actions variables rows e = record {
  size = ap length e ∙ length-replicate (variables + 1) [];
  complete = λ i a l h. absurd (omega (arith, l));
  before = λ r i m. absurd (let n : Contains {X = ℕ} [] i = subst (λ (xs : List ℕ). Contains xs i) (none r) m in omega (arith, n.1));
  rising = λ r. subst AreRising (sym (none r)) (λ a b l h. absurd (omega (arith, h)));
}
  where
    none : (r : ℕ) → get_or rows r [] ≡ []
    none r = ap (λ (xs : List (List ℕ)). get_or xs r []) e ∙ empty_row (variables + 1) r

-- ---- the next pair
module _ (s : Scene) (actions xs : List Action) (e : xs ≡ actions) (variables : ℕ) (found : Pairs) (first second : ℕ) (d : Action) (in_turn : first < second) (within : second < length actions) where
  lesser_there : slice_get actions first ≡ Some (get_or xs first d)
  lesser_there = at_place actions first d (omega (arith, in_turn, within)) ∙ ap (λ (ys : List Action). Some (get_or ys first d)) (sym e)

  greater_there : slice_get actions second ≡ Some (get_or xs second d)
  greater_there = at_place actions second d within ∙ ap (λ (ys : List Action). Some (get_or ys second d)) (sym e)

  pub skipped_at : (AreLoose s (get_or xs first d) (get_or xs second d) → ⊥) → (seen : List ℕ) → IsTally s actions variables (IsSeen seen second) found → IsTally s actions variables (IsSeen (seen ++ first ∷ []) second) found
  skipped_at f seen p = tally_same s actions variables (WithThis s actions variables (IsSeen seen second) found first second (get_or xs first d) (get_or xs second d) lesser_there greater_there) (IsSeen (seen ++ first ∷ []) second) found (λ i j t. this_next seen first second i j) (λ i j t. next_this seen first second i j)
      (tally_skipped s actions variables (IsSeen seen second) found first second (get_or xs first d) (get_or xs second d) lesser_there greater_there f p)

  pub added_at : (new : Pairs) → AreLoose s (get_or xs first d) (get_or xs second d)
      → new.count ≡ min (found.count + 1) greatest_count → new.least ≡ lesser_place (Some (later_place (get_or xs first d).place (get_or xs second d).place)) found.least → new.loose ≡ set found.loose (get_or xs first d).var true
      → (seen : List ℕ) → (Contains seen first → ⊥) → IsTally s actions variables (IsSeen seen second) found → IsTally s actions variables (IsSeen (seen ++ first ∷ []) second) new
  added_at new l c q o seen u p = tally_same s actions variables (WithThis s actions variables (IsSeen seen second) found first second (get_or xs first d) (get_or xs second d) lesser_there greater_there) (IsSeen (seen ++ first ∷ []) second) new (λ i j t. this_next seen first second i j) (λ i j t. next_this seen first second i j)
      (tally_added s actions variables (IsSeen seen second) found first second (get_or xs first d) (get_or xs second d) lesser_there greater_there new in_turn l (unseen_yet seen first second u) p c q o)

  pub claimed_at : (claims : List Claims) (x y : Claims) → AreClaimsOf s actions claims → x ≡ get_or claims first x → y ≡ get_or claims second y → AreBothClaimed s (get_or xs first d) (get_or xs second d) x y
  claimed_at claims x y p f g = record {
    blocks = p.blocks;
    first = p.each first (get_or xs first d) x lesser_there (at_place claims first x (let size = p.size in omega (arith, size, in_turn, within)) ∙ ap Some (sym f));
    second = p.each second (get_or xs second d) y greater_there (at_place claims second y (let size = p.size in omega (arith, size, within)) ∙ ap Some (sym g));
  }

-- ---- all pairs were looked at
pub pairs_of : (a : Aif) (found : Pairs) (n : ℕ) → length a.actions ≤ n → IsTally (scene a) a.actions (length a.vars) (IsSeen [] n) found → ArePairsOf a found
pairs_of a found n l p = record {
  pairs = p.pairs;
  once = p.once;
  exact = λ i j. (λ m. (p.sound i j m).0, whole i j);
  counted = p.counted;
  least = p.least;
  flags = p.flags;
  flagged = λ x h. (λ e. written x ((p.flagged x h).0 e), λ w. (p.flagged x h).1 (record { i = w.i; j = w.j; among = whole w.i w.j w.pair; action = w.pair.first; is_action = w.pair.is_first; writes = w.writes }));
}
  where
    whole : (i j : ℕ) → IsLoosePair (scene a) a.actions i j → Contains p.pairs (i, j)
    whole i j q = p.complete i j q (inl (let h = there a.actions j q.second q.is_second in omega (arith, h, l)))

    written : (x : ℕ) → IsWrittenIn a.actions p.pairs x → IsLooseVar (scene a) a.actions x
    written x w =
        let q : IsLoosePair (scene a) a.actions w.i w.j = (p.sound w.i w.j w.among).0 in
        record { i = w.i; j = w.j; pair = q; writes = ap (λ (y : Action). y.var) (same_item a.actions w.i q.first w.action q.is_first w.is_action) ∙ w.writes }
