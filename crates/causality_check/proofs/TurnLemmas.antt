-- Cells that are taken in turn: a key that is added, a cell that gets its place, a cell that is taken.
use Rattle.std.proofs.Common.{◌≡◌, ◌≢◌, ℕ, zero, suc, ◌+◌, ◌-◌, ◌<◌, ◌≤◌, ◌⊎◌, inl, inr, Bool, true, false, List, [], ◌∷◌, ◌++◌, length, drop, replicate, Contains, refl, sym, ap, subst, ◌∙◌, arith, get_or, set}
use Rattle.std.specs.Prelude.{Some, slice_get}
use Rattle.std.specs.declared.cmp.Ordering.{Ordering}
use Rattle.std.specs.declared.cmp.Ordering.TheVariants.{Less, Equal, Greater}
use Rattle.std.specs.Ordering.{match_ordering, nat_cmp}
use Rattle.std.specs.BTreeSet.{insert_key}
use Rattle.std.proofs.lemmas.Bool.{cases_eq, cases_lt, false_from_ne_true, false≢true}
use Rattle.std.proofs.lemmas.List.{get_or-set_same, get_or-set_other, length-set, get_or_default, length-replicate, length_push, take-append-le, drop_more, take_at}
use Rattle.std.proofs.lemmas.List.Elements.{Contains-append_left, Contains-push, Contains-push_cases, Contains-get_or}
use Rattle.std.proofs.lemmas.Map.Lookups.{exact_unsigned}
use Rattle.causality_check.specs.Graph.{row, Needs, IsClosed}
use Rattle.causality_check.specs.Turns.{Adds, AllLeftAreHeldUp, AreInTurn, IsFree, IsLeastFree, IsSound, IsWaiting, PopsLeast, SomeIsLeft, Tables, count_true, counted}
use Rattle.causality_check.proofs.GraphLemmas.{in_one, not_in_none, row_within}
use Rattle.aif_cells.proofs.ItemLemmas.{in_first, in_others, in_cases}

-- ---- a key more

abbrev KeyFrom : ℕ → List ℕ → List ℕ → Type 0
KeyFrom k before after = (j : ℕ) → Contains after j → (j ≡ k) ⊎ Contains before j

abbrev KeyKept : ℕ → List ℕ → List ℕ → Type 0
KeyKept k before after = (j : ℕ) → (j ≡ k) ⊎ Contains before j → Contains after j

from_step : (k x : ℕ) (ks more : List ℕ) (o : Ordering) → KeyFrom k ks more → KeyFrom k (x ∷ ks) (match_ordering o (k ∷ x ∷ ks) (x ∷ ks) (x ∷ more))
from_step k x ks more Less f j h = elim (in_cases k (x ∷ ks) j h) [ inl e ↦ inl (sym e) | inr c ↦ inr c ]
from_step k x ks more Equal f j h = inr h
from_step k x ks more Greater f j h = elim (in_cases x more j h) [
  | inl e ↦ inr (subst (Contains (x ∷ ks)) e (in_first x ks))
  | inr c ↦ elim (f j c) [ inl e ↦ inl e | inr d ↦ inr (in_others x ks j d) ]
]

kept_step : (k x : ℕ) (ks more : List ℕ) (o : Ordering) → nat_cmp k x ≡ o → KeyKept k ks more → KeyKept k (x ∷ ks) (match_ordering o (k ∷ x ∷ ks) (x ∷ ks) (x ∷ more))
kept_step k x ks more Less e f j (inl q) = subst (Contains (k ∷ x ∷ ks)) (sym q) (in_first k (x ∷ ks))
kept_step k x ks more Less e f j (inr c) = in_others k (x ∷ ks) j c
kept_step k x ks more Equal e f j (inl q) = subst (Contains (x ∷ ks)) (sym (exact_unsigned k x e) ∙ sym q) (in_first x ks)
kept_step k x ks more Equal e f j (inr c) = c
kept_step k x ks more Greater e f j (inl q) = in_others x more j (f j (inl q))
kept_step k x ks more Greater e f j (inr c) = elim (in_cases x ks j c) [ inl q ↦ subst (Contains (x ∷ more)) q (in_first x more) | inr d ↦ in_others x more j (f j (inr d)) ]

key_from : (k : ℕ) (ks : List ℕ) → KeyFrom k ks (insert_key nat_cmp ks k)
key_from k [] j h = inl (sym (in_one k j h))
key_from k (x ∷ ks) j h = from_step k x ks (insert_key nat_cmp ks k) (nat_cmp k x) (key_from k ks) j h

key_kept : (k : ℕ) (ks : List ℕ) → KeyKept k ks (insert_key nat_cmp ks k)
key_kept k [] j (inl e) = subst (Contains (k ∷ [])) (sym e) (in_first k [])
key_kept k [] j (inr c) = absurd (not_in_none j c)
key_kept k (x ∷ ks) j h = kept_step k x ks (insert_key nat_cmp ks k) (nat_cmp k x) refl (key_kept k ks) j h

pub adds_key : (before after : List ℕ) (k : ℕ) → after ≡ insert_key nat_cmp before k → Adds before k after
adds_key before after k e = subst (Adds before k) (sym e) (λ j. (key_from k before j, key_kept k before j))

-- ---- a cell gets its place

-- so many of the cells that a cell needs are taken, and the tables say so
short_set : (g : List (List ℕ)) (passed : List ℕ) (k at : ℕ) → k < length passed → at ≤ length (row g k) → ((j : ℕ) → get_or passed j 0 ≤ length (row g j)) → (j : ℕ) → get_or (set passed k at) j 0 ≤ length (row g j)
short_set g passed k at h le f j = elim (cases_eq j k) [
  | inl e ↦ subst (λ (m : ℕ). get_or (set passed k at) m 0 ≤ length (row g m)) (sym e) (subst (λ (n : ℕ). n ≤ length (row g k)) (sym (get_or-set_same passed k at 0 h)) le)
  | inr ne ↦ subst (λ (n : ℕ). n ≤ length (row g j)) (sym (get_or-set_other passed k j at 0 ne)) (f j)
]

passes_set : (g : List (List ℕ)) (order passed : List ℕ) (k at : ℕ) → k < length passed
    → ((i : ℕ) → i < at → Contains order (get_or (row g k) i 0))
    → ((j i : ℕ) → i < get_or passed j 0 → Contains order (get_or (row g j) i 0))
    → (j i : ℕ) → i < get_or (set passed k at) j 0 → Contains order (get_or (row g j) i 0)
passes_set g order passed k at h more f j i lt = elim (cases_eq j k) [
  | inl e ↦ subst (λ (m : ℕ). Contains order (get_or (row g m) i 0)) (sym e) (more i (subst (λ (n : ℕ). i < n) (get_or-set_same passed k at 0 h) (subst (λ (m : ℕ). i < get_or (set passed k at) m 0) e lt)))
  | inr ne ↦ f j i (subst (λ (n : ℕ). i < n) (get_or-set_other passed k j at 0 ne) lt)
]

-- the cells passed so far, and those passed now
passed_more : (g : List (List ℕ)) (rest : List ℕ) (s : Tables) (k at : ℕ) → IsSound g rest s
    → ((i : ℕ) → get_or s.passed k 0 ≤ i → i < at → get_or s.taken (get_or (row g k) i 0) false ≡ true)
    → (i : ℕ) → i < at → Contains s.order (get_or (row g k) i 0)
passed_more g rest s k at p f i lt = elim (cases_lt i (get_or s.passed k 0)) [ inl l ↦ p.passes k i l | inr ge ↦ p.told (get_or (row g k) i 0) (f i ge lt) ]

-- one more waits for a cell
pub row_push : (w : List (List ℕ)) (d k e j : ℕ) → d < length w → Contains (row (set w d (row w d ++ k ∷ [])) e) j → Contains (row w e) j ⊎ ((e ≡ d) × (j ≡ k))
row_push w d k e j h c = elim (cases_eq e d) [
  | inl q ↦ elim (Contains-push_cases (row w d) k j (subst (λ (xs : List ℕ). Contains xs j) (get_or-set_same w d (row w d ++ k ∷ []) [] h) (subst (λ (m : ℕ). Contains (row (set w d (row w d ++ k ∷ [])) m) j) q c))) [
    | inl a ↦ inl (subst (λ (m : ℕ). Contains (row w m) j) (sym q) a)
    | inr b ↦ inr (q, sym b)
  ]
  | inr ne ↦ inl (subst (λ (xs : List ℕ). Contains xs j) (get_or-set_other w d e (row w d ++ k ∷ []) [] ne) c)
]

pub row_push_kept : (w : List (List ℕ)) (d k e j : ℕ) → d < length w → Contains (row w e) j → Contains (row (set w d (row w d ++ k ∷ [])) e) j
row_push_kept w d k e j h c = elim (cases_eq e d) [
  | inl q ↦ subst (λ (m : ℕ). Contains (row (set w d (row w d ++ k ∷ [])) m) j) (sym q) (subst (λ (xs : List ℕ). Contains xs j) (sym (get_or-set_same w d (row w d ++ k ∷ []) [] h)) (Contains-append_left (row w d) (k ∷ []) j (subst (λ (m : ℕ). Contains (row w m) j) q c)))
  | inr ne ↦ subst (λ (xs : List ℕ). Contains xs j) (sym (get_or-set_other w d e (row w d ++ k ∷ []) [] ne)) c
]

pub row_pushed : (w : List (List ℕ)) (d k : ℕ) → d < length w → Contains (row (set w d (row w d ++ k ∷ [])) d) k
row_pushed w d k h = subst (λ (xs : List ℕ). Contains xs k) (sym (get_or-set_same w d (row w d ++ k ∷ []) [] h)) (Contains-push (row w d) k)

pub place_waiting : (g : List (List ℕ)) (s : Tables) (k at d : ℕ) (rest : List ℕ) → IsClosed g → k < length g
    → at < length (row g k) → d ≡ get_or (row g k) at 0
    → ((i : ℕ) → get_or s.passed k 0 ≤ i → i < at → get_or s.taken (get_or (row g k) i 0) false ≡ true)
    → get_or s.taken d false ≡ false
    → IsSound g (k ∷ rest) s → IsSound g rest (record s { passed = set s.passed k at; waiting = set s.waiting d (row s.waiting d ++ k ∷ []) })
place_waiting g s k at d rest closed hk lt is passed left p =
    let needs : Needs g k d = subst (Contains (row g k)) (sym is) (Contains-get_or (row g k) at 0 lt) in
    let free : ¬ Contains s.order d = λ c. false≢true (sym left ∙ p.seen d c) in
    let hd : d < length s.waiting = omega (arith, closed k d needs, p.fit.waiting) in
    let hp : k < length s.passed = omega (arith, hk, p.fit.passed) in
    let w : List (List ℕ) = set s.waiting d (row s.waiting d ++ k ∷ []) in
    let t : Tables = record s { passed = set s.passed k at; waiting = w } in
    record {
      fit = record {
        taken = p.fit.taken;
        passed = length-set s.passed k at ∙ p.fit.passed;
        waiting = length-set s.waiting d (row s.waiting d ++ k ∷ []) ∙ p.fit.waiting;
        short = short_set g s.passed k at hp (omega (arith, lt)) p.fit.short;
      };
      cells = p.cells;
      told = p.told;
      seen = p.seen;
      counted = p.counted;
      in_turn = p.in_turn;
      closed = p.closed;
      passes = passes_set g s.order s.passed k at hp (passed_more g (k ∷ rest) s k at p passed) p.passes;
      waits = λ e j c. elim (row_push s.waiting d k e j hd c) [
        | inl a ↦ p.waits e j a
        | inr b ↦ subst (λ (m : ℕ). Needs g m e) (sym b.1) (subst (Needs g k) (sym b.0) needs)
      ];
      ready = p.ready;
      placed = λ j hj nj. elim (p.placed j hj nj) [
        | inl a ↦ elim (in_cases k rest j a) [
          | inl e ↦ inr (inr (subst (λ (m : ℕ). IsWaiting g t m) e (d, record { needs = needs; left = free; listed = row_pushed s.waiting d k hd })))
          | inr c ↦ inl c
        ]
        | inr b ↦ elim b [
          | inl r ↦ inr (inl r)
          | inr w ↦ inr (inr (w.0, record { needs = w.1.needs; left = w.1.left; listed = row_push_kept s.waiting d k w.0 j hd w.1.listed }))
        ]
      ];
    }

pub place_ready : (g : List (List ℕ)) (s : Tables) (k at : ℕ) (rest ready : List ℕ) → k < length g
    → at ≡ length (row g k)
    → ((i : ℕ) → get_or s.passed k 0 ≤ i → i < at → get_or s.taken (get_or (row g k) i 0) false ≡ true)
    → Adds s.ready k ready → (¬ Contains s.order k)
    → IsSound g (k ∷ rest) s → IsSound g rest (record s { passed = set s.passed k at; ready = ready })
place_ready g s k at rest ready hk is passed adds nk p =
    let hp : k < length s.passed = omega (arith, hk, p.fit.passed) in
    let all : (i : ℕ) → i < at → Contains s.order (get_or (row g k) i 0) = passed_more g (k ∷ rest) s k at p passed in
    let free : IsFree g s.order k = record { is_cell = hk; left = nk; free = λ d c. subst (Contains s.order) c.2 (subst (Contains s.order) (get_or_default (row g k) c.0 0 d c.1) (all c.0 (omega (arith, c.1, is)))) } in
    record {
      fit = record {
        taken = p.fit.taken;
        passed = length-set s.passed k at ∙ p.fit.passed;
        waiting = p.fit.waiting;
        short = short_set g s.passed k at hp (omega (arith, is)) p.fit.short;
      };
      cells = p.cells;
      told = p.told;
      seen = p.seen;
      counted = p.counted;
      in_turn = p.in_turn;
      closed = p.closed;
      passes = passes_set g s.order s.passed k at hp all p.passes;
      waits = p.waits;
      ready = λ j c. elim ((adds j).0 c) [ inl e ↦ subst (IsFree g s.order) (sym e) free | inr d ↦ p.ready j d ];
      placed = λ j hj nj. elim (p.placed j hj nj) [
        | inl a ↦ elim (in_cases k rest j a) [ inl e ↦ inr (inl ((adds j).1 (inl (sym e)))) | inr c ↦ inl c ]
        | inr b ↦ elim b [
          | inl r ↦ inr (inl ((adds j).1 (inr r)))
          | inr w ↦ inr (inr (w.0, record { needs = w.1.needs; left = w.1.left; listed = w.1.listed }))
        ]
      ];
    }

-- the same, by what the code has read
pub place_waits : (g : List (List ℕ)) (s : Tables) (k at : ℕ) (rest : List ℕ) → IsClosed g → k < length g
    → (needed : List ℕ) → needed ≡ row g k → (from : ℕ) → from ≡ get_or s.passed k 0
    → (pushed : List ℕ) → pushed ≡ row s.waiting (get_or needed at 0) ++ k ∷ [] → at < length needed
    → ((i : ℕ) → from ≤ i → i < at → get_or s.taken (get_or needed i 0) false ≡ true)
    → get_or s.taken (get_or needed at 0) false ≡ false
    → IsSound g (k ∷ rest) s → IsSound g rest (record s { passed = set s.passed k at; waiting = set s.waiting (get_or needed at 0) pushed })
place_waits g s k at rest closed hk needed e from f pushed q lt passed left p =
    subst (λ (xs : List ℕ). IsSound g rest (record s { passed = set s.passed k at; waiting = set s.waiting (get_or xs at 0) pushed })) (sym e)
    (subst (λ (ys : List ℕ). IsSound g rest (record s { passed = set s.passed k at; waiting = set s.waiting (get_or (row g k) at 0) ys })) (sym (q ∙ ap (λ (xs : List ℕ). row s.waiting (get_or xs at 0) ++ k ∷ []) e))
    (place_waiting g s k at (get_or (row g k) at 0) rest closed hk (subst (λ (xs : List ℕ). at < length xs) e lt) refl
    (λ i a b. subst (λ (xs : List ℕ). get_or s.taken (get_or xs i 0) false ≡ true) e (passed i (subst (λ (n : ℕ). n ≤ i) (sym f) a) b))
    (subst (λ (xs : List ℕ). get_or s.taken (get_or xs at 0) false ≡ false) e left) p))

pub place_is_ready : (g : List (List ℕ)) (s : Tables) (k at : ℕ) (rest ready : List ℕ) → k < length g
    → (needed : List ℕ) → needed ≡ row g k → (from : ℕ) → from ≡ get_or s.passed k 0
    → at ≤ length needed → length needed ≤ at
    → ((i : ℕ) → from ≤ i → i < at → get_or s.taken (get_or needed i 0) false ≡ true)
    → Adds s.ready k ready
    → IsSound g (k ∷ rest) s → (¬ Contains s.order k) → IsSound g rest (record s { passed = set s.passed k at; ready = ready })
place_is_ready g s k at rest ready hk needed e from f le ge passed adds p nk =
    let n : length needed ≡ length (row g k) = ap length e in
    place_ready g s k at rest ready hk (omega (arith, n, le, ge))
    (λ i a b. subst (λ (xs : List ℕ). get_or s.taken (get_or xs i 0) false ≡ true) e (passed i (subst (λ (n : ℕ). n ≤ i) (sym f) a) b))
    adds nk p

-- ---- a cell is taken

-- what is waited for when a cell is taken waits for it, and isn't taken
pub record AreFreed (g : List (List ℕ)) (order : List ℕ) (ks : List ℕ) : Type 0 where
  pub cells : (j : ℕ) → Contains ks j → j < length g
  pub left : (j : ℕ) → Contains ks j → ¬ Contains order j

count_set : (bs : List Bool) (k : ℕ) → k < length bs → get_or bs k false ≡ false → count_true (set bs k true) ≡ count_true bs + 1
count_set [] k h e = absurd (omega (arith, h))
count_set (true ∷ bs) zero h e = absurd (false≢true (sym e))
count_set (false ∷ bs) zero h e = omega arith
count_set (b ∷ bs) (suc k) h e = let q : count_true (set bs k true) ≡ count_true bs + 1 = count_set bs k (omega (arith, h)) e in omega (arith, q)

pub count_le : (bs : List Bool) → count_true bs ≤ length bs
count_le [] = omega arith
count_le (true ∷ bs) = omega (arith, count_le bs)
count_le (false ∷ bs) = omega (arith, count_le bs)

nth_push : (xs : List ℕ) (k i m : ℕ) → slice_get (xs ++ k ∷ []) i ≡ Some m → ((i < length xs) × (slice_get xs i ≡ Some m)) ⊎ ((i ≡ length xs) × (m ≡ k))
nth_push [] k zero m e = inr (refl, cc)
nth_push [] k (suc i) m e = absurd cc
nth_push (x ∷ xs) k zero m e = inl (omega arith, e)
nth_push (x ∷ xs) k (suc i) m e = elim (nth_push xs k i m e) [ inl a ↦ inl (omega (arith, a.0), a.1) | inr b ↦ inr (let q : suc i ≡ suc (length xs) = omega (arith, b.0) in q, b.1) ]

in_turn_push : (g : List (List ℕ)) (order : List ℕ) (k : ℕ) → AreInTurn g order → IsLeastFree g order k → AreInTurn g (order ++ k ∷ [])
in_turn_push g order k f least i m e = elim (nth_push order k i m e) [
  | inl a ↦ subst (λ (xs : List ℕ). IsLeastFree g xs m) (sym (take-append-le i order (k ∷ []) (omega (arith, a.0)))) (f i m a.1)
  | inr b ↦ subst (λ (xs : List ℕ). IsLeastFree g xs m) (sym (take_at order (k ∷ []) i (sym b.0))) (subst (IsLeastFree g order) (sym b.1) least)
]

-- the least of the cells that are ready is the next one
pub next_is : (g : List (List ℕ)) (s : Tables) (k : ℕ) (ready : List ℕ) → IsSound g [] s → PopsLeast s.ready k ready → IsLeastFree g s.order k
next_is g s k ready p pops = record {
  ready = p.ready k (subst (λ (xs : List ℕ). Contains xs k) (sym pops.parts) (in_first k ready));
  least = λ j r. elim (p.placed j r.is_cell r.left) [
    | inl a ↦ absurd (not_in_none j a)
    | inr b ↦ elim b [
      | inl c ↦ elim (in_cases k ready j (subst (λ (xs : List ℕ). Contains xs j) pops.parts c)) [ inl e ↦ omega (arith, e) | inr d ↦ (let lt : k < j = pops.greater j d in omega (arith, lt)) ]
      | inr w ↦ absurd (w.1.left (r.free w.0 w.1.needs))
    ]
  ];
}

pub taken_next : (g : List (List ℕ)) (s : Tables) (k : ℕ) (ready : List ℕ) → IsSound g [] s → PopsLeast s.ready k ready
    → IsSound g (row s.waiting k) (record { taken = set s.taken k true; passed = s.passed; waiting = set s.waiting k []; ready = ready; order = s.order ++ k ∷ [] })
taken_next g s k ready p pops =
    let next : IsLeastFree g s.order k = next_is g s k ready p pops in
    let ht : k < length s.taken = omega (arith, next.ready.is_cell, p.fit.taken) in
    let hw : k < length s.waiting = omega (arith, next.ready.is_cell, p.fit.waiting) in
    let order : List ℕ = s.order ++ k ∷ [] in
    let was_left : get_or s.taken k false ≡ false = false_from_ne_true (get_or s.taken k false) (λ e. next.ready.left (p.told k e)) in
    let kept : (d : ℕ) → Contains s.order d → Contains order d = λ d c. Contains-append_left s.order (k ∷ []) d c in
    let t : Tables = record { taken = set s.taken k true; passed = s.passed; waiting = set s.waiting k []; ready = ready; order = order } in
    let row_kept : (e j : ℕ) → e ≢ k → Contains (row s.waiting e) j → Contains (row (set s.waiting k []) e) j = λ e j ne c. subst (λ (xs : List ℕ). Contains xs j) (sym (get_or-set_other s.waiting k e [] [] ne)) c in
    record {
      fit = record { taken = length-set s.taken k true ∙ p.fit.taken; passed = p.fit.passed; waiting = length-set s.waiting k [] ∙ p.fit.waiting; short = p.fit.short };
      cells = λ j c. elim (Contains-push_cases s.order k j c) [ inl a ↦ p.cells j a | inr e ↦ subst (λ (m : ℕ). m < length g) e next.ready.is_cell ];
      told = λ j e. elim (cases_eq j k) [
        | inl q ↦ subst (Contains order) (sym q) (Contains-push s.order k)
        | inr ne ↦ kept j (p.told j (sym (get_or-set_other s.taken k j true false ne) ∙ e))
      ];
      seen = λ j c. elim (cases_eq j k) [
        | inl q ↦ ap (λ (m : ℕ). get_or (set s.taken k true) m false) q ∙ get_or-set_same s.taken k true false ht
        | inr ne ↦ get_or-set_other s.taken k j true false ne ∙ p.seen j (elim (Contains-push_cases s.order k j c) [ inl a ↦ a | inr e ↦ absurd (ne (sym e)) ])
      ];
      counted = let n : count_true (set s.taken k true) ≡ count_true s.taken + 1 = count_set s.taken k ht was_left in let m : length order ≡ length s.order + 1 = length_push s.order k in omega (arith, n, m, p.counted);
      in_turn = in_turn_push g s.order k p.in_turn next;
      closed = λ j d c n. elim (Contains-push_cases s.order k j c) [
        | inl a ↦ kept d (p.closed j d a n)
        | inr e ↦ kept d (next.ready.free d (subst (λ (m : ℕ). Needs g m d) (sym e) n))
      ];
      passes = λ j i lt. kept (get_or (row g j) i 0) (p.passes j i lt);
      waits = λ e j c. elim (cases_eq e k) [
        | inl q ↦ absurd (not_in_none j (subst (λ (xs : List ℕ). Contains xs j) (get_or-set_same s.waiting k [] [] hw) (subst (λ (m : ℕ). Contains (row (set s.waiting k []) m) j) q c)))
        | inr ne ↦ p.waits e j (subst (λ (xs : List ℕ). Contains xs j) (get_or-set_other s.waiting k e [] [] ne) c)
      ];
      ready = λ j c.
          let f : IsFree g s.order j = p.ready j (subst (λ (xs : List ℕ). Contains xs j) (sym pops.parts) (in_others k ready j c)) in
          let lt : k < j = pops.greater j c in
          record { is_cell = f.is_cell; left = λ d. elim (Contains-push_cases s.order k j d) [ inl a ↦ f.left a | inr e ↦ (let q : k ≡ j = e in omega (arith, lt, q)) ]; free = λ d n. kept d (f.free d n) };
      placed = λ j hj nj.
          let old : ¬ Contains s.order j = λ c. nj (kept j c) in
          elim (p.placed j hj old) [
            | inl a ↦ absurd (not_in_none j a)
            | inr b ↦ elim b [
              | inl c ↦ elim (in_cases k ready j (subst (λ (xs : List ℕ). Contains xs j) pops.parts c)) [
                | inl e ↦ absurd (nj (subst (Contains order) e (Contains-push s.order k)))
                | inr d ↦ inr (inl d)
              ]
              | inr w ↦ elim (cases_eq w.0 k) [
                | inl e ↦ inl (subst (λ (m : ℕ). Contains (row s.waiting m) j) e w.1.listed)
                | inr ne ↦ inr (inr (
                  w.0,
                  record {
                    needs = w.1.needs;
                    left = λ c. elim (Contains-push_cases s.order k w.0 c) [ inl a ↦ w.1.left a | inr e ↦ ne (sym e) ];
                    listed = row_kept w.0 j ne w.1.listed;
                  },
                ))
              ]
            ]
          ];
    }

-- what waited for the cell that is taken isn't taken
pub are_freed : (g : List (List ℕ)) (s : Tables) (k : ℕ) (ready : List ℕ) → IsSound g [] s → PopsLeast s.ready k ready → AreFreed g (s.order ++ k ∷ []) (row s.waiting k)
are_freed g s k ready p pops =
    let next : IsLeastFree g s.order k = next_is g s k ready p pops in
    record {
      cells = λ j c. row_within g j k (p.waits k j c);
      left = λ j c d. elim (Contains-push_cases s.order k j d) [
        | inl a ↦ next.ready.left (p.closed j k a (p.waits k j c))
        | inr e ↦ next.ready.left (next.ready.free k (subst (λ (m : ℕ). Needs g m k) (sym e) (p.waits k j c)))
      ];
    }

-- ---- the end, and the beginning

-- where no cell is ready, what isn't taken is held up
pub held_up : (g : List (List ℕ)) (s : Tables) → IsSound g [] s → s.ready ≡ [] → AllLeftAreHeldUp g s.order
held_up g s p e k hk nk = elim (p.placed k hk nk) [
  | inl a ↦ absurd (not_in_none k a)
  | inr b ↦ elim b [
    | inl c ↦ absurd (not_in_none k (subst (λ (xs : List ℕ). Contains xs k) e c))
    | inr w ↦ (w.0, w.1.needs, w.1.left)
  ]
]

-- tables that are alike, and lists that are alike
pub sound_is : (g : List (List ℕ)) (rest list : List ℕ) (s t : Tables) → t.taken ≡ s.taken → t.passed ≡ s.passed → t.waiting ≡ s.waiting → t.ready ≡ s.ready → t.order ≡ s.order → list ≡ rest → IsSound g rest s → IsSound g list t
sound_is g rest list s t a b c d e q p =
    let same : s ≡ t = sym (λ i. record { taken = a i; passed = b i; waiting = c i; ready = d i; order = e i }) in
    subst (IsSound g list) same (subst (λ (xs : List ℕ). IsSound g xs s) (sym q) p)

counted_step : (i n : ℕ) → i < n → counted i (n - i) ≡ i ∷ counted (i + 1) (n - (i + 1))
counted_step i n h = let e : n - i ≡ suc (n - (i + 1)) = omega (arith, h) in ap (counted i) e

pub counted_end : (i n : ℕ) → n ≤ i → counted i (n - i) ≡ []
counted_end i n h = let e : n - i ≡ 0 = omega (arith, h) in ap (counted i) e

in_counted : (i count k : ℕ) → i ≤ k → k < i + count → Contains (counted i count) k
in_counted i zero k a b = absurd (omega (arith, a, b))
in_counted i (suc count) k a b = elim (cases_eq i k) [
  | inl e ↦ subst (Contains (i ∷ counted (i + 1) count)) e (in_first i (counted (i + 1) count))
  | inr ne ↦ in_others i (counted (i + 1) count) k (in_counted (i + 1) count k (omega (arith, a, ne)) (omega (arith, b)))
]

falses : (n k : ℕ) → get_or (replicate n false) k false ≡ false
falses zero k = refl
falses (suc n) zero = refl
falses (suc n) (suc k) = falses n k

noughts : (n k : ℕ) → get_or (replicate n 0) k 0 ≤ 0
noughts zero k = omega arith
noughts (suc n) zero = omega arith
noughts (suc n) (suc k) = noughts n k

empties : (n k : ℕ) → row (replicate n []) k ≡ []
empties zero k = refl
empties (suc n) zero = refl
empties (suc n) (suc k) = empties n k

none_true : (n : ℕ) → count_true (replicate n false) ≡ 0
none_true zero = refl
none_true (suc n) = omega (arith, none_true n)

starts_sound : (g : List (List ℕ)) → IsSound g (counted 0 (length g - 0)) (record { taken = replicate (length g) false; passed = replicate (length g) 0; waiting = replicate (length g) []; ready = []; order = [] })
starts_sound g = let n : ℕ = length g in record {
  fit = record { taken = length-replicate n false; passed = length-replicate n 0; waiting = length-replicate n []; short = λ k. omega (arith, noughts n k) };
  cells = λ k c. absurd (not_in_none k c);
  told = λ k e. absurd (false≢true (sym (falses n k) ∙ e));
  seen = λ k c. absurd (not_in_none k c);
  counted = none_true n;
  in_turn = λ i k e. absurd cc;
  closed = λ k d c. absurd (not_in_none k c);
  passes = λ k i lt. absurd (omega (arith, lt, noughts n k));
  waits = λ d k c. absurd (not_in_none k (subst (λ (xs : List ℕ). Contains xs k) (empties n d) c));
  ready = λ k c. absurd (not_in_none k c);
  placed = λ k hk nk. inl (in_counted 0 (n - 0) k (omega arith) (omega (arith, hk)));
}

pub started : (g : List (List ℕ)) (s : Tables) → s.taken ≡ replicate (length g) false → s.passed ≡ replicate (length g) 0 → s.waiting ≡ replicate (length g) [] → s.ready ≡ [] → s.order ≡ [] → IsSound g (counted 0 (length g - 0)) s
started g s a b c d e = sound_is g (counted 0 (length g - 0)) (counted 0 (length g - 0)) (record { taken = replicate (length g) false; passed = replicate (length g) 0; waiting = replicate (length g) []; ready = []; order = [] }) s a b c d e refl (starts_sound g)

-- the first cell of the list that has no place
pub first_counted : (g : List (List ℕ)) (s : Tables) (i : ℕ) → i < length g → IsSound g (counted i (length g - i)) s → IsSound g (i ∷ counted (i + 1) (length g - (i + 1))) s
first_counted g s i h p = subst (λ (xs : List ℕ). IsSound g xs s) (counted_step i (length g) h) p

pub first_left : (g : List (List ℕ)) (s : Tables) (xs : List ℕ) (i : ℕ) → i < length xs → IsSound g (drop i xs) s → IsSound g (get_or xs i 0 ∷ drop (i + 1) xs) s
first_left g s xs i h p = subst (λ (ys : List ℕ). IsSound g ys s) (drop_more xs i 0 h) p

some_false : (bs : List Bool) → count_true bs < length bs → (k : ℕ) × (k < length bs) × (get_or bs k false ≡ false)
some_false [] h = absurd (omega (arith, h))
some_false (false ∷ bs) h = (0, omega arith, refl)
some_false (true ∷ bs) h = let r : (k : ℕ) × (k < length bs) × (get_or bs k false ≡ false) = some_false bs (omega (arith, h)) in (suc r.0, omega (arith, r.1), r.2)

pub order_short : (g : List (List ℕ)) (rest : List ℕ) (s : Tables) → IsSound g rest s → length s.order ≤ length g
order_short g rest s p = omega (arith, p.counted, p.fit.taken, count_le s.taken)

all_true : (bs : List Bool) (k : ℕ) → length bs ≤ count_true bs → k < length bs → get_or bs k false ≡ true
all_true [] k le h = absurd (omega (arith, h))
all_true (false ∷ bs) k le h = absurd (omega (arith, le, count_le bs))
all_true (true ∷ bs) zero le h = refl
all_true (true ∷ bs) (suc k) le h = all_true bs k (omega (arith, le)) (omega (arith, h))

pub some_is_left : (g : List (List ℕ)) (rest : List ℕ) (s : Tables) → IsSound g rest s → SomeIsLeft g s.order
some_is_left g rest s p = elim (cases_lt (length s.order) (length g)) [
  | inl lt ↦ (let r : (k : ℕ) × (k < length s.taken) × (get_or s.taken k false ≡ false) = some_false s.taken (omega (arith, lt, p.counted, p.fit.taken)) in
      inr (lt, (r.0, omega (arith, r.1, p.fit.taken), λ c. false≢true (sym r.2 ∙ p.seen r.0 c))))
  | inr ge ↦ inl (
    (let le : length s.order ≤ length g = order_short g rest s p in omega (arith, ge, le)),
    λ k h. p.told k (all_true s.taken k (omega (arith, ge, p.counted, p.fit.taken)) (omega (arith, h, p.fit.taken))),
  )
]
