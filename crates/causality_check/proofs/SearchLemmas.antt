-- The search for components: a cell is opened, a cell is looked at, components are joined, a cell retires, and a
-- component is closed.
use Rattle.std.proofs.Common.{◌≡◌, ◌≢◌, ℕ, zero, suc, ◌+◌, ◌-◌, ◌<◌, ◌≤◌, ◌⊎◌, inl, inr, Bool, cond, List, [], ◌∷◌, ◌++◌, length, take, drop, map, replicate, Contains, refl, sym, ap, subst, ◌∙◌, arith, get_or, set}
use Rattle.std.proofs.lemmas.Bool.{cases_eq, cases_lt, le-ltb, lt-ltb}
use Rattle.std.proofs.lemmas.List.{get_or-set_same, get_or-set_other, length-set, length_push, get_or_push, get_or_append_left, get_or_default, length-take-le, get_or-take, take_more, same_from_push, take_at, length-drop, get_or-drop, nil_from_length, length-replicate, length-map, get_or-map}
use Rattle.std.proofs.lemmas.List.Elements.{Contains-append_left, Contains-push, Contains-push_cases, Contains-get_or}
use Rattle.causality_check.specs.declared.components.Mark.{Mark}
use Rattle.causality_check.specs.declared.components.Mark.TheVariants.{New, Open, Closed}
use Rattle.causality_check.specs.Graph.{row, Needs, IsClosed, Walk, Reaches}
use Rattle.causality_check.specs.Search.{AreComponents, AreUpTo, Ascends, EndsIn, Holds, IsLookedAt, IsPast, IsRetired, IsStepped, IsUnder, NoneBegins, Table, cell_at, closed_from, effort, looked, mark, mark_in, rank_of, unlooked, with_open}
use Rattle.causality_check.proofs.GraphLemmas.{not_in_none, row_within}

-- ---- ways

pub reaches_itself : (g : List (List ℕ)) (a : ℕ) → Reaches g a a
reaches_itself g a = (0, refl)

walk_then : (g : List (List ℕ)) (n a b c : ℕ) → Walk g n a b → Reaches g b c → Reaches g a c
walk_then g zero a b c e r = subst (λ (m : ℕ). Reaches g m c) (sym e) r
walk_then g (suc n) a b c w r = let s : Reaches g w.0 c = walk_then g n w.0 b c w.2 r in (suc s.0, (w.0, w.1, s.1))

pub reaches_then : (g : List (List ℕ)) (a b c : ℕ) → Reaches g a b → Reaches g b c → Reaches g a c
reaches_then g a b c r s = walk_then g r.0 a b c r.1 s

pub reaches_needed : (g : List (List ℕ)) (a b : ℕ) → Needs g a b → Reaches g a b
reaches_needed g a b n = (1, (b, n, refl))

-- ---- marks

new_is_not_open : (p : ℕ) → New ≡ Open p → ⊥
new_is_not_open p e = cc

new_is_not_closed : (p : ℕ) → New ≡ Closed p → ⊥
new_is_not_closed p e = cc

open_is_not_closed : (p c : ℕ) → Open p ≡ Closed c → ⊥
open_is_not_closed p c e = cc

open_same : (p q : ℕ) → Open p ≡ Open q → p ≡ q
open_same p q e = cc

closed_same : (p q : ℕ) → Closed p ≡ Closed q → p ≡ q
closed_same p q e = cc

-- ---- lists of numbers

pub ascends_push : (xs : List ℕ) (n : ℕ) → Ascends xs → ((x : ℕ) → Contains xs x → x < n) → Ascends (xs ++ n ∷ [])
ascends_push xs n up below i j lt h =
    let l : length (xs ++ n ∷ []) ≡ length xs + 1 = length_push xs n in
    elim (cases_lt j (length xs)) [
      | inl k ↦ (let a : get_or (xs ++ n ∷ []) i 0 ≡ get_or xs i 0 = get_or_append_left xs (n ∷ []) 0 i (omega (arith, lt, k)) in
          let b : get_or (xs ++ n ∷ []) j 0 ≡ get_or xs j 0 = get_or_append_left xs (n ∷ []) 0 j k in
          let c : get_or xs i 0 < get_or xs j 0 = up i j lt k in omega (arith, a, b, c))
      | inr k ↦ (let e : length xs ≡ j = omega (arith, h, l, k) in
          let a : get_or (xs ++ n ∷ []) i 0 ≡ get_or xs i 0 = get_or_append_left xs (n ∷ []) 0 i (omega (arith, lt, e)) in
          let b : get_or (xs ++ n ∷ []) j 0 ≡ n = get_or_push xs n 0 j e in
          let c : get_or xs i 0 < n = below (get_or xs i 0) (Contains-get_or xs i 0 (omega (arith, lt, e))) in omega (arith, a, b, c))
    ]

-- what stands before the last number is less
pub ascends_last : (xs : List ℕ) (n : ℕ) → Ascends (xs ++ n ∷ []) → (x : ℕ) → Contains xs x → x < n
ascends_last xs n up x c =
    let l : length (xs ++ n ∷ []) ≡ length xs + 1 = length_push xs n in
    let a : get_or (xs ++ n ∷ []) c.0 0 ≡ get_or xs c.0 0 = get_or_append_left xs (n ∷ []) 0 c.0 c.1 in
    let b : get_or (xs ++ n ∷ []) (length xs) 0 ≡ n = get_or_push xs n 0 (length xs) refl in
    let d : get_or xs c.0 0 ≡ x = get_or_default xs c.0 0 x c.1 ∙ c.2 in
    let e : get_or (xs ++ n ∷ []) c.0 0 < get_or (xs ++ n ∷ []) (length xs) 0 = up c.0 (length xs) c.1 (omega (arith, l)) in
    omega (arith, a, b, d, e)

pub ascends_pop : (xs : List ℕ) (n : ℕ) → Ascends (xs ++ n ∷ []) → Ascends xs
ascends_pop xs n up i j lt h =
    let l : length (xs ++ n ∷ []) ≡ length xs + 1 = length_push xs n in
    let a : get_or (xs ++ n ∷ []) i 0 ≡ get_or xs i 0 = get_or_append_left xs (n ∷ []) 0 i (omega (arith, lt, h)) in
    let b : get_or (xs ++ n ∷ []) j 0 ≡ get_or xs j 0 = get_or_append_left xs (n ∷ []) 0 j h in
    let c : get_or (xs ++ n ∷ []) i 0 < get_or (xs ++ n ∷ []) j 0 = up i j lt (omega (arith, h, l)) in
    omega (arith, a, b, c)

-- the last number is the greatest
pub ascends_most : (xs : List ℕ) (n : ℕ) → Ascends (xs ++ n ∷ []) → (x : ℕ) → Contains (xs ++ n ∷ []) x → x ≤ n
ascends_most xs n up x c = elim (Contains-push_cases xs n x c) [ inl a ↦ (let lt : x < n = ascends_last xs n up x a in omega (arith, lt)) | inr e ↦ omega (arith, e) ]

-- ---- a cell is opened

-- where a cell stands once a cell is opened
open_mark_same : (t : Table) (b : ℕ) → b < length t.marks → mark (with_open t b) b ≡ Open (length t.stack)
open_mark_same t b h = get_or-set_same t.marks b (Open (length t.stack)) New h

open_mark_other : (t : Table) (a b : ℕ) → a ≢ b → mark (with_open t b) a ≡ mark t a
open_mark_other t a b ne = get_or-set_other t.marks b a (Open (length t.stack)) New ne

-- a cell that isn't new stands where it stood
open_mark_kept : (t : Table) (a b : ℕ) (m : Mark) → mark t b ≡ New → mark t a ≡ m → (New ≡ m → ⊥) → mark (with_open t b) a ≡ m
open_mark_kept t a b m nb e ne = open_mark_other t a b (λ q. ne (sym nb ∙ (ap (mark t) (sym q) ∙ e))) ∙ e

open_cell_old : (t : Table) (b p : ℕ) → p < length t.stack → cell_at (with_open t b) p ≡ cell_at t p
open_cell_old t b p h = get_or_append_left t.stack (b ∷ []) 0 p h

open_cell_new : (t : Table) (b p : ℕ) → length t.stack ≡ p → cell_at (with_open t b) p ≡ b
open_cell_new t b p e = get_or_push t.stack b 0 p e

-- a place on the longer stack
place_cases : (t : Table) (b p : ℕ) → p < length (with_open t b).stack → (p < length t.stack) ⊎ (length t.stack ≡ p)
place_cases t b p h = let l : length (t.stack ++ b ∷ []) ≡ length t.stack + 1 = length_push t.stack b in
    elim (cases_lt p (length t.stack)) [ inl lt ↦ inl lt | inr ge ↦ inr (omega (arith, h, l, ge)) ]

-- a mark once a cell is opened comes from before, or is that of the cell
open_cases : (t : Table) (a b : ℕ) (m : Mark) → b < length t.marks → mark (with_open t b) a ≡ m → (mark t a ≡ m) ⊎ ((a ≡ b) × (Open (length t.stack) ≡ m))
open_cases t a b m h e = elim (cases_eq a b) [
  | inl q ↦ inr (q, sym (ap (mark (with_open t b)) q ∙ open_mark_same t b h) ∙ e)
  | inr ne ↦ inl (sym (open_mark_other t a b ne) ∙ e)
]

pub opens : (g : List (List ℕ)) (t : Table) (b : ℕ) → b < length g → mark t b ≡ New → ((p : ℕ) → p < length t.stack → Reaches g (cell_at t p) b) → Holds g t → Holds g (with_open t b)
opens g t b hb nb from h =
    let n : ℕ = length t.stack in
    let u : Table = with_open t b in
    let hm : b < length t.marks = omega (arith, hb, h.rows.marks_length) in
    let l : length u.stack ≡ n + 1 = length_push t.stack b in
    let kept : (a : ℕ) (m : Mark) → mark t a ≡ m → (New ≡ m → ⊥) → mark u a ≡ m = λ a m e ne. open_mark_kept t a b m nb e ne in
    let start_old : (s : ℕ) → Contains t.starts s → Contains u.starts s = λ s c. Contains-append_left t.starts (n ∷ []) s c in
    let start_below : (s : ℕ) → Contains t.starts s → s < n = λ s c. h.rows.places s (h.at_work s c) in
    record {
      rows = record {
        marks_length = length-set t.marks b (Open n) ∙ h.rows.marks_length;
        looked_length = h.rows.looked_length;
        short = h.rows.short;
        places = λ p c. elim (Contains-push_cases t.work n p c) [ inl a ↦ (let lt : p < n = h.rows.places p a in omega (arith, lt, l)) | inr e ↦ omega (arith, e, l) ];
        cells = λ p lt. elim (place_cases t b p lt) [
          | inl a ↦ subst (λ (m : ℕ). m < length g) (sym (open_cell_old t b p a)) (h.rows.cells p a)
          | inr e ↦ subst (λ (m : ℕ). m < length g) (sym (open_cell_new t b p e)) hb
        ];
      };
      opened = λ p lt. elim (place_cases t b p lt) [
        | inl a ↦ ap (mark u) (open_cell_old t b p a) ∙ kept (cell_at t p) (Open p) (h.opened p a) (new_is_not_open p)
        | inr e ↦ ap (mark u) (open_cell_new t b p e) ∙ (open_mark_same t b hm ∙ ap Open e)
      ];
      stands = λ a p e. elim (open_cases t a b (Open p) hm e) [
        | inl o ↦ (let r : (p < n) × (cell_at t p ≡ a) = h.stands a p o in (omega (arith, r.0, l), open_cell_old t b p r.0 ∙ r.1))
        | inr q ↦ (let r : n ≡ p = open_same n p q.1 in (omega (arith, r, l), open_cell_new t b p r ∙ sym q.0))
      ];
      numbered = λ a c e. elim (open_cases t a b (Closed c) hm e) [ inl o ↦ h.numbered a c o | inr q ↦ absurd (open_is_not_closed n c q.1) ];
      fresh = λ a e. elim (open_cases t a b New hm e) [ inl o ↦ h.fresh a o | inr q ↦ absurd (new_is_not_open n (sym q.1)) ];
      forth = λ p q le lt. elim (place_cases t b q lt) [
        | inl a ↦ (let hp : p < n = omega (arith, le, a) in subst (λ (m : ℕ). Reaches g m (cell_at u q)) (sym (open_cell_old t b p hp)) (subst (Reaches g (cell_at t p)) (sym (open_cell_old t b q a)) (h.forth p q le a)))
        | inr e ↦ elim (place_cases t b p (omega (arith, le, lt))) [
          | inl hp ↦ subst (λ (m : ℕ). Reaches g m (cell_at u q)) (sym (open_cell_old t b p hp)) (subst (Reaches g (cell_at t p)) (sym (open_cell_new t b q e)) (from p hp))
          | inr f ↦ subst (λ (m : ℕ). Reaches g (cell_at u p) (cell_at u m)) (sym f ∙ e) (reaches_itself g (cell_at u p))
        ]
      ];
      back = λ p q le lt none. elim (place_cases t b q lt) [
        | inl a ↦ (let hp : p < n = omega (arith, le, a) in subst (λ (m : ℕ). Reaches g m (cell_at u p)) (sym (open_cell_old t b q a)) (subst (Reaches g (cell_at t q)) (sym (open_cell_old t b p hp)) (h.back p q le a (λ s c. none s (start_old s c)))))
        | inr e ↦ (let m : n ≤ p = none n (Contains-push t.starts n) (omega (arith, e)) in let f : q ≡ p = omega (arith, m, e, le) in subst (λ (k : ℕ). Reaches g (cell_at u q) (cell_at u k)) f (reaches_itself g (cell_at u q)))
      ];
      open_edges = λ a p i e lt. elim (open_cases t a b (Open p) hm e) [
        | inl o ↦ elim (h.open_edges a p i o lt) [
          | inl c ↦ inl (c.0, kept (get_or (row g a) i 0) (Closed c.0) c.1 (new_is_not_closed c.0))
          | inr q ↦ inr (
            q.0,
            record {
              is_open = kept (get_or (row g a) i 0) (Open q.0) q.1.is_open (new_is_not_open q.0);
              above = λ s c le. elim (Contains-push_cases t.starts n s c) [ inl d ↦ q.1.above s d le | inr f ↦ (let r : p < n = (h.stands a p o).0 in absurd (omega (arith, r, f, le))) ];
            },
          )
        ]
        | inr q ↦ (let z : looked t a ≡ 0 = ap (looked t) q.0 ∙ h.fresh b nb in absurd (omega (arith, lt, z)))
      ];
      closed_edges = λ a c i e lt. elim (open_cases t a b (Closed c) hm e) [
        | inl o ↦ (let r : (d : ℕ) × IsUnder g t.marks a c (get_or (row g a) i 0) d = h.closed_edges a c i o lt in (
          r.0,
          record {
            is_closed = kept (get_or (row g a) i 0) (Closed r.0) r.1.is_closed (new_is_not_closed r.0);
            earlier = r.1.earlier;
            back = r.1.back;
          },
        ))
        | inr q ↦ absurd (open_is_not_closed n c q.1)
      ];
      done = λ p lt nw. elim (place_cases t b p lt) [
        | inl a ↦ subst (λ (m : ℕ). length (row g m) ≤ looked t m) (sym (open_cell_old t b p a)) (h.done p a (λ c. nw (Contains-append_left t.work (n ∷ []) p c)))
        | inr e ↦ absurd (nw (subst (Contains u.work) e (Contains-push t.work n)))
      ];
      at_work = λ s c. elim (Contains-push_cases t.starts n s c) [ inl a ↦ Contains-append_left t.work (n ∷ []) s (h.at_work s a) | inr e ↦ subst (Contains u.work) e (Contains-push t.work n) ];
      starts_up = ascends_push t.starts n h.starts_up start_below;
      work_up = ascends_push t.work n h.work_up h.rows.places;
      first = λ lt. elim (cases_eq n 0) [ inl e ↦ subst (Contains u.starts) e (Contains-push t.starts n) | inr ne ↦ start_old 0 (h.first (omega (arith, ne))) ];
    }

-- ---- a cell is looked at

abbrev pub with_looked : Table → (a n : ℕ) → Table
with_looked t a n = record t { looked = set t.looked a n }

-- one more cell that the present one needs is past
pub looks : (g : List (List ℕ)) (t : Table) (a p : ℕ) → a < length g → mark t a ≡ Open p → Contains t.work p → looked t a < length (row g a) → IsPast t.marks t.starts p (get_or (row g a) (looked t a) 0)
    → Holds g t → Holds g (with_looked t a (looked t a + 1))
looks g t a p ha is at lt past h =
    let n : ℕ = looked t a + 1 in
    let u : Table = with_looked t a n in
    let hl : a < length t.looked = omega (arith, ha, h.rows.looked_length) in
    let same : looked u a ≡ n = get_or-set_same t.looked a n 0 hl in
    let other : (k : ℕ) → k ≢ a → looked u k ≡ looked t k = λ k ne. get_or-set_other t.looked a k n 0 ne in
    record {
      rows = record {
        marks_length = h.rows.marks_length;
        looked_length = length-set t.looked a n ∙ h.rows.looked_length;
        short = λ k. elim (cases_eq k a) [
          | inl e ↦ subst (λ (m : ℕ). looked u m ≤ length (row g m)) (sym e) (omega (arith, same, lt))
          | inr ne ↦ subst (λ (m : ℕ). m ≤ length (row g k)) (sym (other k ne)) (h.rows.short k)
        ];
        places = h.rows.places;
        cells = h.rows.cells;
      };
      opened = h.opened;
      stands = h.stands;
      numbered = h.numbered;
      fresh = λ k e. other k (λ q. new_is_not_open p (sym e ∙ (ap (mark t) q ∙ is))) ∙ h.fresh k e;
      forth = h.forth;
      back = h.back;
      open_edges = λ k q i e l. elim (cases_eq k a) [
        | inl f ↦ (let m : q ≡ p = open_same q p (sym e ∙ (ap (mark t) f ∙ is)) in
            elim (cases_lt i (looked t a)) [
              | inl k_lt ↦ h.open_edges k q i e (subst (λ (j : ℕ). i < looked t j) (sym f) k_lt)
              | inr ge ↦ (let same_k : looked u k ≡ n = ap (looked u) f ∙ same in let j : looked t a ≡ i = omega (arith, ge, l, same_k) in
                  subst (λ (q : ℕ). IsPast t.marks t.starts q (get_or (row g k) i 0)) (sym m) (subst (λ (k : ℕ). IsPast t.marks t.starts p (get_or (row g k) i 0)) (sym f) (subst (λ (i : ℕ). IsPast t.marks t.starts p (get_or (row g a) i 0)) j past)))
            ])
        | inr ne ↦ h.open_edges k q i e (subst (λ (j : ℕ). i < j) (other k ne) l)
      ];
      closed_edges = h.closed_edges;
      done = λ q l nw. elim (cases_eq (cell_at t q) a) [
        | inl e ↦ absurd (nw (subst (Contains t.work) (open_same p q (sym is ∙ (ap (mark t) (sym e) ∙ h.opened q l))) at))
        | inr ne ↦ subst (λ (j : ℕ). length (row g (cell_at t q)) ≤ j) (sym (other (cell_at t q) ne)) (h.done q l nw)
      ];
      at_work = h.at_work;
      starts_up = h.starts_up;
      work_up = h.work_up;
      first = h.first;
    }

-- ---- components are joined

-- each open cell reaches the present one
pub reaches_present : (g : List (List ℕ)) (t : Table) (w : List ℕ) (p : ℕ) → t.work ≡ w ++ p ∷ [] → Holds g t → (i : ℕ) → i < length t.stack → Reaches g (cell_at t i) (cell_at t p)
reaches_present g t w p e h i lt =
    let at : Contains t.work p = subst (λ (xs : List ℕ). Contains xs p) (sym e) (Contains-push w p) in
    let most : (s : ℕ) → Contains t.starts s → s ≤ p = λ s c. ascends_most w p (subst Ascends e h.work_up) s (subst (λ (xs : List ℕ). Contains xs s) e (h.at_work s c)) in
    elim (cases_lt p i) [
      | inl l ↦ h.back p i (omega (arith, l)) lt (λ s c le. most s c)
      | inr ge ↦ h.forth i p ge (h.rows.places p at)
    ]

pub joins : (g : List (List ℕ)) (t : Table) (w : List ℕ) (p q : ℕ) (starts : List ℕ) → t.work ≡ w ++ p ∷ [] → q < length t.stack → Needs g (cell_at t p) (cell_at t q) → AreUpTo t.starts q starts
    → Holds g t → Holds g (record t { starts = starts })
joins g t w p q starts e hq needs upto h =
    let u : Table = record t { starts = starts } in
    let weaker : (i j : ℕ) → NoneBegins t i j → NoneBegins u i j = λ i j f s c le. f s (upto.from s c) le in
    record {
      rows = record { marks_length = h.rows.marks_length; looked_length = h.rows.looked_length; short = h.rows.short; places = h.rows.places; cells = h.rows.cells };
      opened = h.opened;
      stands = h.stands;
      numbered = h.numbered;
      fresh = h.fresh;
      forth = h.forth;
      back = λ i j le lt none.
          let around : Reaches g (cell_at t j) (cell_at t q) = reaches_then g (cell_at t j) (cell_at t p) (cell_at t q) (reaches_present g t w p e h j lt) (reaches_needed g (cell_at t p) (cell_at t q) needs) in
          elim (cases_lt j q) [
            | inl jq ↦ h.back i j le lt (λ s c sj. none s (upto.kept s c (omega (arith, jq, sj))) sj)
            | inr qj ↦ reaches_then g (cell_at t j) (cell_at t q) (cell_at t i) around (elim (cases_lt i q) [
              | inl iq ↦ h.back i q (omega (arith, iq)) hq (λ s c sq. none s (upto.kept s c sq) (omega (arith, sq, qj)))
              | inr qi ↦ h.forth q i qi (omega (arith, le, lt))
            ])
          ];
      open_edges = λ a i k o l. elim (h.open_edges a i k o l) [
        | inl c ↦ inl c
        | inr b ↦ inr (b.0, record { is_open = b.1.is_open; above = weaker b.0 i b.1.above })
      ];
      closed_edges = λ a c i o l. let r : (d : ℕ) × IsUnder g t.marks a c (get_or (row g a) i 0) d = h.closed_edges a c i o l in (r.0, record { is_closed = r.1.is_closed; earlier = r.1.earlier; back = r.1.back });
      done = h.done;
      at_work = λ s c. h.at_work s (upto.from s c);
      starts_up = upto.up;
      work_up = h.work_up;
      first = λ lt. upto.kept 0 (h.first lt) (omega arith);
    }

-- ---- a cell retires

pub retires : (g : List (List ℕ)) (t : Table) (w : List ℕ) (p : ℕ) → t.work ≡ w ++ p ∷ [] → length (row g (cell_at t p)) ≤ looked t (cell_at t p) → (¬ Contains t.starts p)
    → Holds g t → Holds g (record t { work = w })
retires g t w p e all ns h =
    let u : Table = record t { work = w } in
    let was : (q : ℕ) → Contains w q → Contains t.work q = λ q c. subst (λ (xs : List ℕ). Contains xs q) (sym e) (Contains-append_left w (p ∷ []) q c) in
    let cases : (q : ℕ) → Contains t.work q → Contains w q ⊎ (p ≡ q) = λ q c. Contains-push_cases w p q (subst (λ (xs : List ℕ). Contains xs q) e c) in
    record {
      rows = record { marks_length = h.rows.marks_length; looked_length = h.rows.looked_length; short = h.rows.short; places = λ q c. h.rows.places q (was q c); cells = h.rows.cells };
      opened = h.opened;
      stands = h.stands;
      numbered = h.numbered;
      fresh = h.fresh;
      forth = h.forth;
      back = h.back;
      open_edges = λ a i k o l. elim (h.open_edges a i k o l) [
        | inl c ↦ inl c
        | inr b ↦ inr (b.0, record { is_open = b.1.is_open; above = b.1.above })
      ];
      closed_edges = λ a c i o l. let r : (d : ℕ) × IsUnder g t.marks a c (get_or (row g a) i 0) d = h.closed_edges a c i o l in (r.0, record { is_closed = r.1.is_closed; earlier = r.1.earlier; back = r.1.back });
      done = λ q l nw. elim (cases_eq q p) [
        | inl f ↦ subst (λ (m : ℕ). length (row g (cell_at t m)) ≤ looked t (cell_at t m)) (sym f) all
        | inr ne ↦ h.done q l (λ c. elim (cases q c) [ inl a ↦ nw a | inr f ↦ ne (sym f) ])
      ];
      at_work = λ s c. elim (cases s (h.at_work s c)) [ inl a ↦ a | inr f ↦ absurd (ns (subst (Contains t.starts) (sym f) c)) ];
      starts_up = h.starts_up;
      work_up = ascends_pop w p (subst Ascends e h.work_up);
      first = h.first;
    }

-- ---- a component is closed

below_stays : (p c q : ℕ) → q < p → closed_from p c (Open q) ≡ Open q
below_stays p c q lt = ap (λ (b : Bool). cond b (Open q) (Closed c)) (lt-ltb q p lt)

above_closes : (p c q : ℕ) → p ≤ q → closed_from p c (Open q) ≡ Closed c
above_closes p c q le = ap (λ (b : Bool). cond b (Open q) (Closed c)) (le-ltb q p le)

from_new : (p c : ℕ) (m : Mark) → closed_from p c m ≡ New → m ≡ New
from_new p c New e = refl
from_new p c (Open q) e = elim (cases_lt q p) [ inl lt ↦ absurd (new_is_not_open q (sym e ∙ below_stays p c q lt)) | inr ge ↦ absurd (new_is_not_closed c (sym e ∙ above_closes p c q ge)) ]
from_new p c (Closed d) e = e

from_open : (p c q : ℕ) (m : Mark) → closed_from p c m ≡ Open q → (m ≡ Open q) × (q < p)
from_open p c q New e = absurd (new_is_not_open q e)
from_open p c q (Open r) e = elim (cases_lt r p) [
  | inl lt ↦ (let f : r ≡ q = open_same r q (sym (below_stays p c r lt) ∙ e) in (ap Open f, omega (arith, f, lt)))
  | inr ge ↦ absurd (open_is_not_closed q c (sym e ∙ above_closes p c r ge))
]
from_open p c q (Closed d) e = absurd (open_is_not_closed q d (sym e))

-- closed before, or closed now
from_closed : (p c d : ℕ) (m : Mark) → closed_from p c m ≡ Closed d → (m ≡ Closed d) ⊎ ((q : ℕ) × (m ≡ Open q) × (p ≤ q) × (c ≡ d))
from_closed p c d New e = absurd (new_is_not_closed d e)
from_closed p c d (Open q) e = elim (cases_lt q p) [
  | inl lt ↦ absurd (open_is_not_closed q d (sym (below_stays p c q lt) ∙ e))
  | inr ge ↦ inr (q, refl, ge, closed_same c d (sym (above_closes p c q ge) ∙ e))
]
from_closed p c d (Closed f) e = inl e

abbrev pub with_closed : Table → List Mark → (p : ℕ) → (starts work : List ℕ) → ℕ → Table
with_closed t ms p starts work r = record { marks = ms; looked = t.looked; stack = take p t.stack; starts = starts; work = work; roots = t.roots ++ r ∷ [] }

pub closes : (g : List (List ℕ)) (t : Table) (ms : List Mark) (p r : ℕ) (starts work : List ℕ) → t.work ≡ work ++ p ∷ [] → t.starts ≡ starts ++ p ∷ []
    → length (row g (cell_at t p)) ≤ looked t (cell_at t p) → length ms ≡ length t.marks → ((a : ℕ) → mark_in ms a ≡ closed_from p (length t.roots) (mark t a))
    → Holds g t → Holds g (with_closed t ms p starts work r)
closes g t ms p r starts work ew es all len marks h =
    let c : ℕ = length t.roots in
    let u : Table = with_closed t ms p starts work r in
    let hp : p < length t.stack = h.rows.places p (subst (λ (xs : List ℕ). Contains xs p) (sym ew) (Contains-push work p)) in
    let l : length u.stack ≡ p = length-take-le p t.stack (omega (arith, hp)) in
    let old : (q : ℕ) → q < p → cell_at u q ≡ cell_at t q = λ q lt. get_or-take p t.stack q 0 lt in
    let was_work : (q : ℕ) → Contains work q → Contains t.work q = λ q k. subst (λ (xs : List ℕ). Contains xs q) (sym ew) (Contains-append_left work (p ∷ []) q k) in
    let work_cases : (q : ℕ) → Contains t.work q → Contains work q ⊎ (p ≡ q) = λ q k. Contains-push_cases work p q (subst (λ (xs : List ℕ). Contains xs q) ew k) in
    let was_start : (q : ℕ) → Contains starts q → Contains t.starts q = λ q k. subst (λ (xs : List ℕ). Contains xs q) (sym es) (Contains-append_left starts (p ∷ []) q k) in
    let start_cases : (q : ℕ) → Contains t.starts q → Contains starts q ⊎ (p ≡ q) = λ q k. Contains-push_cases starts p q (subst (λ (xs : List ℕ). Contains xs q) es k) in
    let work_most : (q : ℕ) → Contains t.work q → q ≤ p = λ q k. ascends_most work p (subst Ascends ew h.work_up) q (subst (λ (xs : List ℕ). Contains xs q) ew k) in
    let start_most : (q : ℕ) → Contains t.starts q → q ≤ p = λ q k. work_most q (h.at_work q k) in
    let p_starts : Contains t.starts p = subst (λ (xs : List ℕ). Contains xs p) (sym es) (Contains-push starts p) in
    let exhausted : (q : ℕ) → p ≤ q → q < length t.stack → length (row g (cell_at t q)) ≤ looked t (cell_at t q) = λ q le lt. elim (cases_eq q p) [
      | inl e ↦ subst (λ (m : ℕ). length (row g (cell_at t m)) ≤ looked t (cell_at t m)) (sym e) all
      | inr ne ↦ h.done q lt (λ k. let m : q ≤ p = work_most q k in ne (omega (arith, m, le)))
    ] in
    let is_closed : (b d : ℕ) → mark t b ≡ Closed d → mark u b ≡ Closed d = λ b d e. marks b ∙ ap (closed_from p c) e in
    let is_kept : (b q : ℕ) → mark t b ≡ Open q → q < p → mark u b ≡ Open q = λ b q e lt. marks b ∙ (ap (closed_from p c) e ∙ below_stays p c q lt) in
    let is_now : (b q : ℕ) → mark t b ≡ Open q → p ≤ q → mark u b ≡ Closed c = λ b q e le. marks b ∙ (ap (closed_from p c) e ∙ above_closes p c q le) in
    record {
      rows = record {
        marks_length = len ∙ h.rows.marks_length;
        looked_length = h.rows.looked_length;
        short = h.rows.short;
        places = λ q k. let lt : q < p = ascends_last work p (subst Ascends ew h.work_up) q k in omega (arith, lt, l);
        cells = λ q lt. subst (λ (m : ℕ). m < length g) (sym (old q (omega (arith, lt, l)))) (h.rows.cells q (omega (arith, lt, l, hp)));
      };
      opened = λ q lt. ap (mark u) (old q (omega (arith, lt, l))) ∙ is_kept (cell_at t q) q (h.opened q (omega (arith, lt, l, hp))) (omega (arith, lt, l));
      stands = λ a q e.
          let f : (mark t a ≡ Open q) × (q < p) = from_open p c q (mark t a) (sym (marks a) ∙ e) in
          (omega (arith, f.1, l), old q f.1 ∙ (h.stands a q f.0).1);
      numbered = λ a d e. let m : length u.roots ≡ c + 1 = length_push t.roots r in elim (from_closed p c d (mark t a) (sym (marks a) ∙ e)) [
        | inl f ↦ (let n : d < c = h.numbered a d f in omega (arith, n, m))
        | inr f ↦ omega (arith, f.3, m)
      ];
      fresh = λ a e. h.fresh a (from_new p c (mark t a) (sym (marks a) ∙ e));
      forth = λ i j le lt. let hj : j < p = omega (arith, lt, l) in let hi : i < p = omega (arith, le, hj) in
          subst (λ (m : ℕ). Reaches g m (cell_at u j)) (sym (old i hi)) (subst (Reaches g (cell_at t i)) (sym (old j hj)) (h.forth i j le (omega (arith, hj, hp))));
      back = λ i j le lt none. let hj : j < p = omega (arith, lt, l) in let hi : i < p = omega (arith, le, hj) in
          subst (λ (m : ℕ). Reaches g m (cell_at u i)) (sym (old j hj)) (subst (Reaches g (cell_at t j)) (sym (old i hi)) (h.back i j le (omega (arith, hj, hp))
          (λ s k sj. elim (start_cases s k) [ inl a ↦ none s a sj | inr e ↦ absurd (omega (arith, e, sj, hj)) ])));
      open_edges = λ a q i e lt.
          let f : (mark t a ≡ Open q) × (q < p) = from_open p c q (mark t a) (sym (marks a) ∙ e) in
          elim (h.open_edges a q i f.0 lt) [
            | inl d ↦ inl (d.0, is_closed (get_or (row g a) i 0) d.0 d.1)
            | inr b ↦ elim (cases_lt b.0 p) [
              | inl k ↦ inr (b.0, record { is_open = is_kept (get_or (row g a) i 0) b.0 b.1.is_open k; above = λ s n le. b.1.above s (was_start s n) le })
              | inr k ↦ inl (c, is_now (get_or (row g a) i 0) b.0 b.1.is_open k)
            ]
          ];
      closed_edges = λ a d i e lt. elim (from_closed p c d (mark t a) (sym (marks a) ∙ e)) [
        | inl f ↦ (let k : (n : ℕ) × IsUnder g t.marks a d (get_or (row g a) i 0) n = h.closed_edges a d i f lt in
            (k.0, record { is_closed = is_closed (get_or (row g a) i 0) k.0 k.1.is_closed; earlier = k.1.earlier; back = k.1.back }))
        | inr f ↦ (let q : ℕ = f.0 in
            let st : (q < length t.stack) × (cell_at t q ≡ a) = h.stands a q f.1 in
            let seen : i < looked t a = (let x : length (row g a) ≤ looked t a = subst (λ (m : ℕ). length (row g m) ≤ looked t m) st.1 (exhausted q f.2 st.0) in omega (arith, x, lt)) in
            elim (h.open_edges a q i f.1 seen) [
              | inl n ↦ (let below : n.0 < c = h.numbered (get_or (row g a) i 0) n.0 n.1 in
                  (n.0, record { is_closed = is_closed (get_or (row g a) i 0) n.0 n.1; earlier = omega (arith, below, f.3); back = λ k. absurd (omega (arith, below, f.3, k)) }))
              | inr b ↦ (let le : p ≤ b.0 = b.1.above p p_starts f.2 in
                  let sb : (b.0 < length t.stack) × (cell_at t b.0 ≡ get_or (row g a) i 0) = h.stands (get_or (row g a) i 0) b.0 b.1.is_open in (
                    c,
                    record {
                      is_closed = is_now (get_or (row g a) i 0) b.0 b.1.is_open le;
                      earlier = omega (arith, f.3);
                      back = λ k. subst (λ (m : ℕ). Reaches g m a) sb.1 (subst (Reaches g (cell_at t b.0)) st.1 (elim (cases_lt q b.0) [
                        | inl lo ↦ h.back q b.0 (omega (arith, lo)) sb.0 (λ s n sl. let m : s ≤ p = start_most s n in omega (arith, m, f.2))
                        | inr hi ↦ h.forth b.0 q hi st.0
                      ]));
                    },
                  ))
            ])
      ];
      done = λ q lt nw. let hq : q < p = omega (arith, lt, l) in
          subst (λ (m : ℕ). length (row g m) ≤ looked t m) (sym (old q hq)) (h.done q (omega (arith, hq, hp)) (λ k. elim (work_cases q k) [ inl a ↦ nw a | inr e ↦ omega (arith, e, hq) ]));
      at_work = λ s k. let lt : s < p = ascends_last starts p (subst Ascends es h.starts_up) s k in elim (work_cases s (h.at_work s (was_start s k))) [ inl a ↦ a | inr e ↦ absurd (omega (arith, e, lt)) ];
      starts_up = ascends_pop starts p (subst Ascends es h.starts_up);
      work_up = ascends_pop work p (subst Ascends ew h.work_up);
      first = λ lt. elim (start_cases 0 (h.first (omega (arith, hp)))) [ inl a ↦ a | inr e ↦ absurd (omega (arith, e, lt, l)) ];
    }

-- ---- cells are marked as closed

pub closed_more : (ms : List Mark) (cells : List ℕ) (i c : ℕ) → i < length cells → get_or cells i 0 < length ms
    → ((a : ℕ) → Contains (take i cells) a → mark_in ms a ≡ Closed c)
    → (a : ℕ) → Contains (take (i + 1) cells) a → mark_in (set ms (get_or cells i 0) (Closed c)) a ≡ Closed c
closed_more ms cells i c lt h f a k =
    let x : ℕ = get_or cells i 0 in
    elim (cases_eq a x) [
      | inl e ↦ ap (mark_in (set ms x (Closed c))) e ∙ get_or-set_same ms x (Closed c) New h
      | inr ne ↦ get_or-set_other ms x a (Closed c) New ne ∙ f a (elim (Contains-push_cases (take i cells) x a (subst (λ (xs : List ℕ). Contains xs a) (take_more cells i 0 lt) k)) [ inl o ↦ o | inr e ↦ absurd (ne (sym e)) ])
    ]

pub kept_more : (ms old : List Mark) (cells : List ℕ) (i c : ℕ) → i < length cells
    → ((a : ℕ) → (¬ Contains (take i cells) a) → mark_in ms a ≡ mark_in old a)
    → (a : ℕ) → (¬ Contains (take (i + 1) cells) a) → mark_in (set ms (get_or cells i 0) (Closed c)) a ≡ mark_in old a
kept_more ms old cells i c lt f a k =
    let x : ℕ = get_or cells i 0 in
    let ne : a ≢ x = λ e. k (subst (λ (xs : List ℕ). Contains xs a) (sym (take_more cells i 0 lt)) (subst (Contains (take i cells ++ x ∷ [])) (sym e) (Contains-push (take i cells) x))) in
    get_or-set_other ms x a (Closed c) New ne ∙ f a (λ o. k (subst (λ (xs : List ℕ). Contains xs a) (sym (take_more cells i 0 lt)) (Contains-append_left (take i cells) (x ∷ []) a o)))

-- ---- numbers above a bound are left out

pub last_is_last : (xs ys : List ℕ) (x y : ℕ) → EndsIn xs x → xs ≡ ys ++ y ∷ [] → x ≡ y
last_is_last xs ys x y e f = (same_from_push e.0 ys x y (sym e.1 ∙ f)).1

pub dropped_up : (xs ys : List ℕ) (y : ℕ) → xs ≡ ys ++ y ∷ [] → Ascends xs → Ascends ys
dropped_up xs ys y e up = ascends_pop ys y (subst Ascends e up)

pub kept_below : (old xs ys : List ℕ) (x y q : ℕ) → EndsIn xs x → xs ≡ ys ++ y ∷ [] → q < x → ((s : ℕ) → Contains old s → s ≤ q → Contains xs s) → (s : ℕ) → Contains old s → s ≤ q → Contains ys s
kept_below old xs ys x y q e f lt k s c le =
    let m : x ≡ y = last_is_last xs ys x y e f in
    elim (Contains-push_cases ys y s (subst (λ (zs : List ℕ). Contains zs s) f (k s c le))) [ inl a ↦ a | inr n ↦ absurd (omega (arith, m, n, lt, le)) ]

pub all_upto : (xs : List ℕ) (x q : ℕ) → Ascends xs → EndsIn xs x → x ≤ q → (s : ℕ) → Contains xs s → s ≤ q
all_upto xs x q up e le s c = let m : s ≤ x = ascends_most e.0 x (subst Ascends e.1 up) s (subst (λ (ys : List ℕ). Contains ys s) e.1 c) in omega (arith, m, le)

-- what is left when the last number is taken away
pub popped : (xs ys : List ℕ) (x n : ℕ) → EndsIn xs x → n ≡ length xs → ys ≡ take (n - 1) xs → xs ≡ ys ++ x ∷ []
popped xs ys x n e len f =
    let l : length (e.0 ++ x ∷ []) ≡ length e.0 + 1 = length_push e.0 x in
    let m : length xs ≡ length (e.0 ++ x ∷ []) = ap length e.1 in
    let k : length e.0 ≡ n - 1 = omega (arith, l, m, len) in
    let front : ys ≡ e.0 = f ∙ (ap (take (n - 1)) e.1 ∙ take_at e.0 (x ∷ []) (n - 1) k) in
    e.1 ∙ ap (λ (zs : List ℕ). zs ++ x ∷ []) (sym front)

pub begins_with : (xs ys : List ℕ) (x s : ℕ) → xs ≡ ys ++ x ∷ [] → Contains ys s → Contains xs s
begins_with xs ys x s e c = subst (λ (zs : List ℕ). Contains zs s) (sym e) (Contains-append_left ys (x ∷ []) s c)

-- ---- a look at a cell

pub look_new : (g : List (List ℕ)) (t u : Table) (p b : ℕ) → u ≡ with_open t b → b < length g → mark t b ≡ New → EndsIn t.work p → Needs g (cell_at t p) b → Holds g t → IsLookedAt g t u p b
look_new g t u p b same hb nb e needs h =
    let w : Table = with_open t b in
    let at : Contains t.work p = subst (λ (xs : List ℕ). Contains xs p) (sym e.1) (Contains-push e.0 p) in
    let hp : p < length t.stack = h.rows.places p at in
    let hm : b < length t.marks = omega (arith, hb, h.rows.marks_length) in
    let from : (q : ℕ) → q < length t.stack → Reaches g (cell_at t q) b = λ q lt. reaches_then g (cell_at t q) (cell_at t p) b (reaches_present g t e.0 p e.1 h q lt) (reaches_needed g (cell_at t p) b needs) in
    subst (λ (v : Table). IsLookedAt g t v p b) (sym same) (record {
      holds = opens g t b hb nb from h;
      past = inr (length t.stack, record { is_open = open_mark_same t b hm; above = λ s c le. omega (arith, le, hp) });
      looked_same = refl;
      place_same = open_cell_old t b p hp;
      at_work = Contains-append_left t.work (length t.stack ∷ []) p at;
      reached = λ a r n. elim (open_cases t a b New hm n) [ inl o ↦ r o | inr q ↦ new_is_not_open (length t.stack) (sym q.1) ];
      one_more = (let l : length w.work ≡ length t.work + 1 = length_push t.work (length t.stack) in omega (arith, l));
    })

pub look_open : (g : List (List ℕ)) (t : Table) (p b q : ℕ) (starts : List ℕ) → mark t b ≡ Open q → EndsIn t.work p → Needs g (cell_at t p) b → AreUpTo t.starts q starts → Holds g t → IsLookedAt g t (record t { starts = starts }) p b
look_open g t p b q starts is e needs upto h =
    let st : (q < length t.stack) × (cell_at t q ≡ b) = h.stands b q is in
    record {
      holds = joins g t e.0 p q starts e.1 st.0 (subst (Needs g (cell_at t p)) (sym st.1) needs) upto h;
      past = inr (q, record { is_open = is; above = λ s c le. upto.upto s c });
      looked_same = refl;
      place_same = refl;
      at_work = subst (λ (xs : List ℕ). Contains xs p) (sym e.1) (Contains-push e.0 p);
      reached = λ a r. r;
      one_more = omega arith;
    }

pub look_closed : (g : List (List ℕ)) (t : Table) (p b c : ℕ) → mark t b ≡ Closed c → EndsIn t.work p → Holds g t → IsLookedAt g t t p b
look_closed g t p b c is e h = record {
  holds = h;
  past = inl (c, is);
  looked_same = refl;
  place_same = refl;
  at_work = subst (λ (xs : List ℕ). Contains xs p) (sym e.1) (Contains-push e.0 p);
  reached = λ a r. r;
  one_more = omega arith;
}

-- the next cell that is looked at, and what is left to do then
unlooked_set : (g : List (List ℕ)) (is : List ℕ) (k : ℕ) → k < length is → length is ≡ length g → get_or is k 0 < length (row g k) → unlooked g (set is k (get_or is k 0 + 1)) + 1 ≡ unlooked g is
unlooked_set [] [] k h len lt = absurd (omega (arith, h))
unlooked_set [] (i ∷ is) k h len lt = absurd (omega (arith, len))
unlooked_set (r ∷ g) [] k h len lt = absurd (omega (arith, h))
unlooked_set (r ∷ g) (i ∷ is) zero h len lt = omega (arith, lt)
unlooked_set (r ∷ g) (i ∷ is) (suc k) h len lt = let q : unlooked g (set is k (get_or is k 0 + 1)) + 1 ≡ unlooked g is = unlooked_set g is k (omega (arith, h)) (omega (arith, len)) lt in omega (arith, q)

pub looks_on : (g : List (List ℕ)) (t u : Table) (a p b : ℕ) → a ≡ cell_at t p → Contains t.work p → looked t a < length (row g a) → b ≡ get_or (row g a) (looked t a) 0 → Holds g t → IsLookedAt g t u p b → Holds g (with_looked u a (looked t a + 1))
looks_on g t u a p b ea at lt eb h k =
    let hp : p < length t.stack = h.rows.places p at in
    let hu : p < length u.stack = k.holds.rows.places p k.at_work in
    let ha : a < length g = subst (λ (m : ℕ). m < length g) (sym ea) (h.rows.cells p hp) in
    let is : mark u a ≡ Open p = ap (mark u) (ea ∙ sym k.place_same) ∙ k.holds.opened p hu in
    let same : looked u a ≡ looked t a = ap (λ (xs : List ℕ). get_or xs a 0) k.looked_same in
    subst (λ (n : ℕ). Holds g (with_looked u a (n + 1))) same
    (looks g u a p ha is k.at_work (omega (arith, same, lt)) (subst (λ (n : ℕ). IsPast u.marks u.starts p (get_or (row g a) n 0)) (sym same) (subst (IsPast u.marks u.starts p) eb k.past)) k.holds)

pub less_to_do : (g : List (List ℕ)) (t u : Table) (a p b : ℕ) → a < length g → looked t a < length (row g a) → Holds g t → IsLookedAt g t u p b → effort g (with_looked u a (looked t a + 1)) < effort g t
less_to_do g t u a p b ha lt h k =
    let q : unlooked g (set t.looked a (looked t a + 1)) + 1 ≡ unlooked g t.looked = unlooked_set g t.looked a (omega (arith, ha, h.rows.looked_length)) h.rows.looked_length lt in
    let e : unlooked g (set u.looked a (looked t a + 1)) ≡ unlooked g (set t.looked a (looked t a + 1)) = ap (λ (xs : List ℕ). unlooked g (set xs a (looked t a + 1))) k.looked_same in
    omega (arith, q, e, k.one_more)

-- ---- a cell retires, with its component where that begins there

in_above : (g : List (List ℕ)) (t : Table) (p q a : ℕ) → Holds g t → mark t a ≡ Open q → p ≤ q → Contains (drop p t.stack) a
in_above g t p q a h is le =
    let st : (q < length t.stack) × (cell_at t q ≡ a) = h.stands a q is in
    let l : length (drop p t.stack) ≡ length t.stack - p = length-drop p t.stack in
    let e : p + (q - p) ≡ q = omega (arith, le) in
    (q - p, omega (arith, l, st.0, le), get_or-drop p t.stack (q - p) a ∙ (ap (λ (i : ℕ). get_or t.stack i a) e ∙ (get_or_default t.stack q a 0 st.0 ∙ st.1)))

above_is_open : (g : List (List ℕ)) (t : Table) (p a : ℕ) → p ≤ length t.stack → Holds g t → Contains (drop p t.stack) a → (q : ℕ) × (p ≤ q) × (mark t a ≡ Open q)
above_is_open g t p a hp h c =
    let l : length (drop p t.stack) ≡ length t.stack - p = length-drop p t.stack in
    let lt : p + c.0 < length t.stack = omega (arith, l, c.1, hp) in
    let e : cell_at t (p + c.0) ≡ a = get_or_default t.stack (p + c.0) 0 a lt ∙ (sym (get_or-drop p t.stack c.0 a) ∙ c.2) in
    (p + c.0, omega arith, ap (mark t) (sym e) ∙ h.opened (p + c.0) lt)

pub closed_marks : (g : List (List ℕ)) (t : Table) (ms : List Mark) (p c : ℕ) → p ≤ length t.stack → Holds g t
    → ((a : ℕ) → Contains (drop p t.stack) a → mark_in ms a ≡ Closed c)
    → ((a : ℕ) → (¬ Contains (drop p t.stack) a) → mark_in ms a ≡ mark t a)
    → (a : ℕ) → mark_in ms a ≡ closed_from p c (mark t a)
closed_marks g t ms p c hp h closed kept a = go (mark t a) refl
  where
    not_above : ((q : ℕ) → p ≤ q → mark t a ≡ Open q → ⊥) → mark_in ms a ≡ mark t a
    not_above f = kept a (λ k. let r : (q : ℕ) × (p ≤ q) × (mark t a ≡ Open q) = above_is_open g t p a hp h k in f r.0 r.1 r.2)

    go : (m : Mark) → mark t a ≡ m → mark_in ms a ≡ closed_from p c (mark t a)
    go New e = not_above (λ q le f. new_is_not_open q (sym e ∙ f)) ∙ (e ∙ sym (ap (closed_from p c) e))
    go (Closed d) e = not_above (λ q le f. open_is_not_closed q d (sym f ∙ e)) ∙ (e ∙ sym (ap (closed_from p c) e))
    go (Open q) e = elim (cases_lt q p) [
      | inl lt ↦ not_above (λ r le f. (let m : q ≡ r = open_same q r (sym e ∙ f) in omega (arith, m, lt, le))) ∙ (e ∙ sym (ap (closed_from p c) e ∙ below_stays p c q lt))
      | inr le ↦ closed a (in_above g t p q a h e le) ∙ sym (ap (closed_from p c) e ∙ above_closes p c q le)
    ]

-- the last start isn't this place
abbrev pub BeginsElsewhere : List ℕ → ℕ → Type 0
BeginsElsewhere starts p = (starts ≡ []) ⊎ ((s : ℕ) × EndsIn starts s × (s ≢ p))

pub retired_alone : (g : List (List ℕ)) (t : Table) (w : List ℕ) (p : ℕ) → t.work ≡ w ++ p ∷ [] → length (row g (cell_at t p)) ≤ looked t (cell_at t p) → BeginsElsewhere t.starts p → Holds g t → IsRetired g t (record t { work = w })
retired_alone g t w p e all other h =
    let most : (s : ℕ) → Contains t.starts s → s ≤ p = λ s c. ascends_most w p (subst Ascends e h.work_up) s (subst (λ (xs : List ℕ). Contains xs s) e (h.at_work s c)) in
    let nowhere : ¬ Contains t.starts p = λ c. elim other [
      | inl n ↦ not_in_none p (subst (λ (xs : List ℕ). Contains xs p) n c)
      | inr s ↦ (let a : p ≤ s.0 = ascends_most s.1.0 s.0 (subst Ascends s.1.1 h.starts_up) p (subst (λ (xs : List ℕ). Contains xs p) s.1.1 c) in
          let b : s.0 ≤ p = most s.0 (subst (λ (xs : List ℕ). Contains xs s.0) (sym s.1.1) (Contains-push s.1.0 s.0)) in
          s.2 (omega (arith, a, b)))
    ] in
    record {
      holds = retires g t w p e all nowhere h;
      looked_same = refl;
      reached = λ a r. r;
      one_less = (let l : length (w ++ p ∷ []) ≡ length w + 1 = length_push w p in let m : length t.work ≡ length (w ++ p ∷ []) = ap length e in omega (arith, l, m));
    }

pub retired_closing : (g : List (List ℕ)) (t : Table) (ms : List Mark) (p r : ℕ) (starts work : List ℕ) → t.work ≡ work ++ p ∷ [] → t.starts ≡ starts ++ p ∷ []
    → length (row g (cell_at t p)) ≤ looked t (cell_at t p) → length ms ≡ length t.marks
    → ((a : ℕ) → Contains (drop p t.stack) a → mark_in ms a ≡ Closed (length t.roots))
    → ((a : ℕ) → (¬ Contains (drop p t.stack) a) → mark_in ms a ≡ mark t a)
    → Holds g t → IsRetired g t (with_closed t ms p starts work r)
retired_closing g t ms p r starts work ew es all len closed kept h =
    let hp : p < length t.stack = h.rows.places p (subst (λ (xs : List ℕ). Contains xs p) (sym ew) (Contains-push work p)) in
    let marks : (a : ℕ) → mark_in ms a ≡ closed_from p (length t.roots) (mark t a) = closed_marks g t ms p (length t.roots) (omega (arith, hp)) h closed kept in
    record {
      holds = closes g t ms p r starts work ew es all len marks h;
      looked_same = refl;
      reached = λ a r n. r (from_new p (length t.roots) (mark t a) (sym (marks a) ∙ n));
      one_less = (let l : length (work ++ p ∷ []) ≡ length work + 1 = length_push work p in let m : length t.work ≡ length (work ++ p ∷ []) = ap length ew in omega (arith, l, m));
    }

pub less_left : (g : List (List ℕ)) (t u : Table) → IsRetired g t u → effort g u < effort g t
less_left g t u r = let e : unlooked g u.looked ≡ unlooked g t.looked = ap (unlooked g) r.looked_same in omega (arith, e, r.one_less)

-- ---- the beginning and the end

-- where no cell is at work, none is open
pub none_is_open : (g : List (List ℕ)) (t : Table) → Holds g t → t.work ≡ [] → t.stack ≡ []
none_is_open g t h e = elim (cases_lt 0 (length t.stack)) [
  | inl lt ↦ absurd (not_in_none 0 (subst (λ (xs : List ℕ). Contains xs 0) e (h.at_work 0 (h.first lt))))
  | inr z ↦ nil_from_length t.stack (omega (arith, z))
]

-- a cell is opened on an empty stack
pub opened_alone : (g : List (List ℕ)) (t u : Table) (b : ℕ) → u ≡ with_open t b → b < length g → mark t b ≡ New → t.stack ≡ [] → Holds g t → IsStepped g t u × (mark u b ≡ New → ⊥)
opened_alone g t u b same hb nb e h =
    let hm : b < length t.marks = omega (arith, hb, h.rows.marks_length) in
    let none : length t.stack ≡ 0 = ap length e in
    subst (λ (v : Table). IsStepped g t v × (mark v b ≡ New → ⊥)) (sym same) (
      record {
        holds = opens g t b hb nb (λ p lt. absurd (omega (arith, lt, none))) h;
        reached = λ a r n. elim (open_cases t a b New hm n) [ inl o ↦ r o | inr q ↦ new_is_not_open (length t.stack) (sym q.1) ];
      },
      λ n. new_is_not_open (length t.stack) (sym n ∙ open_mark_same t b hm),
    )

pub stepped_then : (g : List (List ℕ)) (t u v : Table) → IsStepped g t u → IsStepped g u v → IsStepped g t v
stepped_then g t u v a b = record { holds = b.holds; reached = λ k r. b.reached k (a.reached k r) }

all_new : (n k : ℕ) → mark_in (replicate n New) k ≡ New
all_new zero k = refl
all_new (suc n) zero = refl
all_new (suc n) (suc k) = all_new n k

no_looks : (n k : ℕ) → get_or (replicate n 0) k 0 ≤ 0
no_looks zero k = omega arith
no_looks (suc n) zero = omega arith
no_looks (suc n) (suc k) = no_looks n k

abbrev pub blank : ℕ → Table
blank n = record { marks = replicate n New; looked = replicate n 0; stack = []; starts = []; work = []; roots = [] }

blank_holds : (g : List (List ℕ)) → Holds g (blank (length g))
blank_holds g = let n : ℕ = length g in record {
  rows = record { marks_length = length-replicate n New; looked_length = length-replicate n 0; short = λ k. omega (arith, no_looks n k); places = λ p c. absurd (not_in_none p c); cells = λ p lt. absurd (omega (arith, lt)) };
  opened = λ p lt. absurd (omega (arith, lt));
  stands = λ a p e. absurd (new_is_not_open p (sym (all_new n a) ∙ e));
  numbered = λ a c e. absurd (new_is_not_closed c (sym (all_new n a) ∙ e));
  fresh = λ a e. omega (arith, no_looks n a);
  forth = λ p q le lt. absurd (omega (arith, lt));
  back = λ p q le lt. absurd (omega (arith, lt));
  open_edges = λ a p i e lt. absurd (new_is_not_open p (sym (all_new n a) ∙ e));
  closed_edges = λ a c i e lt. absurd (new_is_not_closed c (sym (all_new n a) ∙ e));
  done = λ p lt. absurd (omega (arith, lt));
  at_work = λ s c. absurd (not_in_none s c);
  starts_up = λ i j a b. absurd (omega (arith, b));
  work_up = λ i j a b. absurd (omega (arith, b));
  first = λ lt. absurd (omega (arith, lt));
}

pub blank_is : (g : List (List ℕ)) (t : Table) → t ≡ blank (length g) → Holds g t
blank_is g t e = subst (Holds g) (sym e) (blank_holds g)

-- where each cell is reached and none is open, each is closed
all_closed : (g : List (List ℕ)) (t : Table) (a : ℕ) → Holds g t → t.stack ≡ [] → (mark t a ≡ New → ⊥) → (c : ℕ) × (mark t a ≡ Closed c)
all_closed g t a h e r = go (mark t a) refl
  where
    go : (m : Mark) → mark t a ≡ m → (c : ℕ) × (mark t a ≡ Closed c)
    go New f = absurd (r f)
    go (Open p) f = let l : length t.stack ≡ 0 = ap length e in absurd (omega (arith, (h.stands a p f).0, l))
    go (Closed c) f = (c, f)

rank_at : (g : List (List ℕ)) (t : Table) (a c : ℕ) → a < length g → Holds g t → mark t a ≡ Closed c → get_or (map rank_of t.marks) a 0 ≡ c
rank_at g t a c ha h e = get_or-map rank_of t.marks a New 0 (omega (arith, ha, h.rows.marks_length)) ∙ ap rank_of e

-- the components of a cell and of one that it needs
record AreRanked (g : List (List ℕ)) (t : Table) (a b : ℕ) : Type 0 where
  c : ℕ
  d : ℕ
  under : IsUnder g t.marks a c b d
  ra : get_or (map rank_of t.marks) a 0 ≡ c
  rb : get_or (map rank_of t.marks) b 0 ≡ d

ranked : (g : List (List ℕ)) (t : Table) (a b : ℕ) → IsClosed g → Holds g t → t.stack ≡ [] → ((a : ℕ) → a < length g → mark t a ≡ New → ⊥) → Needs g a b → AreRanked g t a b
ranked g t a b closed h e reached n =
    let ha : a < length g = row_within g a b n in
    let ca : (c : ℕ) × (mark t a ≡ Closed c) = all_closed g t a h e (reached a ha) in
    let f : get_or (row g a) n.0 0 ≡ b = get_or_default (row g a) n.0 0 b n.1 ∙ n.2 in
    let k : (d : ℕ) × IsUnder g t.marks a ca.0 b d = subst (λ (m : ℕ). (d : ℕ) × IsUnder g t.marks a ca.0 m d) f (h.closed_edges a ca.0 n.0 ca.1 n.1) in
    record { c = ca.0; d = k.0; under = k.1; ra = rank_at g t a ca.0 ha h ca.1; rb = rank_at g t b k.0 (closed a b n) h k.1.is_closed }

pub are_components : (g : List (List ℕ)) (t : Table) (ranks : List ℕ) → IsClosed g → Holds g t → t.stack ≡ [] → ((a : ℕ) → a < length g → mark t a ≡ New → ⊥) → ranks ≡ map rank_of t.marks → AreComponents g ranks
are_components g t ranks closed h e reached same = subst (AreComponents g) (sym same) (record {
  count = length-map t.marks rank_of ∙ h.rows.marks_length;
  falls = λ a b n. let k : AreRanked g t a b = ranked g t a b closed h e reached n in omega (arith, k.ra, k.rb, k.under.earlier);
  leads_back = λ a b n q. let k : AreRanked g t a b = ranked g t a b closed h e reached n in k.under.back (sym k.rb ∙ (q ∙ k.ra));
})
