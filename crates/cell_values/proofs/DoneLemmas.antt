-- Cells that are computed one after another meet their equations.
use Rattle.std.proofs.Common.{◌≡◌, ◌∙◌, ◌⊎◌, Bool, ℕ, zero, suc, ◌<◌, ◌≤◌, ◌+◌, ℤ, pos, true, false, inl, inr, List, [], ◌∷◌, ◌++◌, length, take, Contains, get_or, refl, sym, ap, subst, arith}
use Rattle.std.specs.Prelude.{Some, slice_get, slice_set}
use Rattle.std.specs.List.{IsDistinct, list_any}
use Rattle.std.proofs.Math.Dec.{eqb}
use Rattle.std.proofs.Math.Seq.{take-suc, take-length}
use Rattle.std.proofs.lemmas.Cmp.{nat_eq_equiv}
use Rattle.std.proofs.lemmas.List.{get_or-set_same, get_or-set_other, get_or_default, length_push, length-map}
use Rattle.std.proofs.lemmas.List.Elements.{Contains-append_left, Contains-append_right, Contains-append_cases}
use Rattle.std.proofs.lemmas.Map.Keys.{IsDistinct-push}
use Rattle.std.proofs.lemmas.Map.Steps.{length-le_from_distinct_below}
use Rattle.std.proofs.lemmas.Map.Views.{Contains-from_any}
use Rattle.std.proofs.lemmas.Bool.Decides.{eqb_tells}
use Rattle.std.proofs.lemmas.Option.{unwrap_or-slice_get, slice_get_within}
use Rattle.aif_cells.specs.declared.reference.Ref.{Ref}
use Rattle.aif_cells.specs.declared.reference.Ref.TheVariants as ref
use Rattle.aif_cells.specs.declared.cells.Cell.{Cell}
use Rattle.aif_cells.specs.Tree.{tree, Tree, value, one, two, ite, sel, fit, bnot, cat, bits, Trees, none, item}
use Rattle.aif_cells.specs.Worth.{listed, number_at, read, worth, worths}
use Rattle.aif_cells.specs.Built.{Defined, all_defined, defined}
use Rattle.aif_cells.specs.Dependences.{DependsOn, cells_in, cells_in_all, cells_named}
use Rattle.aif_cells.specs.Order.{IsOrder, IsReady, TakesInTurn}
use Rattle.aif_cells.specs.Solution.{IsSolution}
use Rattle.cell_values.specs.Evaluated.{AreDone}
use Rattle.aif_cells.proofs.ItemLemmas.{at_place}

-- ---- the value of a tree depends on the cells in it alone

abbrev Agree : (zs ws : List ℤ) → List ℕ → Type 0
Agree zs ws ds = (d : ℕ) → Contains ds d → number_at zs d ≡ number_at ws d

module _ (is rs zs ws : List ℤ) where
  left : (ds es : List ℕ) → Agree zs ws (ds ++ es) → Agree zs ws ds
  left ds es h d p = h d (Contains-append_left ds es d p)

  right : (ds es : List ℕ) → Agree zs ws (ds ++ es) → Agree zs ws es
  right ds es h d p = h d (Contains-append_right ds es d p)

  read_same : (r : Ref) → Agree zs ws (cells_named r) → read (listed is rs zs) r ≡ read (listed is rs ws) r
  read_same (ref.Lit z) h = refl
  read_same (ref.Input i) h = refl
  read_same (ref.Reg k) h = refl
  read_same (ref.Cell c) h = h c (0, omega arith, refl)

  mutual
    worth_same : (t : Tree) → Agree zs ws (cells_in t) → worth (listed is rs zs) t ≡ worth (listed is rs ws) t
    worth_same (value r) h = read_same r h
    worth_same (one op a) h = let p = worth_same a h in cc
    worth_same (two op a b) h =
        let p = worth_same a (left (cells_in a) (cells_in b) h) in
        let q = worth_same b (right (cells_in a) (cells_in b) h) in
        cc
    worth_same (ite c a b) h =
        let o = worth_same c (left (cells_in c) (cells_in a ++ cells_in b) h) in
        let m = right (cells_in c) (cells_in a ++ cells_in b) h in
        let p = worth_same a (left (cells_in a) (cells_in b) m) in
        let q = worth_same b (right (cells_in a) (cells_in b) m) in
        cc
    worth_same (sel i ts) h =
        let p = worth_same i (left (cells_in i) (cells_in_all ts) h) in
        let q = worths_same ts (right (cells_in i) (cells_in_all ts) h) in
        cc
    worth_same (fit a low high) h = let p = worth_same a h in cc
    worth_same (bnot a n) h = let p = worth_same a h in cc
    worth_same (cat a b n) h =
        let p = worth_same a (left (cells_in a) (cells_in b) h) in
        let q = worth_same b (right (cells_in a) (cells_in b) h) in
        cc
    worth_same (bits a high low) h = let p = worth_same a h in cc

    worths_same : (ts : Trees) → Agree zs ws (cells_in_all ts) → worths (listed is rs zs) ts ≡ worths (listed is rs ws) ts
    worths_same none h = refl
    worths_same (item t ts) h =
        let p = worth_same t (left (cells_in t) (cells_in_all ts) h) in
        let q = worths_same ts (right (cells_in t) (cells_in_all ts) h) in
        cc

-- ---- one more cell

at_same : (zs : List ℤ) (k : ℕ) (z : ℤ) → k < length zs → number_at (slice_set zs k z) k ≡ z
at_same zs k z h = unwrap_or-slice_get (slice_set zs k z) k (pos 0) ∙ get_or-set_same zs k z (pos 0) h

at_other : (zs : List ℤ) (k j : ℕ) (z : ℤ) → (j ≡ k → ⊥) → number_at zs j ≡ number_at (slice_set zs k z) j
at_other zs k j z h = unwrap_or-slice_get zs j (pos 0) ∙ (sym (get_or-set_other zs k j z (pos 0) h) ∙ sym (unwrap_or-slice_get (slice_set zs k z) j (pos 0)))

pub none_done : (cs : List Defined) (is rs zs : List ℤ) → AreDone cs is rs zs []
none_done cs is rs zs = record { met = λ k c h. absurd (omega (arith, h.1)); closed = λ k d h. absurd (omega (arith, h.1)) }

alone : (j k : ℕ) → Contains (j ∷ []) k → k ≡ j
alone j k (zero, h, e) = sym e
alone j k (suc n, h, e) = absurd (omega (arith, h))

pub one_more : (cs : List Defined) (is rs zs : List ℤ) (done : List ℕ) (k : ℕ) (c : Defined)
    → AreDone cs is rs zs done → IsReady cs done k → slice_get cs k ≡ Some c → k < length zs
    → AreDone cs is rs (slice_set zs k (worth (listed is rs zs) c.tree)) (done ++ k ∷ [])
one_more cs is rs zs done k c before ready e h =
    let ws : List ℤ = slice_set zs k (worth (listed is rs zs) c.tree) in
    let kept : Agree zs ws done = (λ d p. at_other zs k d (worth (listed is rs zs) c.tree) (λ q. ready.left (subst (Contains done) q p))) in
    let agree : (j : ℕ) (b : Defined) → slice_get cs j ≡ Some b → ((d : ℕ) → DependsOn cs j d → Contains done d) → worth (listed is rs zs) b.tree ≡ worth (listed is rs ws) b.tree
    = (λ j b f g. worth_same is rs zs ws b.tree (λ d p. kept d (g d (b, f, p)))) in
    record {
      met = λ j b p f. elim (Contains-append_cases done (k ∷ []) j p) [
        | inl old ↦ sym (kept j old) ∙ (before.met j b old f ∙ agree j b f (λ d q. before.closed j d old q))
        | inr new ↦
            let at : j ≡ k = alone k j new in
            let same : b ≡ c = (let f2 : slice_get cs k ≡ Some b = subst (λ (n : ℕ). slice_get cs n ≡ Some b) at f in cc) in
            subst (λ (n : ℕ). number_at ws n ≡ worth (listed is rs ws) b.tree) (sym at)
            (subst (λ (x : Defined). number_at ws k ≡ worth (listed is rs ws) x.tree) (sym same)
            (at_same zs k (worth (listed is rs zs) c.tree) h ∙ agree k c e (λ d q. ready.free d q)))
      ];
      closed = λ j d p q. Contains-append_left done (k ∷ []) d (elim (Contains-append_cases done (k ∷ []) j p) [
        | inl old ↦ before.closed j d old q
        | inr new ↦ ready.free d (subst (λ (n : ℕ). DependsOn cs n d) (alone k j new) q)
      ]);
    }

-- ---- all cells

not_true : (b : Bool) → (b ≡ true → ⊥) → b ≡ false
not_true true h = absurd (h refl)
not_true false h = refl

same_number : (a b : ℕ) → eqb a b ≡ true → a ≡ b
same_number a b h = elim (eqb_tells a b) [ inl p ↦ p.1 | inr p ↦ absurd (let q = p.0 in cc) ]

not_among : (xs : List ℕ) (k : ℕ) → ¬ Contains xs k → list_any (eqb k) xs ≡ false
not_among xs k h = not_true (list_any (eqb k) xs) (λ e. h (Contains-from_any same_number k xs e))

-- the list up to one more element
pub next_taken : (order : List ℕ) (i : ℕ) → i < length order → take i order ++ get_or order i 0 ∷ [] ≡ take (i + 1) order
next_taken order i h =
    let e : suc i ≡ i + 1 = omega arith in
    sym (take-suc order i 0 h) ∙ ap (λ (n : ℕ). take n order) e

pub ready_at : (cs : List Defined) (order : List ℕ) → TakesInTurn cs order → (i : ℕ) → i < length order → IsReady cs (take i order) (get_or order i 0)
ready_at cs order turn i h = (turn i (get_or order i 0) (at_place order i 0 h)).ready

distinct : (cs : List Defined) (order : List ℕ) → TakesInTurn cs order → (i : ℕ) → i ≤ length order → IsDistinct eqb (take i order)
unfolding IsDistinct
distinct cs order turn zero h = tt
distinct cs order turn (suc i) h =
    let lt : i < length order = omega (arith, h) in
    let k : ℕ = get_or order i 0 in
    let fresh : list_any (eqb k) (take i order) ≡ false = not_among (take i order) k (ready_at cs order turn i lt).left in
    subst (IsDistinct eqb) (sym (take-suc order i 0 lt)) (IsDistinct-push nat_eq_equiv (take i order) k (distinct cs order turn i (omega (arith, h))) fresh)

is_cell : (cs : List Defined) (order : List ℕ) → TakesInTurn cs order → (k : ℕ) → Contains order k → k < length cs
is_cell cs order turn k p = subst (λ (n : ℕ). n < length cs) (get_or_default order p.0 0 k p.1 ∙ p.2) (ready_at cs order turn p.0 p.1).is_cell

all_among : (cs : List Defined) (order : List ℕ) → IsOrder cs order → (k : ℕ) → k < length cs → Contains order k
all_among cs order o k h = elim (contains_or_not order k) [
  | inl found ↦ found
  | inr missing ↦
      let whole : IsDistinct eqb order = subst (IsDistinct eqb) (take-length order) (distinct cs order o.in_turn (length order) (omega arith)) in
      let more : IsDistinct eqb (order ++ k ∷ []) = IsDistinct-push nat_eq_equiv order k whole missing in
      let below : (q : ℕ) → list_any (eqb q) (order ++ k ∷ []) ≡ true → q < length cs = (λ q e.
      elim (Contains-append_cases order (k ∷ []) q (Contains-from_any same_number q (order ++ k ∷ []) e)) [
        | inl old ↦ is_cell cs order o.in_turn q old
        | inr new ↦ subst (λ (n : ℕ). n < length cs) (sym (alone k q new)) h
      ]) in
      let few : length (order ++ k ∷ []) ≤ length cs = length-le_from_distinct_below (order ++ k ∷ []) (length cs) more below in
      absurd (omega (arith, few, length_push order k, o.all))
]
  where
    contains_or_not : (xs : List ℕ) (q : ℕ) → Contains xs q ⊎ (list_any (eqb q) xs ≡ false)
    contains_or_not xs q = told (list_any (eqb q) xs) refl
      where
        told : (b : Bool) → list_any (eqb q) xs ≡ b → Contains xs q ⊎ (list_any (eqb q) xs ≡ false)
        told true e = inl (Contains-from_any same_number q xs e)
        told false e = inr e

take_all : (xs : List ℕ) (i : ℕ) → length xs ≤ i → take i xs ≡ xs
take_all [] zero h = refl
take_all [] (suc i) h = refl
take_all (x ∷ xs) zero h = absurd (omega (arith, h))
take_all (x ∷ xs) (suc i) h = ap (◌∷◌ x) (take_all xs i (omega (arith, h)))

-- where all cells of the order are done, all cells meet their equations
pub all_done : (cs : List Defined) (is rs zs : List ℤ) (order : List ℕ) (i : ℕ) → IsOrder cs order → length order ≤ i → AreDone cs is rs zs (take i order) → IsSolution (listed is rs zs) cs
all_done cs is rs zs order i o h done k c e free =
    let lt : k < length cs = slice_get_within cs k c e in
    done.met k c (subst (λ (xs : List ℕ). Contains xs k) (sym (take_all order i h)) (all_among cs order o k lt)) e

-- ---- the same of cells as they stand in a list

cell_at : (bs : List Cell) (k : ℕ) (b : Cell) → k < length bs → slice_get (all_defined bs) k ≡ Some (defined (get_or bs k b))
cell_at [] k b h = absurd (omega (arith, h))
cell_at (c ∷ bs) zero b h = refl
cell_at (c ∷ bs) (suc k) b h = cell_at bs k b (omega (arith, h))

pub step_done : (bs : List Cell) (is rs zs : List ℤ) (order : List ℕ) (i : ℕ) (b : Cell) (z : ℤ) → IsOrder (all_defined bs) order → i < length order
    → length zs ≡ length bs → AreDone (all_defined bs) is rs zs (take i order) → z ≡ worth (listed is rs zs) (tree (get_or bs (get_or order i 0) b).tree)
    → AreDone (all_defined bs) is rs (slice_set zs (get_or order i 0) z) (take (i + 1) order)
step_done bs is rs zs order i b z o lt room done e =
    let cs : List Defined = all_defined bs in
    let k : ℕ = get_or order i 0 in
    let ready : IsReady cs (take i order) k = ready_at cs order o.in_turn i lt in
    let within_cells : k < length bs = (let h : k < length cs = ready.is_cell in omega (arith, h, length-map bs defined)) in
    let c : Defined = defined (get_or bs k b) in
    subst (λ (y : ℤ). AreDone cs is rs (slice_set zs k y) (take (i + 1) order)) (sym e)
    (subst (AreDone cs is rs (slice_set zs k (worth (listed is rs zs) c.tree))) (next_taken order i lt)
    (one_more cs is rs zs (take i order) k c done ready (cell_at bs k b within_cells) (omega (arith, within_cells, room))))

pub order_within : (bs : List Cell) (order : List ℕ) (i : ℕ) → IsOrder (all_defined bs) order → i < length order → get_or order i 0 < length bs
order_within bs order i o lt = let h : get_or order i 0 < length (all_defined bs) = (ready_at (all_defined bs) order o.in_turn i lt).is_cell in omega (arith, h, length-map bs defined)
