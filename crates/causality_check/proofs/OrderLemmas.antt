-- What is said of rows of numbers, said of cells.
use Rattle.std.proofs.Common.{◌≡◌, ◌∙◌, ℕ, zero, suc, ◌<◌, inl, inr, List, [], ◌∷◌, length, take, Contains, get_or, refl, sym, ap, subst, arith}
use Rattle.std.specs.Prelude.{Some, slice_get}
use Rattle.std.proofs.lemmas.List.{length-map, get_or_default, get_or-take, length-take-le}
use Rattle.quartz_tree.specs.declared.place.Place.{Place}
use Rattle.aif_cells.specs.declared.cells.Cell.{Cell}
use Rattle.aif_cells.specs.Built.{Defined, all_defined, defined}
use Rattle.aif_cells.specs.Dependences.{DependsOn, cells_in}
use Rattle.aif_cells.specs.Order.{IsCycle, IsNamedCycle, IsOrder, IsReady, LeadsTo, TakesInTurn}
use Rattle.causality_check.specs.Gather.{needs_of}
use Rattle.causality_check.specs.Graph.{IsClosed, IsOnCycle, Needs, Walk, row}
use Rattle.causality_check.specs.Order.{HasNoCycle, IsCycleAt, NamesCells}
use Rattle.causality_check.specs.Shortest.{IsBestPath, IsCycleList, IsLeastOnCycle, Leads}
use Rattle.causality_check.specs.Turns.{AllLeftAreHeldUp, AreInTurn, IsFree, IsLeastFree, IsStuck, SomeIsLeft}
use Rattle.causality_check.proofs.GraphLemmas.{row_within}
use Rattle.causality_check.proofs.ShortestLemmas.{leads_walk}
use Rattle.aif_cells.proofs.ItemLemmas.{at_place}

row_of : (cs : List Defined) (k : ℕ) (c : Defined) → slice_get cs k ≡ Some c → row (needs_of cs) k ≡ cells_in c.tree
row_of [] k c e = absurd cc
row_of (b ∷ cs) zero c e = let q : b ≡ c = cc in ap (λ (d : Defined). cells_in d.tree) q
row_of (b ∷ cs) (suc k) c e = row_of cs k c e

cell_of : (cs : List Defined) (k : ℕ) → k < length cs → (c : Defined) × (slice_get cs k ≡ Some c)
cell_of [] k h = absurd (omega (arith, h))
cell_of (c ∷ cs) zero h = (c, refl)
cell_of (c ∷ cs) (suc k) h = cell_of cs k (omega (arith, h))

pub count_of : (cs : List Defined) → length (needs_of cs) ≡ length cs
count_of cs = length-map cs (λ c. cells_in c.tree)

pub needs_from : (cs : List Defined) (k d : ℕ) → DependsOn cs k d → Needs (needs_of cs) k d
needs_from cs k d p = subst (λ (xs : List ℕ). Contains xs d) (sym (row_of cs k p.0 p.1)) p.2

pub depends_from : (cs : List Defined) (k d : ℕ) → Needs (needs_of cs) k d → DependsOn cs k d
depends_from cs k d n =
    let h : k < length cs = (let r : k < length (needs_of cs) = row_within (needs_of cs) k d n in omega (arith, r, count_of cs)) in
    let c : (c : Defined) × (slice_get cs k ≡ Some c) = cell_of cs k h in
    (c.0, c.1, subst (λ (xs : List ℕ). Contains xs d) (row_of cs k c.0 c.1) n)

pub is_closed : (cs : List Defined) → NamesCells cs → IsClosed (needs_of cs)
is_closed cs f k d n = let lt : d < length cs = f k d (depends_from cs k d n) in omega (arith, lt, count_of cs)

ready_from : (cs : List Defined) (taken : List ℕ) (k : ℕ) → IsFree (needs_of cs) taken k → IsReady cs taken k
ready_from cs taken k p = record { is_cell = omega (arith, p.is_cell, count_of cs); left = p.left; free = λ d n. p.free d (needs_from cs k d n) }

free_from : (cs : List Defined) (taken : List ℕ) (k : ℕ) → IsReady cs taken k → IsFree (needs_of cs) taken k
free_from cs taken k p = record { is_cell = omega (arith, p.is_cell, count_of cs); left = p.left; free = λ d n. p.free d (depends_from cs k d n) }

pub takes_in_turn : (cs : List Defined) (order : List ℕ) → AreInTurn (needs_of cs) order → TakesInTurn cs order
takes_in_turn cs order p i k e = let q : IsLeastFree (needs_of cs) (take i order) k = p i k e in
    record { ready = ready_from cs (take i order) k q.ready; least = λ j r. q.least j (free_from cs (take i order) j r) }

-- ---- an order leaves no cycle

walk_snoc : (g : List (List ℕ)) (n a b c : ℕ) → Walk g n a b → Needs g b c → Walk g (suc n) a c
walk_snoc g zero a b c w n = (c, subst (λ (m : ℕ). Needs g m c) (sym w) n, refl)
walk_snoc g (suc n) a b c w m = (w.0, w.1, walk_snoc g n w.0 b c w.2 m)

-- what a cell on a cycle needs first lies on one too
turned : (g : List (List ℕ)) (k : ℕ) → IsOnCycle g k → (d : ℕ) × Needs g k d × IsOnCycle g d
turned g k c = (c.1.0, c.1.1, (c.0, walk_snoc g c.0 c.1.0 k c.1.0 c.1.2 c.1.1))

none_below : (g : List (List ℕ)) (order : List ℕ) → AreInTurn g order → (n i : ℕ) → i < n → i < length order → IsOnCycle g (get_or order i 0) → ⊥
none_below g order p zero i lt h c = omega (arith, lt)
none_below g order p (suc n) i lt h c =
    let k : ℕ = get_or order i 0 in
    let t : (d : ℕ) × Needs g k d × IsOnCycle g d = turned g k c in
    let among : Contains (take i order) t.0 = (p i k (at_place order i 0 h)).ready.free t.0 t.1 in
    let l : length (take i order) ≡ i = length-take-le i order (omega (arith, h)) in
    let below : among.0 < i = omega (arith, among.1, l) in
    let e : get_or order among.0 0 ≡ t.0 = get_or_default order among.0 0 t.0 (omega (arith, below, h)) ∙ (sym (get_or-take i order among.0 t.0 below) ∙ among.2) in
    none_below g order p n among.0 (omega (arith, below, lt)) (omega (arith, below, h)) (subst (IsOnCycle g) (sym e) t.2)

on_no_cycle : (g : List (List ℕ)) (order : List ℕ) → AreInTurn g order → ((k : ℕ) → k < length g → Contains order k) → (k : ℕ) → IsOnCycle g k → ⊥
on_no_cycle g order p all k c =
    let m : Contains order k = all k (row_within g k c.1.0 c.1.1) in
    let e : get_or order m.0 0 ≡ k = get_or_default order m.0 0 k m.1 ∙ m.2 in
    none_below g order p (suc m.0) m.0 (omega arith) m.1 (subst (IsOnCycle g) (sym e) c)

leads_from : (cs : List Defined) (goal k : ℕ) (path : List ℕ) → LeadsTo cs goal k path → Leads (needs_of cs) goal k path
leads_from cs goal k [] l = needs_from cs k goal l
leads_from cs goal k (j ∷ path) l = (needs_from cs k j l.0, leads_from cs goal j path l.1)

leads_to_from : (cs : List Defined) (goal k : ℕ) (path : List ℕ) → Leads (needs_of cs) goal k path → LeadsTo cs goal k path
leads_to_from cs goal k [] l = depends_from cs k goal l
leads_to_from cs goal k (j ∷ path) l = (depends_from cs k j l.0, leads_to_from cs goal j path l.1)

on_cycle : (cs : List Defined) (k : ℕ) (path : List ℕ) → IsCycle cs k path → IsOnCycle (needs_of cs) k
on_cycle cs k path c = (length path, leads_walk (needs_of cs) k k path (leads_from cs k k path c))

-- what is said of a list in turn that has all cells
pub is_order : (cs : List Defined) (order : List ℕ) → AreInTurn (needs_of cs) order → length order ≡ length cs → IsOrder cs order
is_order cs order p e = record { in_turn = takes_in_turn cs order p; all = e }

pub has_no_cycle : (cs : List Defined) (order : List ℕ) → AreInTurn (needs_of cs) order → SomeIsLeft (needs_of cs) order → length order ≡ length cs → HasNoCycle cs
has_no_cycle cs order p some e k path c = elim some [
  | inl all ↦ on_no_cycle (needs_of cs) order p all.1 k (on_cycle cs k path c)
  | inr left ↦ absurd (omega (arith, left.0, e, count_of cs))
]

pub is_stuck : (g : List (List ℕ)) (order : List ℕ) → AllLeftAreHeldUp g order → SomeIsLeft g order → (length order ≡ length g → ⊥) → IsStuck g
is_stuck g order held some ne = elim some [ inl all ↦ absurd (ne all.0) | inr left ↦ (order, held, left.1) ]

-- ---- the cycle that is named

named_cycle : (cs : List Defined) (k : ℕ) (path : List ℕ) → IsLeastOnCycle (needs_of cs) k → IsBestPath (needs_of cs) k k path → IsNamedCycle cs k path
named_cycle cs k path least best = record {
  cycle = leads_to_from cs k k path best.leads;
  first = λ j other c. least.least j (on_cycle cs j other c);
  shortest = λ other c. best.shortest other (leads_from cs k k other c);
  least = λ other c e. best.first other (leads_from cs k k other c) e;
}

pub cycle_at : (cs : List Defined) (k : ℕ) (cells : List ℕ) (c : Defined) (place : Place) → IsCycleList (needs_of cs) k cells → slice_get cs k ≡ Some c → place ≡ c.place → IsCycleAt cs cells place
cycle_at cs k [] c place l e p = l
cycle_at cs k (j ∷ path) c place l e p =
    (subst (λ (m : ℕ). IsNamedCycle cs m path) (sym l.0) (named_cycle cs k path l.1 l.2), (c, ap (slice_get cs) l.0 ∙ e, p))

pub start_within : (g : List (List ℕ)) (k : ℕ) → IsLeastOnCycle g k → k < length g
start_within g k p = row_within g k p.on_cycle.1.0 p.on_cycle.1.1

-- ---- by what the code has read

mapped_at : (cells : List Cell) (k : ℕ) (x : Cell) → k < length cells → slice_get (all_defined cells) k ≡ Some (defined (get_or cells k x))
mapped_at [] k x h = absurd (omega (arith, h))
mapped_at (c ∷ cells) zero x h = refl
mapped_at (c ∷ cells) (suc k) x h = mapped_at cells k x (omega (arith, h))

pub fault_is : (cells read : List Cell) (start : ℕ) (x : Cell) (list : List ℕ) (g : List (List ℕ)) → read ≡ cells → g ≡ needs_of (all_defined cells) → IsCycleList g start list → IsCycleAt (all_defined cells) list (get_or read start x).place
fault_is cells read start x list g e q l =
    let m : IsCycleList (needs_of (all_defined cells)) start list = subst (λ (g : List (List ℕ)). IsCycleList g start list) q l in
    let h : start < length cells = (let a : start < length (needs_of (all_defined cells)) = list_start (needs_of (all_defined cells)) start list m in omega (arith, a, count_of (all_defined cells), length-map cells defined)) in
    subst (λ (cs : List Cell). IsCycleAt (all_defined cells) list (get_or cs start x).place) (sym e)
    (cycle_at (all_defined cells) start list (defined (get_or cells start x)) (get_or cells start x).place m (mapped_at cells start x h) refl)
  where
    list_start : (g : List (List ℕ)) (k : ℕ) (list : List ℕ) → IsCycleList g k list → k < length g
    list_start g k [] l = absurd l
    list_start g k (j ∷ path) l = start_within g k l.1

pub list_within : (g : List (List ℕ)) (k : ℕ) (list : List ℕ) → IsCycleList g k list → k < length g
list_within g k [] l = absurd l
list_within g k (j ∷ path) l = start_within g k l.1

pub as_many : (cells read : List Cell) (order : List ℕ) → read ≡ cells → length order ≡ length read → length order ≡ length (all_defined cells)
as_many cells read order e f = f ∙ (ap length e ∙ sym (length-map cells defined))

pub other_count : (cells read : List Cell) (order : List ℕ) (g : List (List ℕ)) → read ≡ cells → g ≡ needs_of (all_defined cells) → (length order ≡ length read → ⊥) → length order ≡ length g → ⊥
other_count cells read order g e q ne f = ne (f ∙ (ap length q ∙ (count_of (all_defined cells) ∙ (length-map cells defined ∙ ap length (sym e)))))

pub named_from : (cs : List Defined) (g : List (List ℕ)) → g ≡ needs_of cs → IsClosed g → NamesCells cs
named_from cs g e f k d p = let lt : d < length (needs_of cs) = subst IsClosed e f k d (needs_from cs k d p) in omega (arith, lt, count_of cs)

pub unnamed_from : (cs : List Defined) (g : List (List ℕ)) → g ≡ needs_of cs → (IsClosed g → ⊥) → NamesCells cs → ⊥
unnamed_from cs g e f n = f (subst IsClosed (sym e) (is_closed cs n))
