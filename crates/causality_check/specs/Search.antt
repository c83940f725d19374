-- The search for components: cells that reach each other.
use Rattle.std.specs.Prelude.{◌≡◌, ℕ, ◌<◌, ◌≤◌, ◌⊎◌, ◌+◌, ◌-◌, ◌*◌, ◌++◌, slice_set, nat_lt, if◌then◌else◌, List, [], ◌∷◌, length, Contains, slice_index_or}
use Rattle.causality_check.specs.declared.components.Mark.{Mark}
use Rattle.causality_check.specs.declared.components.Mark.TheVariants.{New, Open, Closed}
use Rattle.causality_check.specs.declared.components.Search.{Search}
use Rattle.causality_check.specs.Graph.{row, Needs, Reaches}

-- what the search keeps: where each cell stands, how many of those that it needs are looked at, the cells that are
-- open, the places at which the open components begin, those of the cells that are at work, and the first cells of
-- the components that are closed
pub record Table : Type 0 where
  pub marks : List Mark
  pub looked : List ℕ
  pub stack : List ℕ
  pub starts : List ℕ
  pub work : List ℕ
  pub roots : List ℕ

abbrev pub table : Search → Table
table s = record { marks = s.marks.items; looked = s.looked.items; stack = s.stack.items; starts = s.starts.items; work = s.work.items; roots = s.roots.items }

abbrev pub mark_in : List Mark → ℕ → Mark
mark_in ms k = slice_index_or ms k New

abbrev pub mark : Table → ℕ → Mark
mark t k = mark_in t.marks k

abbrev pub looked : Table → ℕ → ℕ
looked t k = slice_index_or t.looked k 0

abbrev pub cell_at : Table → ℕ → ℕ
cell_at t p = slice_index_or t.stack p 0

-- each number is greater than those before it
abbrev pub Ascends : List ℕ → Type 0
Ascends xs = (i j : ℕ) → i < j → j < length xs → slice_index_or xs i 0 < slice_index_or xs j 0

-- no component begins between the two places
abbrev pub NoneBetween : (starts : List ℕ) → (p q : ℕ) → Type 0
NoneBetween starts p q = (s : ℕ) → Contains starts s → s ≤ q → s ≤ p

abbrev pub NoneBegins : Table → (p q : ℕ) → Type 0
NoneBegins t p q = NoneBetween t.starts p q

-- what an open cell at this place has looked at is closed, or open in no component below
pub record IsAbove (ms : List Mark) (starts : List ℕ) (p b q : ℕ) : Type 0 where
  pub is_open : mark_in ms b ≡ Open q
  pub above : NoneBetween starts q p

abbrev pub IsPast : List Mark → (starts : List ℕ) → (p b : ℕ) → Type 0
IsPast ms starts p b = ((c : ℕ) × (mark_in ms b ≡ Closed c)) ⊎ ((q : ℕ) × IsAbove ms starts p b q)

-- what a closed cell needs is in a component that is closed before, or in the same one
pub record IsUnder (g : List (List ℕ)) (ms : List Mark) (a c b d : ℕ) : Type 0 where
  pub is_closed : mark_in ms b ≡ Closed d
  pub earlier : d ≤ c
  pub back : d ≡ c → Reaches g b a

-- the tables have a row for each cell
pub record HasRows (g : List (List ℕ)) (t : Table) : Type 0 where
  pub marks_length : length t.marks ≡ length g
  pub looked_length : length t.looked ≡ length g
  pub short : (k : ℕ) → looked t k ≤ length (row g k)
  pub places : (p : ℕ) → Contains t.work p → p < length t.stack
  pub cells : (p : ℕ) → p < length t.stack → cell_at t p < length g

-- what holds while components are searched
pub record Holds (g : List (List ℕ)) (t : Table) : Type 0 where
  pub rows : HasRows g t
  pub opened : (p : ℕ) → p < length t.stack → mark t (cell_at t p) ≡ Open p
  pub stands : (a p : ℕ) → mark t a ≡ Open p → (p < length t.stack) × (cell_at t p ≡ a)
  pub numbered : (a c : ℕ) → mark t a ≡ Closed c → c < length t.roots
  pub fresh : (a : ℕ) → mark t a ≡ New → looked t a ≡ 0
  pub forth : (p q : ℕ) → p ≤ q → q < length t.stack → Reaches g (cell_at t p) (cell_at t q)
  pub back : (p q : ℕ) → p ≤ q → q < length t.stack → NoneBegins t p q → Reaches g (cell_at t q) (cell_at t p)
  pub open_edges : (a p i : ℕ) → mark t a ≡ Open p → i < looked t a → IsPast t.marks t.starts p (slice_index_or (row g a) i 0)
  pub closed_edges : (a c i : ℕ) → mark t a ≡ Closed c → i < length (row g a) → (d : ℕ) × IsUnder g t.marks a c (slice_index_or (row g a) i 0) d
  pub done : (p : ℕ) → p < length t.stack → (¬ Contains t.work p) → length (row g (cell_at t p)) ≤ looked t (cell_at t p)
  pub at_work : (s : ℕ) → Contains t.starts s → Contains t.work s
  pub starts_up : Ascends t.starts
  pub work_up : Ascends t.work
  pub first : 0 < length t.stack → Contains t.starts 0

-- what is left to look at
abbrev pub unlooked : List (List ℕ) → List ℕ → ℕ
unlooked [] is = 0
unlooked (r ∷ g) [] = 0
unlooked (r ∷ g) (i ∷ is) = (length r - i) + unlooked g is

-- what cells reach that are at least at this place is closed as the component c
abbrev pub closed_from : (p c : ℕ) → Mark → Mark
closed_from p c New = New
closed_from p c (Open q) = if nat_lt q p then Open q else Closed c
closed_from p c (Closed d) = Closed d

-- what was reached is reached
abbrev pub StayReached : (before after : List Mark) → Type 0
StayReached before after = (a : ℕ) → (mark_in before a ≡ New → ⊥) → mark_in after a ≡ New → ⊥

-- the last number of a list
abbrev pub EndsIn : List ℕ → ℕ → Type 0
EndsIn xs x = (front : List ℕ) × (xs ≡ front ++ x ∷ [])

-- the starts up to a place
pub record AreUpTo (before : List ℕ) (q : ℕ) (after : List ℕ) : Type 0 where
  pub kept : (s : ℕ) → Contains before s → s ≤ q → Contains after s
  pub from : (s : ℕ) → Contains after s → Contains before s
  pub upto : (s : ℕ) → Contains after s → s ≤ q
  pub up : Ascends after

abbrev pub with_open : Table → ℕ → Table
with_open t b = record {
  marks = slice_set t.marks b (Open (length t.stack));
  looked = t.looked;
  stack = t.stack ++ b ∷ [];
  starts = t.starts ++ length t.stack ∷ [];
  work = t.work ++ length t.stack ∷ [];
  roots = t.roots;
}

-- what is left to do
abbrev pub effort : List (List ℕ) → Table → ℕ
effort g t = 2 * unlooked g t.looked + length t.work

-- what a look at a cell leaves
pub record IsLookedAt (g : List (List ℕ)) (before after : Table) (p b : ℕ) : Type 0 where
  pub holds : Holds g after
  pub past : IsPast after.marks after.starts p b
  pub looked_same : after.looked ≡ before.looked
  pub place_same : cell_at after p ≡ cell_at before p
  pub at_work : Contains after.work p
  pub reached : StayReached before.marks after.marks
  pub one_more : length after.work ≤ length before.work + 1

-- components by number: what a cell needs has no greater number, and where it has the same one it leads back
pub record AreComponents (g : List (List ℕ)) (ranks : List ℕ) : Type 0 where
  pub count : length ranks ≡ length g
  pub falls : (a b : ℕ) → Needs g a b → slice_index_or ranks b 0 ≤ slice_index_or ranks a 0
  pub leads_back : (a b : ℕ) → Needs g a b → slice_index_or ranks b 0 ≡ slice_index_or ranks a 0 → Reaches g b a

abbrev pub rank_of : Mark → ℕ
rank_of New = 0
rank_of (Open p) = 0
rank_of (Closed c) = c

-- what the present cell leaves when it retires
pub record IsRetired (g : List (List ℕ)) (before after : Table) : Type 0 where
  pub holds : Holds g after
  pub looked_same : after.looked ≡ before.looked
  pub reached : StayReached before.marks after.marks
  pub one_less : length after.work + 1 ≡ length before.work

-- what a step of the search leaves
pub record IsStepped (g : List (List ℕ)) (before after : Table) : Type 0 where
  pub holds : Holds g after
  pub reached : StayReached before.marks after.marks
