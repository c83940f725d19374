use Rattle.std.proofs.Common.{ℕ, List, ◌≡◌, ◌<◌, ◌≤◌, ◌+◌, ◌∙◌, length, Contains, get_or, subst, sym, ap, arith}
use Rattle.std.proofs.lemmas.List.{get_or_read}
use Rattle.std.proofs.lemmas.List.Elements.{Contains-get_or, Contains-push}
use Rattle.causality_check.specs.Graph.{Needs, row}
use Rattle.causality_check.specs.Search.{EndsIn, Holds, IsLookedAt, IsRetired, Table, cell_at, effort, looked, table}
use Rattle.causality_check.proofs.SearchLemmas.{less_left, less_to_do, looks_on, with_looked}
use Rattle.causality_check.proofs.components.Search.step.Goals as goal

-- the last place is at work
at_work : (t : Table) (p : ℕ) → EndsIn t.work p → Contains t.work p
at_work t p e = subst (λ (xs : List ℕ). Contains xs p) (sym e.1) (Contains-push e.0 p)

-- what is read of the present cell
record Read (g : List (List ℕ)) (t : Table) (p a : ℕ) (needed : List ℕ) (at : ℕ) : Type 0 where
  place : Contains t.work p
  cell : a ≡ cell_at t p
  within : a < length g
  row_is : needed ≡ row g a
  at_is : at ≡ looked t a

place_of : (g : List (List ℕ)) (t : Table) (xs : List ℕ) (p : ℕ) → xs ≡ t.work → EndsIn xs p → Holds g t → p < length t.stack
place_of g t xs p e ends h = h.rows.places p (at_work t p (subst (λ (ys : List ℕ). EndsIn ys p) e ends))

cell_of : (g : List (List ℕ)) (t : Table) (p a : ℕ) → p < length t.stack → a ≡ get_or t.stack p a → Holds g t → (a ≡ cell_at t p) × (a < length g)
cell_of g t p a lt e h = let f : a ≡ cell_at t p = get_or_read t.stack p a lt e 0 in (f, subst (λ (m : ℕ). m < length g) (sym f) (h.rows.cells p lt))

read : (g : List (List ℕ)) (t : Table) (xs : List ℕ) (p a : ℕ) (needed : List ℕ) (at : ℕ) → xs ≡ t.work → EndsIn xs p → a ≡ get_or t.stack p a → needed ≡ row g a → at ≡ get_or t.looked a at → Holds g t → Read g t p a needed at
read g t xs p a needed at e ends f q r h =
    let lt : p < length t.stack = place_of g t xs p e ends h in
    let k : (a ≡ cell_at t p) × (a < length g) = cell_of g t p a lt f h in
    record { place = at_work t p (subst (λ (ys : List ℕ). EndsIn ys p) e ends); cell = k.0; within = k.1; row_is = q; at_is = get_or_read t.looked a at (omega (arith, k.1, h.rows.looked_length)) r 0 }

needs : (g : List (List ℕ)) (t : Table) (p a : ℕ) (needed : List ℕ) (at : ℕ) → at < length needed → Read g t p a needed at → Needs g (cell_at t p) (get_or needed at 0)
needs g t p a needed at lt r = subst (λ (m : ℕ). Needs g m (get_or needed at 0)) r.cell (subst (λ (xs : List ℕ). Contains xs (get_or needed at 0)) r.row_is (Contains-get_or needed at 0 lt))

more : (g : List (List ℕ)) (t : Table) (p a : ℕ) (needed : List ℕ) (at : ℕ) → at < length needed → Read g t p a needed at → looked t a < length (row g a)
more g t p a needed at lt r = let l : length needed ≡ length (row g a) = ap length r.row_is in omega (arith, l, lt, r.at_is)

after_look : (g : List (List ℕ)) (t u : Table) (p a : ℕ) (needed : List ℕ) (at : ℕ) → at < length needed → Read g t p a needed at → Holds g t → IsLookedAt g t u p (get_or needed at 0) → Holds g (with_looked u a (at + 1))
after_look g t u p a needed at lt r h k =
    subst (λ (n : ℕ). Holds g (with_looked u a (n + 1))) (sym r.at_is)
    (looks_on g t u a p (get_or needed at 0) r.cell r.place (more g t p a needed at lt r) (ap (λ (xs : List ℕ). get_or xs at 0) r.row_is ∙ ap (λ (n : ℕ). get_or (row g a) n 0) r.at_is) h k)

less_look : (g : List (List ℕ)) (t u : Table) (p a : ℕ) (needed : List ℕ) (at : ℕ) → at < length needed → Read g t p a needed at → Holds g t → IsLookedAt g t u p (get_or needed at 0) → effort g (with_looked u a (at + 1)) < effort g t
less_look g t u p a needed at lt r h k =
    subst (λ (n : ℕ). effort g (with_looked u a (n + 1)) < effort g t) (sym r.at_is) (less_to_do g t u a p (get_or needed at 0) r.within (more g t p a needed at lt r) h k)

all_looked : (g : List (List ℕ)) (t : Table) (p a : ℕ) (needed : List ℕ) (at : ℕ) → length needed ≤ at → Read g t p a needed at → length (row g (cell_at t p)) ≤ looked t (cell_at t p)
all_looked g t p a needed at le r = subst (λ (m : ℕ). length (row g m) ≤ looked t m) r.cell (let l : length needed ≡ length (row g a) = ap length r.row_is in omega (arith, l, le, r.at_is))

pub index-cell-requires : goal.index-cell-requires
index-cell-requires c = omega (arith, place_of c.args.graph.now (table c.args.self.now) c.as_slice.result.now c.in-Some.place c.as_slice.ensures.value c.in-Some.ensures c.requires.holds, c.args.self.now.stack.ok.0)

pub needed_by-needed-requires : goal.needed_by-needed-requires
needed_by-needed-requires c = (cell_of c.args.graph.now (table c.args.self.now) c.in-Some.place c.index-cell.result.now (place_of c.args.graph.now (table c.args.self.now) c.as_slice.result.now c.in-Some.place c.as_slice.ensures.value c.in-Some.ensures c.requires.holds) c.index-cell.ensures c.requires.holds).1

pub index-at-requires : goal.index-at-requires
index-at-requires c = omega (arith, (cell_of c.args.graph.now (table c.args.self.now) c.in-Some.place c.index-cell.result.now (place_of c.args.graph.now (table c.args.self.now) c.as_slice.result.now c.in-Some.place c.as_slice.ensures.value c.in-Some.ensures c.requires.holds) c.index-cell.ensures c.requires.holds).1, c.requires.holds.rows.looked_length, c.args.self.now.looked.ok.0)

pub look-requires-clause-needed : goal.look-requires-clause-needed
look-requires-clause-needed c = needs c.args.graph.now (table c.args.self.now) c.in-Some.place c.index-cell.result.now c.needed_by-needed.result.now c.index-at.result.now c.if-at-needed.true
    (read c.args.graph.now (table c.args.self.now) c.as_slice.result.now c.in-Some.place c.index-cell.result.now c.needed_by-needed.result.now c.index-at.result.now c.as_slice.ensures.value c.in-Some.ensures c.index-cell.ensures c.needed_by-needed.ensures c.index-at.ensures c.requires.holds)

pub retire-requires-clause-place : goal.retire-requires-clause-place
retire-requires-clause-place c = place_of c.args.graph.now (table c.args.self.now) c.as_slice.result.now c.in-Some.place c.as_slice.ensures.value c.in-Some.ensures c.requires.holds

pub returns-in_ok-look-clause-stepped : goal.returns-in_ok-look-clause-stepped
returns-in_ok-look-clause-stepped c = record {
  holds = after_look c.args.graph.now (table c.args.self.now) (table c.look.new.self) c.in-Some.place c.index-cell.result.now c.needed_by-needed.result.now c.index-at.result.now c.if-at-needed.true
      (read c.args.graph.now (table c.args.self.now) c.as_slice.result.now c.in-Some.place c.index-cell.result.now c.needed_by-needed.result.now c.index-at.result.now c.as_slice.ensures.value c.in-Some.ensures c.index-cell.ensures c.needed_by-needed.ensures c.index-at.ensures c.requires.holds)
      c.requires.holds c.in_ok-look.ensures;
  reached = c.in_ok-look.ensures.reached;
}

pub returns-in_ok-look-clause-less : goal.returns-in_ok-look-clause-less
returns-in_ok-look-clause-less c = less_look c.args.graph.now (table c.args.self.now) (table c.look.new.self) c.in-Some.place c.index-cell.result.now c.needed_by-needed.result.now c.index-at.result.now c.if-at-needed.true
    (read c.args.graph.now (table c.args.self.now) c.as_slice.result.now c.in-Some.place c.index-cell.result.now c.needed_by-needed.result.now c.index-at.result.now c.as_slice.ensures.value c.in-Some.ensures c.index-cell.ensures c.needed_by-needed.ensures c.index-at.ensures c.requires.holds)
    c.requires.holds c.in_ok-look.ensures

pub returns-in_ok-retire-clause-stepped : goal.returns-in_ok-retire-clause-stepped
returns-in_ok-retire-clause-stepped c =
    let r : IsRetired c.args.graph.now (table c.args.self.now) (table c.retire.new.self) = c.in_ok-retire.ensures c.args.graph.now (all_looked c.args.graph.now (table c.args.self.now) c.in-Some.place c.index-cell.result.now c.needed_by-needed.result.now c.index-at.result.now c.if-at-needed.false
    (read c.args.graph.now (table c.args.self.now) c.as_slice.result.now c.in-Some.place c.index-cell.result.now c.needed_by-needed.result.now c.index-at.result.now c.as_slice.ensures.value c.in-Some.ensures c.index-cell.ensures c.needed_by-needed.ensures c.index-at.ensures c.requires.holds)) c.requires.holds in
    record { holds = r.holds; reached = r.reached }

pub returns-in_ok-retire-clause-less : goal.returns-in_ok-retire-clause-less
returns-in_ok-retire-clause-less c =
    less_left c.args.graph.now (table c.args.self.now) (table c.retire.new.self) (c.in_ok-retire.ensures c.args.graph.now (all_looked c.args.graph.now (table c.args.self.now) c.in-Some.place c.index-cell.result.now c.needed_by-needed.result.now c.index-at.result.now c.if-at-needed.false
    (read c.args.graph.now (table c.args.self.now) c.as_slice.result.now c.in-Some.place c.index-cell.result.now c.needed_by-needed.result.now c.index-at.result.now c.as_slice.ensures.value c.in-Some.ensures c.index-cell.ensures c.needed_by-needed.ensures c.index-at.ensures c.requires.holds)) c.requires.holds)
