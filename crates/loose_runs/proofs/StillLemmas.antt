-- What adds cells and monitors of other faults alone.
use Rattle.std.proofs.Common.{◌≡◌, ℕ, zero, suc, ◌+◌, ◌≤◌, pos, negsuc, Bool, true, false, List, [], ◌∷◌, ◌++◌, length, Option, Some, None, refl, sym, ap, ◌∙◌, arith, append-nil, append_assoc, length-append}
use Rattle.std.specs.Prelude.{slice_get}
use Rattle.quartz_tree.specs.declared.place.Place.{Place}
use Rattle.quartz_tree.specs.declared.fault.Kind.{Kind as FaultKind}
use Rattle.quartz_tree.specs.declared.fault.Kind.TheVariants.{Range, Index, Divisor, Conflict}
use Rattle.quartz_tree.specs.declared.expr.Binary.{Binary}
use Rattle.quartz_tree.specs.Tree.{Tree as Expr}
use Rattle.quartz_tree.specs.Tree as expr
use Rattle.quartz_expr.specs.Vars.{Vars}
use Rattle.quartz_expr.specs.Terms.{Terms, none, part}
use Rattle.aif_cells.specs.declared.reference.Ref.{Ref}
use Rattle.aif_cells.specs.declared.reference.Ref.TheVariants as ref
use Rattle.aif_cells.specs.declared.tree.TreeOne.TheVariants as tree_one
use Rattle.aif_cells.specs.declared.tree.TreeTwo.TheVariants as tree_two
use Rattle.aif_cells.specs.declared.cells.Monitor.{Monitor}
use Rattle.aif_cells.specs.Tree.{Tree, value, one, two}
use Rattle.aif_cells.specs.Built.{Defined}
use Rattle.statement_cells.specs.Labels.{labels}
use Rattle.statement_cells.specs.Expressions.{Copies, Test, divisor_tests, element_tests, index_tests, range_tests, target_tests, test_if, tests_of, tree_of}
use Rattle.statement_cells.specs.Builder.{Builder, Short, first, second, both, and_of, cell_of, enter, given_or_new, in_of, new, not_of, or_of, pick, stay_at, watch, watch_one}
use Rattle.statement_cells.specs.Surface.{MadeAll, all_if_labels, and_all, and_more, at_end, index_of, suspended, tested, unless_zero_watch, watched}
use Rattle.statement_cells.proofs.GrowLemmas.{get_front}

-- none is a conflict
abbrev pub NoConflicts : List Monitor → Type 0
NoConflicts [] = Unit {0}
NoConflicts (m ∷ ms) = (m.kind ≡ Conflict → ⊥) × NoConflicts ms

none_both : (ms ns : List Monitor) → NoConflicts ms → NoConflicts ns → NoConflicts (ms ++ ns)
none_both [] ns g h = h
none_both (m ∷ ms) ns g h = (g.0, none_both ms ns g.1 h)

-- more cells, and monitors of other faults
pub record Still (before after : Builder) : Type 0 where
  pub longer : length before.cells ≤ length after.cells
  pub kept : (k : ℕ) (c : Defined) → slice_get before.cells k ≡ Some c → slice_get after.cells k ≡ Some c
  pub actions : after.actions ≡ before.actions
  pub made : after.made ≡ before.made
  pub writes : after.writes ≡ before.writes
  pub entered : after.entered ≡ before.entered
  pub depths : after.depths ≡ before.depths
  pub more : List Monitor
  pub monitors : after.monitors ≡ before.monitors ++ more
  pub fine : NoConflicts more

pub still : (β : Builder) → Still β β
still β = record { longer = omega arith; kept = λ k c e. e; actions = refl; made = refl; writes = refl; entered = refl; depths = refl; more = []; monitors = sym (append-nil β.monitors); fine = tt }

pub then_still : {a b c : Builder} → Still a b → Still b c → Still a c
then_still {a = a} g h = record {
  longer = omega (arith, g.longer, h.longer);
  kept = λ k d e. h.kept k d (g.kept k d e);
  actions = h.actions ∙ g.actions;
  made = h.made ∙ g.made;
  writes = h.writes ∙ g.writes;
  entered = h.entered ∙ g.entered;
  depths = h.depths ∙ g.depths;
  more = g.more ++ h.more;
  monitors = h.monitors ∙ ap (λ l. l ++ h.more) g.monitors ∙ append_assoc a.monitors g.more h.more;
  fine = none_both g.more h.more g.fine h.fine;
}

new_still : (t : Tree) (β : Builder) → Still β (new t β).built
unfolding new
new_still t β = record {
  longer = omega (arith, length-append β.cells (record { tree = t; place = record { line = 1; col = 1 } } ∷ []));
  kept = λ k c e. get_front β.cells _ k c e;
  actions = refl;
  made = refl;
  writes = refl;
  entered = refl;
  depths = refl;
  more = [];
  monitors = sym (append-nil β.monitors);
  fine = tt;
}

pub not_still : (a : Ref) (β : Builder) → Still β (not_of a β).built
unfolding not_of
not_still (ref.Lit (pos zero)) β = still β
not_still (ref.Lit z) β = still β
not_still a β = new_still _ β

pick_still : (s : Short) (t : Tree) (a b : Ref) (β : Builder) → Still β (pick s t a b β).built
pick_still first t a b β = still β
pick_still second t a b β = still β
pick_still both t a b β = new_still t β

pub and_still : (a b : Ref) (β : Builder) → Still β (and_of a b β).built
unfolding and_of
and_still a b β = pick_still _ _ a b β

pub or_still : (a b : Ref) (β : Builder) → Still β (or_of a b β).built
unfolding or_of
or_still a b β = pick_still _ _ a b β

pub in_still : (l n : ℕ) (β : Builder) → Still β (in_of l n β).built
unfolding in_of
in_still l zero β = still β
in_still l (suc zero) β = still β
in_still l (suc (suc n)) β = new_still _ β

given_still : (o : Option Ref) (t : Tree) (β : Builder) → Still β (given_or_new o t β).built
given_still (Some r) t β = still β
given_still None t β = new_still t β

pub cell_still : (t : Tree) (β : Builder) → Still β (cell_of t β).built
unfolding cell_of
cell_still t β = given_still _ t β

pub enter_still : (l : ℕ) (r : Ref) (β : Builder) → Still β (enter l r β)
unfolding enter
enter_still l r β = record { longer = omega arith; kept = λ k c e. e; actions = refl; made = refl; writes = refl; entered = refl; depths = refl; more = []; monitors = sym (append-nil β.monitors); fine = tt }

pub stay_still : (l : ℕ) (r : Ref) (β : Builder) → Still β (stay_at l r β)
unfolding stay_at
stay_still l r β = record { longer = omega arith; kept = λ k c e. e; actions = refl; made = refl; writes = refl; entered = refl; depths = refl; more = []; monitors = sym (append-nil β.monitors); fine = tt }

-- ---- tests

-- none is one of a conflict
abbrev pub AreOther : List Test → Type 0
AreOther [] = Unit {0}
AreOther (t ∷ ts) = (t.kind ≡ Conflict → ⊥) × AreOther ts

pub other_both : (ts us : List Test) → AreOther ts → AreOther us → AreOther (ts ++ us)
other_both [] us g h = h
other_both (t ∷ ts) us g h = (g.0, other_both ts us g.1 h)

no_range : Range ≡ Conflict → ⊥
no_range e = cc

no_index : Index ≡ Conflict → ⊥
no_index e = cc

no_divisor : Divisor ≡ Conflict → ⊥
no_divisor e = cc

other_if : (b : Bool) (t : Tree) (k : FaultKind) (p : Place) → (k ≡ Conflict → ⊥) → AreOther (test_if b t k p)
other_if true t k p h = (h, tt)
other_if false t k p h = tt

module _ (vs : Vars) (κ : Copies) where
  other_index : (g : Tree) (x : ℕ) (i : Expr ℕ) (p : Place) → AreOther (index_tests vs κ g x i p)
  other_index g x i p = other_if _ _ Index p no_index

  other_divisor : (g : Tree) (op : Binary) (b : Expr ℕ) (p : Place) → AreOther (divisor_tests vs κ g op b p)
  other_divisor g op b p = other_if _ _ Divisor p no_divisor

  pub other_tests : (e : Expr ℕ) (g : Tree) → AreOther (tests_of vs κ g e)
  other_tests (expr.truth b p) g = tt
  other_tests (expr.number n p) g = tt
  other_tests (expr.bits a n p) g = tt
  other_tests (expr.named x p) g = tt
  other_tests (expr.element x i p) g = other_both (tests_of vs κ g i) (index_tests vs κ g x i p) (other_tests i g) (other_index g x i p)
  other_tests (expr.one op a p) g = other_tests a g
  other_tests (expr.two op a b p) g =
      other_both (tests_of vs κ g a) (tests_of vs κ g b ++ divisor_tests vs κ g op b p) (other_tests a g) (other_both (tests_of vs κ g b) (divisor_tests vs κ g op b p) (other_tests b g) (other_divisor g op b p))
  other_tests (expr.choice c a b p) g =
      let t = tree_of vs κ c in
      let yes' = two tree_two.And g t in
      let no' = two tree_two.And g (one tree_one.Not t) in
      other_both (tests_of vs κ g c) (tests_of vs κ yes' a ++ tests_of vs κ no' b) (other_tests c g) (other_both (tests_of vs κ yes' a) (tests_of vs κ no' b) (other_tests a yes') (other_tests b no'))
  other_tests (expr.slice a h l p) g = other_tests a g
  other_tests (expr.to_nat a p) g = other_tests a g
  other_tests (expr.to_bv a n q p) g = other_tests a g
  other_tests (expr.paren a p) g = other_tests a g

  pub other_target : (g : Tree) (i : Option (Expr ℕ)) → AreOther (target_tests vs κ g i)
  other_target g None = tt
  other_target g (Some i) = other_tests i g

  pub other_element : (g : Tree) (x : ℕ) (i : Option (Expr ℕ)) (p : Place) → AreOther (element_tests vs κ g x i p)
  other_element g x None p = tt
  other_element g x (Some i) p = other_index g x i p

  pub other_range : (g : Tree) (x : ℕ) (e : Expr ℕ) (p : Place) → AreOther (range_tests vs κ g x e p)
  other_range g x e p = other_if _ _ Range p no_range

watch_one_still : (t : Test) (β : Builder) → (t.kind ≡ Conflict → ⊥) → Still β (watch_one t β)
watch_one_still t β h = record {
  longer = omega (arith, length-append β.cells (record { tree = t.tree; place = record { line = 1; col = 1 } } ∷ []));
  kept = λ k c e. get_front β.cells _ k c e;
  actions = refl;
  made = refl;
  writes = refl;
  entered = refl;
  depths = refl;
  more = record { cell = length β.cells; place = t.place; kind = t.kind } ∷ [];
  monitors = refl;
  fine = (h, tt);
}

pub watch_still : (ts : List Test) (β : Builder) → AreOther ts → Still β (watch ts β)
unfolding watch
watch_still [] β h = still β
watch_still (t ∷ ts) β h = then_still (watch_one_still t β h.0) (watch_still ts (watch_one t β) h.1)

unless_watch_still : (r : Ref) (β γ : Builder) → Still β γ → Still β (unless_zero_watch r β γ)
unless_watch_still (ref.Lit (pos zero)) β γ g = still β
unless_watch_still (ref.Lit (pos (suc n))) β γ g = g
unless_watch_still (ref.Lit (negsuc n)) β γ g = g
unless_watch_still (ref.Input i) β γ g = g
unless_watch_still (ref.Reg i) β γ g = g
unless_watch_still (ref.Cell i) β γ g = g

watched_still : (vs : Vars) (κ : Copies) (e : Expr ℕ) (g : Ref) (β : Builder) → Still β (watched vs κ e g β)
unfolding watched
watched_still vs κ e g β = unless_watch_still g β _ (watch_still (tests_of vs κ (value g) e) β (other_tests vs κ e (value g)))

pub tested_still : (vs : Vars) (κ : Copies) (e : Expr ℕ) (g : Ref) (β : Builder) → Still β (tested vs κ e g β).built
unfolding tested
tested_still vs κ e g β = then_still (watched_still vs κ e g β) (cell_still _ (watched vs κ e g β))

pub index_still : (vs : Vars) (κ : Copies) (i : Option (Expr ℕ)) (β : Builder) → Still β (index_of vs κ i β).built
index_still vs κ None β = still β
index_still vs κ (Some i) β = cell_still _ β

pub and_more_still : (rs : List Ref) (e : Ref) (β : Builder) → Still β (and_more e rs β).built
unfolding and_more
and_more_still [] e β = still β
and_more_still (r ∷ rs) e β = then_still (and_still e r β) (and_more_still rs (and_of e r β).ref (and_of e r β).built)

pub and_all_still : (rs : List Ref) (e : Ref) (β : Builder) → Still β (and_all e rs β).built
unfolding and_all
and_all_still [] e β = still β
and_all_still (r ∷ rs) e β = and_more_still rs r β

if_all_still : (vs : Vars) (n : ℕ) (β : Builder) (m o : MadeAll) → Still β m.built → Still β o.built → Still β (all_if_labels vs n m o).built
if_all_still vs zero β m o g h = g
if_all_still vs (suc n) β m o g h = h

pub end_still : (vs : Vars) (ts : Terms) (l : ℕ) (rs : List Ref) (β : Builder) → Still β (at_end vs l ts rs β).built
unfolding at_end
end_still vs none l rs β = still β
end_still vs (part t ts) l [] β = still β
end_still vs (part t ts) l (r ∷ rs) β =
    let i = in_of l (labels t) β in
    let o = not_of i.ref i.built in
    let e = or_of r o.ref o.built in
    if_all_still vs (labels t) β _ _ (end_still vs ts (l + labels t) rs β)
    (then_still (in_still l (labels t) β) (then_still (not_still i.ref i.built) (then_still (or_still r o.ref o.built) (end_still vs ts (l + labels t) rs e.built))))

pub suspended_still : (vs : Vars) (κ : Copies) (l n : ℕ) (c : Expr ℕ) (res move stay : Ref) (β : Builder) → Still β (suspended vs κ l n c res move stay β).built
unfolding suspended
suspended_still vs κ l n c res move stay β =
    let i = in_of l n β in
    let a = and_of i.ref res i.built in
    let k = tested vs κ c a.ref a.built in
    let x = and_of move a.ref k.built in
    let y = and_of x.ref k.ref x.built in
    then_still (in_still l n β) (then_still (and_still i.ref res i.built) (then_still (tested_still vs κ c a.ref a.built) (then_still (and_still move a.ref k.built) (then_still (and_still x.ref k.ref x.built) (or_still stay y.ref y.built)))))
